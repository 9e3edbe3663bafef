use Rattle.std.proofs.Common.{◌≡◌, ◌+◌, length, take}
use Rattle.std.specs.Prelude.{◌%◌, ◌^◌}
use Rattle.rts_core.specs.Accounts.{executions, posts}
use Rattle.schedules.proofs.letter_count.LetterCount.with.Given as goal

abbrev pub invariant-loop-entry : goal.invariant-loop-entry
invariant-loop-entry l = record {
  posted : l.count.posted ≡ (l.fn.self.posted + length (posts (take l.entry-index l.entries))) % 2 ^ 64;
  executed : l.count.executed ≡ (l.fn.self.executed + length (executions (take l.entry-index l.entries))) % 2 ^ 64;
}
