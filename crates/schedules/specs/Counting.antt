-- Letters that are counted step by step, each number modulo 2^64.
use Rattle.std.specs.Prelude.{◌≡◌, List, ◌%◌, ◌^◌, length}
use Rattle.chares.specs.declared.trace_entry.TraceEntry.{TraceEntry}
use Rattle.rts_core.specs.Accounts.{executions, posts}
use Rattle.schedules.specs.declared.letter_count.LetterCount.{LetterCount}

-- they are those that a trace says were posted, and those that it says were executed
pub record Counts (trace : List TraceEntry) (count : LetterCount) : Type 0 where
  pub posted : count.posted ≡ length (posts trace) % 2 ^ 64
  pub executed : count.executed ≡ length (executions trace) % 2 ^ 64
