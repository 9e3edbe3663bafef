use Rattle.std.proofs.Common.{◌≡◌, ◌+◌, ◌*◌, ◌≤◌, drop, sum_by}
use Rattle.chare_index.specs.declared.limits.TheConstants.Limits.{LETTERS}
use Rattle.rts_run.proofs.counting.posted_by.Given as goal

abbrev pub invariant-loop-end : goal.invariant-loop-end
invariant-loop-end g l = record {
  counted : l.posted + sum_by (λ pe. pe.count) (drop l.end-index l.ends) ≡ sum_by (λ pe. pe.count) l.ends;
  few : l.posted ≤ l.end-index * LETTERS;
}
