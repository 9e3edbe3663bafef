use Rattle.std.proofs.Common.{◌≡◌, ◌+◌, ◌*◌, ◌≤◌, drop, sum_by}
use Rattle.chare_index.specs.declared.limits.TheConstants.Limits.{LETTERS}
use Rattle.rts_core.proofs.account.posted_by.Given as goal

abbrev pub invariant-loop-pe : goal.invariant-loop-pe
invariant-loop-pe g l = record {
  counted : l.posted + sum_by (λ pe. pe.count) (drop l.pe-index l.pes) ≡ sum_by (λ pe. pe.count) l.pes;
  few : l.posted ≤ l.pe-index * LETTERS;
}
