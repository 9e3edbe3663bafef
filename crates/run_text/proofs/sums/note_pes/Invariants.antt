use Rattle.std.proofs.Common.{◌≡◌, take}
use Rattle.std.specs.List.{flat_map}
use Rattle.run_account.specs.Noting.{with_noted}
use Rattle.run_text.specs.Sums.{sums_at}
use Rattle.run_text.proofs.sums.note_pes.Given as goal

abbrev pub invariant-loop-end : goal.invariant-loop-end
invariant-loop-end g l = l.sums ≡ with_noted l.initial.sums (flat_map sums_at (take l.end-index l.ends))
