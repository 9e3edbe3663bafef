use Rattle.std.proofs.Common.{◌≡◌, take}
use Rattle.std.specs.List.{flat_map}
use Rattle.run_account.specs.Noting.{with_noted}
use Rattle.run_text.specs.Sums.{sums_in}
use Rattle.run_text.proofs.sums.note_items.Given as goal

abbrev pub invariant-loop-item : goal.invariant-loop-item
invariant-loop-item g l = l.sums ≡ with_noted l.initial.sums (flat_map (λ x. sums_in x.parcel) (take l.item-index l.items))
