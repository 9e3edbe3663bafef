use Rattle.std.proofs.Common.{◌≡◌, ◌+◌, length, drop}
use Rattle.std.specs.List.{flat_map}
use Rattle.rts_core.specs.Places.{letters_in}
use Rattle.rts_core.proofs.account.addressed.Given as goal

abbrev pub invariant-loop-item : goal.invariant-loop-item
invariant-loop-item g l = l.letters + length (flat_map (λ x. letters_in x.parcel) (drop l.item-index l.items)) ≡ length (flat_map (λ x. letters_in x.parcel) l.items)
