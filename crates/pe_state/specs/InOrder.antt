-- The elements that stand on some PEs, in the order of their indices.
use Rattle.std.specs.Prelude.{ℕ, List, [], ◌∷◌, Option, None}
use Rattle.std.specs.List.{flat_map}
use Rattle.std.specs.Option.{option_or, option_to_list}
use Rattle.chares.specs.Elements.{ElementView}
use Rattle.pe_state.specs.Pes.{PeView}
use Rattle.pe_state.specs.Rooms.{found}

-- the element with this index, on the first PE where one stands: in a run that ended no second PE has one
abbrev pub element_on : {C : Type 0} → ℕ → List (PeView C) → Option (ElementView C)
element_on i [] = None
element_on i (pe ∷ pes) = option_or (found i pe.room) (element_on i pes)

-- the element with each of these indices, where one stands on a PE
abbrev pub elements_at : {C : Type 0} → List ℕ → List (PeView C) → List (ElementView C)
elements_at indices pes = flat_map (λ i. option_to_list (element_on i pes)) indices
