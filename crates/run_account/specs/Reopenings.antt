-- The PEs of a run that is carried on.
use Rattle.std.specs.Prelude.{ℕ, List, [], ◌∷◌}
use Rattle.pe_state.specs.Pes.{PeView, Parcel}
use Rattle.pe_state.specs.Reopening.{reopened}

-- each PE opened again, with what its queue still held
abbrev pub all_reopened : {C : Type 0} → ℕ → List (PeView C) → List (List Parcel) → List (PeView C)
all_reopened pes (pe ∷ ends) (queue ∷ left) = reopened pes pe queue ∷ all_reopened pes ends left
all_reopened pes ends left = []
