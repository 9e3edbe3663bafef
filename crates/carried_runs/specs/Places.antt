-- Where the elements of a run that was stopped are to be looked for.
use Rattle.std.specs.Prelude.{ℕ, List, [], ◌∷◌, ◌++◌, map, nat_lt, if◌then◌else◌, Option, None, Some}
use Rattle.std.specs.List.{flat_map}
use Rattle.std.specs.Map.{values_of}
use Rattle.chares.specs.declared.carried.Carried.TheVariants.{Letter, Element}
use Rattle.pe_state.specs.Pes.{PeView, Item, Parcel}
use Rattle.rts_core.specs.Places.{items_at}

-- where this PE sends a parcel with this address: nowhere, if that is none of the PEs
abbrev pub goes_to : ℕ → ℕ → Option ℕ → ℕ
goes_to pes me None = me
goes_to pes me (Some q) = if nat_lt q pes then q else me

-- the element that a parcel is, if it is one, beside this PE
abbrev pub sighted : ℕ → Parcel → List (ℕ × ℕ)
sighted q (Letter l) = []
sighted q (Element p) = (p.index, q) ∷ []

-- the element of a parcel in the hand or the outbox of a PE, beside the PE that it goes to
abbrev pub sighted_in : ℕ → ℕ → Item → List (ℕ × ℕ)
sighted_in pes me x = sighted (goes_to pes me x.address) x.parcel

-- the elements that a PE has, each beside the PE where it is to be looked for: this one, or the one that it goes to
abbrev pub sightings : {C : Type 0} → ℕ → PeView C → List (ℕ × ℕ)
sightings pes pe = map (λ el. (el.index, pe.me)) (values_of pe.room) ++ flat_map (sighted_in pes pe.me) (items_at pe)
