-- A PE that a run left, as it opens again in a run on this many PEs, with what its queue still held.
use Rattle.std.specs.Prelude.{ℕ, nat_lt, if◌then◌else◌, List, ◌++◌, map, Option, None, Some}
use Rattle.std.specs.Option.{option_map}
use Rattle.pe_state.specs.Pes.{PeView, Parcel, Item}

-- an address names one of the PEs, or else it becomes this PE
abbrev pub address_again : ℕ → ℕ → Option ℕ → Option ℕ
address_again pes me None = None
address_again pes me (Some q) = Some (if nat_lt q pes then q else me)

-- a parcel with such an address
abbrev pub readdressed : ℕ → ℕ → Item → Item
readdressed pes me x = record { parcel = x.parcel; address = address_again pes me x.address }

-- a parcel that is addressed to a PE
abbrev pub parcel_at : ℕ → Parcel → Item
parcel_at q parcel = record { parcel = parcel; address = Some q }

-- the PE with such addresses, in its hand too, and with the parcels that its queue held at the back of its outbox, addressed
-- to itself
abbrev pub reopened : {C : Type 0} → ℕ → PeView C → List Parcel → PeView C
reopened pes pe left =
    record pe {
      hand = option_map (readdressed pes pe.me) pe.hand;
      outbox = map (readdressed pes pe.me) pe.outbox ++ map (parcel_at pe.me) left;
      kept = None;
    }
