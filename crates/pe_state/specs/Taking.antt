-- A PE that a run left, without an element that was taken out of its room.
use Rattle.std.specs.Prelude.{ℕ}
use Rattle.pe_state.specs.Pes.{PeView}
use Rattle.pe_state.specs.Rooms.{without}

abbrev pub taken : {C : Type 0} → ℕ → PeView C → PeView C
taken e pe = record pe { room = without e pe.room }
