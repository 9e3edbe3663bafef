use Rattle.std.proofs.Common.{ℕ, List, subst}
use Rattle.chares.specs.Elements.{ElementView}
use Rattle.pe_state.specs.Rooms.{IsKeyed}
use Rattle.pe_state.specs.Rows.{entries_of}
use Rattle.pe_state.proofs.Edits.{keyed_found}
use Rattle.pe_state.proofs.room.Room.known.Goals as goal

pub returns : goal.returns
returns g c = record {
  keyed = subst (λ (r : List (ℕ × ElementView g.row.C.Denot)). IsKeyed r) c.self.view_is
      (keyed_found (entries_of c.self.inside.rows.items) c.self.invariant.keyed);
}
