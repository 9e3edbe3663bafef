use Rattle.std.proofs.Common.{◌≡◌, ◌+◌, drop, length}
use Rattle.std.specs.Prelude.{All}
use Rattle.pe_state.specs.Histories.{HasHistories}
use Rattle.rts_core.specs.Worlds.{all_placed}
use Rattle.rts_core.proofs.Openings.{KeysBelow}
use Rattle.rts_core.proofs.opening.place_all.Given as goal

abbrev pub invariant-loop-chare : goal.invariant-loop-chare
invariant-loop-chare g l = record {
  same_placed : all_placed l.n l.pes.items l.e l.left.items ≡ all_placed l.n l.initial.pes.items 0 l.initial.left.items;
  what_is_left : l.left.items ≡ drop l.e g.H.Openings.opened;
  counted : l.e + length l.left.items ≡ l.n;
  same_pes : length l.pes.items ≡ length l.initial.pes.items;
  histories : All (HasHistories g.C.Chare.step g.C.Pup.fits g.C.Pup.pack g.H.Openings.opened) l.pes.items;
  before : All (KeysBelow l.e) l.pes.items;
}

abbrev pub decreases-loop-chare : goal.decreases-loop-chare
decreases-loop-chare g l = length l.left.items
