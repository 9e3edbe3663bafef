use Rattle.std.proofs.Common.{◌≡◌, ◌+◌, drop, length}
use Rattle.std.specs.Prelude.{All}
use Rattle.rts_core.proofs.Openings.{KeysBelow}
use Rattle.placed_runs.specs.Placed.{each_placed}
use Rattle.placed_runs.proofs.opening.place_all.Given as goal

abbrev pub invariant-loop-chare : goal.invariant-loop-chare
invariant-loop-chare g l = record {
  same_placed : each_placed l.pes.items l.e l.left.items (drop l.e l.places) ≡ each_placed l.initial.pes.items 0 l.initial.left.items l.places;
  what_is_left : l.left.items ≡ drop l.e g.H.Openings.opened;
  counted : l.e + length l.left.items ≡ length l.places;
  same_pes : length l.pes.items ≡ length l.initial.pes.items;
  before : All (KeysBelow l.e) l.pes.items;
}

abbrev pub decreases-loop-chare : goal.decreases-loop-chare
decreases-loop-chare g l = length l.left.items
