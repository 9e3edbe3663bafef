use Rattle.std.proofs.Common.{◌≡◌, ◌+◌, ◌++◌, ◌≤◌, length, vec_capacity}
use Rattle.std.specs.Prelude.{All}
use Rattle.pe_state.specs.Histories.{IsParcelHistory}
use Rattle.run_account.proofs.left_buffers.release_queue.Given as goal

abbrev pub invariant-loop-parcel : goal.invariant-loop-parcel
invariant-loop-parcel g l = record {
  parcels : l.room.items ++ l.queue.items ≡ l.fn.queue.items;
  wide : length l.room.items + length l.queue.items ≤ vec_capacity l.room;
  histories : All (IsParcelHistory g.C.Chare.step g.C.Pup.fits g.C.Pup.pack g.H.Openings.opened) l.room.items;
}

abbrev pub decreases-loop-parcel : goal.decreases-loop-parcel
decreases-loop-parcel g l = length l.queue.items
