use Rattle.std.proofs.Common.{length, ap, arith, sym, subst}
use Rattle.pe_state.specs.Histories.{IsParcelHistory}
use Rattle.run_account.proofs.Passing.{passed, all_passed, all_more, counted_more}
use Rattle.run_account.proofs.left_buffers.release_queue.Goals as goal

pub loop-parcel-preserved : goal.loop-parcel-preserved
loop-parcel-preserved g c =
    let i = c.loop-parcel.invariant in
    let is = c.in-Some.ensures.taken in
    let n = counted_more c.loop-parcel.room.items c.push_reserved.new.self.items c.into_held.result c.push_reserved.ensures.items in
    record {
      parcels = passed c.loop-parcel.room.items c.push_reserved.new.self.items c.loop-parcel.queue.items c.take_next.new.left.items
          c.args.queue.items c.in-Some.parcel c.into_held.result is c.push_reserved.ensures.items c.into_held.ensures.value i.parcels;
      wide = omega (arith, i.wide, n, ap length is, c.push_reserved.ensures.capacity);
      histories = all_more (IsParcelHistory g.C.Chare.step g.C.Pup.fits g.C.Pup.pack g.H.Openings.opened) c.loop-parcel.room.items
          c.push_reserved.new.self.items c.into_held.result c.push_reserved.ensures.items i.histories
          (subst (IsParcelHistory g.C.Chare.step g.C.Pup.fits g.C.Pup.pack g.H.Openings.opened) (sym c.into_held.ensures.value) c.into_held.ensures.history);
    }

pub returns-clause-parcels : goal.returns-clause-parcels
returns-clause-parcels g c = all_passed c.loop-parcel.room.items c.loop-parcel.queue.items c.args.queue.items c.in_default.ensures.taken.0 c.loop-parcel.invariant.parcels
