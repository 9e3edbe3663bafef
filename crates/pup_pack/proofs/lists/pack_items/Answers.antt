use Rattle.std.proofs.Common.{length, flat_map, take, arith, ap, length-append}
use Rattle.pup_pack.proofs.Packs.{appended_more, packs_more, all_more, item_room, item_refused}
use Rattle.pup_pack.proofs.lists.pack_items.Goals as goal

pub returns-in-Err-clause-answer : goal.returns-in-Err-clause-answer
returns-in-Err-clause-answer g c =
    item_refused g.T.Pup.counted g.T.Pup.pack c.args.items.now c.loop-item.item-index c.item-item.result c.in-Err.refusal (omega arith)
    c.item-item.is c.requires.few c.in-Err.ensures.answer

pub returns-in-Err-clause-full : goal.returns-in-Err-clause-full
returns-in-Err-clause-full g c = λ e.
    let full = c.in-Err.ensures.full e in
    let room = item_room g.T.Pup.pack c.args.items.now c.loop-item.item-index c.item-item.result (omega arith) c.item-item.is in
    let len = ap length c.loop-item.invariant.appended in
    omega (arith, full, room, simp length-append at len)

pub loop-item-preserved : goal.loop-item-preserved
loop-item-preserved g c =
    let more = packs_more g.T.Pup.pack c.args.items.now c.loop-item.item-index c.item-item.result (omega arith) c.item-item.is in
    record {
      appended = rw more (appended_more c.args.out.now.items (flat_map g.T.Pup.pack (take c.loop-item.item-index c.args.items.now))
          (g.T.Pup.pack c.item-item.result) c.in-Ok.ensures.appended c.loop-item.invariant.appended);
      counted = all_more g.T.Pup.counted c.args.items.now c.loop-item.item-index c.item-item.result (omega arith) c.item-item.is
          c.loop-item.invariant.counted c.in-Ok.ensures.answer.0;
      capacity = omega arith;
    }
