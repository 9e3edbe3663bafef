use Rattle.std.proofs.Common.{All, ap, map, sym, subst, ◌∙◌}
use Rattle.std.specs.List.{flat_map}
use Rattle.run_account.specs.Noting.{with_noted}
use Rattle.run_text.specs.Sums.{IsTallyParcel, sums_in}
use Rattle.run_account.proofs.Noting.{noted_more}
use Rattle.run_text.proofs.Queues.{all_queued, all_taken, queue_here, queue_inside}
use Rattle.run_text.proofs.sums.note_queues.Goals as goal

pub note_parcels-requires : goal.note_parcels-requires
note_parcels-requires g c =
    let read = c.queue-item in
    let tallies = all_queued c.args.queues.now c.loop-queue.queue-index IsTallyParcel read.result c.requires c.loop-queue-test.true read.is in
    subst (All IsTallyParcel) (sym c.as_slice.ensures.value) tallies

pub loop-queue-preserved : goal.loop-queue-preserved
loop-queue-preserved g c =
    let at = c.loop-queue in
    let queues = c.args.queues.now in
    let queue = c.queue-item.result in
    let inside = queue_inside queues at.queue-index c.loop-queue-test.true in
    let here = queue_here queues at.queue-index queue c.loop-queue-test.true c.queue-item.is in
    let noted = rw c.as_slice.ensures.value at c.note_parcels.ensures in
    noted_more (flat_map sums_in) (map (λ queue. queue.items) queues) at.queue-index queue.items c.args.sums.now at.sums _ inside here at.invariant noted

pub returns : goal.returns
returns g c =
    let whole = all_taken c.args.queues.now c.loop-queue.queue-index c.loop-queue-test.false in
    c.loop-queue.invariant ∙ ap (λ v. with_noted c.args.sums.now (flat_map (flat_map sums_in) v)) whole
