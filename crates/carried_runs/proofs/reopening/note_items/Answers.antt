use Rattle.run_account.proofs.Noting.{noted_more}
use Rattle.carried_runs.specs.Places.{sighted_in}
use Rattle.carried_runs.proofs.reopening.note_items.Goals as goal

pub loop-item-preserved : goal.loop-item-preserved
loop-item-preserved g c =
    let at = c.loop-item in
    record {
      noted = noted_more (sighted_in g.H.Openings.pes c.args.state.now.me) c.args.items.now at.item-index c.item-item.result c.args.places.now at.places _ c.loop-item-test.true c.item-item.is at.invariant.noted c.note_item.ensures.noted;
      named = c.note_item.ensures.named;
    }
