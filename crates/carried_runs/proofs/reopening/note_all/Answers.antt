use Rattle.run_account.proofs.Noting.{noted_more}
use Rattle.carried_runs.specs.Places.{sightings}
use Rattle.carried_runs.proofs.reopening.note_all.Goals as goal

pub loop-state-preserved : goal.loop-state-preserved
loop-state-preserved g c =
    let at = c.loop-state in
    record {
      noted = noted_more (sightings g.H.Openings.pes) c.args.states.now at.state-index c.state-item.result c.args.places.now at.places _ c.loop-state-test.true c.state-item.is at.invariant.noted c.note_pe.ensures.noted;
      named = c.note_pe.ensures.named;
    }
