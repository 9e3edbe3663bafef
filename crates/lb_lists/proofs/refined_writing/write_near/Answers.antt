use Rattle.lb_lists.proofs.FlatSteps.{steps_in}
use Rattle.lb_lists.proofs.refined_writing.write_near.Goals as goal

pub returns-clause-steps : goal.returns-clause-steps
returns-clause-steps g c =
    let w = c.write_steps-count.ensures in
    rw c.numbers.ensures.steps (steps_in c.args.proof.heights c.write_steps-count.result c.args.steps.starts.items
    c.args.steps.places.items c.args.steps.rises.items _ _ c.requires.starts c.requires.places c.requires.rises w.counted w.starts
    w.places w.rises w.starts_left w.places_left w.rises_left)
