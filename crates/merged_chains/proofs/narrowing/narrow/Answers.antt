use Rattle.merged_chains.proofs.NarrowedBounds.{narrowed_encloses}
use Rattle.merged_chains.proofs.narrowing.narrow.Goals as goal

pub returns-clause-encloses : goal.returns-clause-encloses
returns-clause-encloses c = λ loads walked h. narrowed_encloses loads c.args.pes c.args.bounds.low c.args.bounds.high c.raised.result
    c.lowered.result c.args.limits.now c.args.closed.now c.requires.some_pe walked h c.raised.ensures c.lowered.ensures
