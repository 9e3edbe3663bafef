use Rattle.std.proofs.Common.{rules}
use Rattle.lb_certificates.specs.Flaws.{IsFirst}
use Rattle.merged_chains.specs.Weights.{HasWeightFlaw}
use Rattle.merged_chains.proofs.weights.check_numbers.Goals as goal

pub returns-in_err-check_cuts-clause-first_flaw : goal.returns-in_err-check_cuts-clause-first_flaw
returns-in_err-check_cuts-clause-first_flaw g c =
    let first : IsFirst (HasWeightFlaw c.args.elements c.args.pes c.args.division.now c.args.block_loads.now c.args.fence_loads.now)
    c.in_err-check_cuts.field-0.0 = c.in_err-check_cuts.ensures.first_flaw c.args.block_loads.now c.args.fence_loads.now in
    search rules
