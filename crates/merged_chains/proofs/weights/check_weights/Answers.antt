use Rattle.std.proofs.Common.{◌↔◌, IsOk}
use Rattle.merged_chains.specs.Weights.{IsWeighed}
use Rattle.merged_chains.proofs.Weighings.{exact_answer}
use Rattle.merged_chains.proofs.Certificates.{certified_answer, flaw_answer, least_answer}
use Rattle.merged_chains.proofs.weights.check_weights.Goals as goal

pub returns : goal.returns
returns g c =
    let all = c.args.elements in
    let p = c.args.pes in
    let bl = c.args.block_loads.now in
    let fl = c.args.fence_loads.now in
    let d = c.args.division.now in
    let answer = c.check_numbers.result in
    let weighed = c.check_numbers.ensures.weighed in
    let first = c.check_numbers.ensures.first_flaw in
    let exact : IsOk answer ↔ IsWeighed all p d bl fl = exact_answer all p bl fl d answer weighed first in
    record {
      exact = exact;
      first_flaw = first;
      of_division = λ loads whole weights. certified_answer loads all p bl fl d answer exact whole weights;
      least = λ loads whole weights. least_answer loads all p bl fl d answer weighed whole weights;
      flaw_of_division = λ loads whole weights. flaw_answer loads all p bl fl d answer first whole weights;
    }
