use Rattle.std.proofs.Common.{◌≡◌, ◌∙◌, subst}
use Rattle.chain_refinement.specs.Internal.{Claimed}
use Rattle.chain_refinement.specs.Refinement.{cut_cost}
use Rattle.chain_refinement.proofs.HeldBytes.{first_cost}
use Rattle.chain_refinement.proofs.Windows.{empty_window}
use Rattle.chain_refinement.proofs.place.first_place.Goals as goal

pub returns : goal.returns
returns g c =
    let claim = c.args.claim.now in
    let seen = c.claim.inside in
    let cost = subst (λ (claim : Claimed). c.held_by.result ≡ cut_cost claim.sizes claim.names c.args.b 0) c.claim.view_is
    (c.held_by.ensures.value ∙ first_cost seen.sizes.now seen.names.now c.args.b) in
    record {
      place = record {
        cost_is = cost;
        window = empty_window claim.loads claim.limit;
        low = c.climbed_to.ensures.climbed;
        low_is = c.climbed_to.ensures.height;
        high = c.climbed_to-2.ensures.climbed;
        high_is = c.climbed_to-2.ensures.height;
      };
    }
