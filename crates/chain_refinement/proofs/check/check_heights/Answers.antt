use Rattle.std.proofs.Common.{◌≡◌, ◌≢◌, length, ap, sym, ◌∙◌}
use Rattle.chain_refinement.specs.Internal.{Claimed}
use Rattle.chain_refinement.specs.Refinement.{height_at}
use Rattle.chain_refinement.proofs.FirstFlaws.{height_count_is_first, height_start_is_first}
use Rattle.chain_refinement.proofs.check.check_heights.Goals as goal

pub returns-then-as_slice-pes-clause-first_flaw : goal.returns-then-as_slice-pes-clause-first_flaw
returns-then-as_slice-pes-clause-first_flaw g c =
    let r = c.args.refinement.now in
    let wrong : length r.heights ≢ c.args.pes = λ counted. c.if-as_slice-pes.true (ap length c.as_slice.ensures.value ∙ counted) in
    height_count_is_first c.args.snapshot.now.loads c.args.snapshot.now.sizes c.args.pes r c.requires.certified c.requires.ordered c.requires.within wrong

pub returns-then-climbed_to-ne0-clause-first_flaw : goal.returns-then-climbed_to-ne0-clause-first_flaw
returns-then-climbed_to-ne0-clause-first_flaw g c =
    let r = c.args.refinement.now in
    let counted : length r.heights ≡ c.args.pes = sym (ap length c.as_slice.ensures.value) ∙ c.if-as_slice-pes.false in
    let reached : c.climbed_to.result.height ≡ height_at r.heights 0 0 = c.climbed_to.ensures.height
    ∙ ap (λ (claim : Claimed). height_at claim.heights 0 0) c.claim_of-claim.ensures.value in
    let wrong : height_at r.heights 0 0 ≢ 0 = λ start. c.if-climbed_to-ne0.true (reached ∙ start) in
    height_start_is_first c.args.snapshot.now.loads c.args.snapshot.now.sizes c.args.pes r c.requires.certified c.requires.ordered c.requires.within counted wrong
