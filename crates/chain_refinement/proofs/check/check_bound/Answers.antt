use Rattle.std.proofs.Common.{◌≡◌, ◌-◌, length, ap, sym, subst, ◌∙◌}
use Rattle.chain_refinement.specs.Internal.{AreGentle, Claimed, claim_of, IsFirstSteep}
use Rattle.chain_refinement.specs.Refinement.{cuts_cost, height_at, refined_limit}
use Rattle.chain_refinement.specs.Walks.{IsLeastStart}
use Rattle.chain_refinement.proofs.FirstFlaws.{height_low_is_first, steep_is_first}
use Rattle.chain_refinement.proofs.Verdicts.{last_height_enough, last_height_low, right_by_parts}
use Rattle.chain_refinement.proofs.check.check_bound.Goals as goal

pub returns-in-Some-clause-first_flaw : goal.returns-in-Some-clause-first_flaw
returns-in-Some-clause-first_flaw g c =
    let s = c.args.snapshot.now in
    let r = c.args.refinement.now in
    let first : IsFirstSteep (claim_of s.loads s.sizes r) (c.in-Some.b, c.in-Some.x) = subst
    (λ (claim : Claimed). IsFirstSteep claim (c.in-Some.b, c.in-Some.x)) c.claim_of-claim.ensures.value c.in-Some.ensures.first in
    steep_is_first s.loads s.sizes c.args.pes r c.in-Some.b c.in-Some.x c.requires.certified c.requires.ordered c.requires.within c.requires.counted c.requires.starts first

pub returns-then-bound-cost_of_cuts-clause-first_flaw : goal.returns-then-bound-cost_of_cuts-clause-first_flaw
returns-then-bound-cost_of_cuts-clause-first_flaw g c =
    let s = c.args.snapshot.now in
    let r = c.args.refinement.now in
    let same = c.claim_of-claim.ensures.value in
    let start = c.last_start-start.result in
    let gentle = subst (λ (claim : Claimed). AreGentle claim (length claim.names - 1)) same c.in_default.ensures.first in
    let least = subst (λ (claim : Claimed). IsLeastStart claim.loads (length claim.loads) claim.limit start) (c.claim.view_is ∙ same) c.last_start-start.ensures.start in
    let last : c.args.pes - 1 ≡ length r.order - 1 = ap (λ n. n - 1) (sym c.requires.ordered.naming.counted) in
    let bound = c.climbed_to-bound.ensures.height ∙ ap (λ (claim : Claimed). height_at claim.heights (c.args.pes - 1) start) same ∙ ap (λ b. height_at r.heights b start) last in
    let cost = c.cost_of_cuts.ensures.cost ∙ ap (λ (claim : Claimed). cuts_cost claim.sizes claim.names c.as_slice.result.now) same
    ∙ ap (cuts_cost s.sizes r.order) c.as_slice.ensures.value in
    let low = last_height_low s.loads s.sizes r.order (refined_limit r) r.cuts r.heights start c.climbed_to-bound.result.height
    c.cost_of_cuts.result least bound cost c.if-bound-cost_of_cuts.true in
    height_low_is_first s.loads s.sizes c.args.pes r c.requires.certified c.requires.ordered c.requires.within c.requires.counted c.requires.starts gentle low

pub returns-clause-right : goal.returns-clause-right
returns-clause-right g c =
    let s = c.args.snapshot.now in
    let r = c.args.refinement.now in
    let same = c.claim_of-claim.ensures.value in
    let start = c.last_start-start.result in
    let gentle = subst (λ (claim : Claimed). AreGentle claim (length claim.names - 1)) same c.in_default.ensures.first in
    let least = subst (λ (claim : Claimed). IsLeastStart claim.loads (length claim.loads) claim.limit start) (c.claim.view_is ∙ same) c.last_start-start.ensures.start in
    let last : c.args.pes - 1 ≡ length r.order - 1 = ap (λ n. n - 1) (sym c.requires.ordered.naming.counted) in
    let bound = c.climbed_to-bound.ensures.height ∙ ap (λ (claim : Claimed). height_at claim.heights (c.args.pes - 1) start) same ∙ ap (λ b. height_at r.heights b start) last in
    let cost = c.cost_of_cuts.ensures.cost ∙ ap (λ (claim : Claimed). cuts_cost claim.sizes claim.names c.as_slice.result.now) same
    ∙ ap (cuts_cost s.sizes r.order) c.as_slice.ensures.value in
    let ends = last_height_enough s.loads s.sizes r.order (refined_limit r) r.cuts r.heights start c.climbed_to-bound.result.height
    c.cost_of_cuts.result least bound cost c.if-bound-cost_of_cuts.false in
    right_by_parts s.loads s.sizes c.args.pes r c.requires.certified c.requires.ordered c.requires.within c.requires.counted c.requires.starts gentle ends
