use Rattle.std.proofs.Common.{ℕ, ◌+◌, length, below_more, subst}
use Rattle.any_order.specs.Internal.{claim_at, Claimed, RisesBelow}
use Rattle.any_order.proofs.steep.first_steep.Goals as goal

pub loop-b-preserved : goal.loop-b-preserved
loop-b-preserved g c =
    let chain = c.args.bounded.now in
    below_more (λ (b : ℕ). RisesBelow (claim_at chain b) (length chain.loads + 1)) c.loop-b.b c.loop-b.invariant
    (subst (λ (claim : Claimed). RisesBelow claim (length claim.loads + 1)) c.claim_of-claim.ensures c.in_default.ensures.first)
