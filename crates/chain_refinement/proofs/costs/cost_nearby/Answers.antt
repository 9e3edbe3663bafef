use Rattle.std.proofs.Common.{◌≡◌, ◌+◌, ◌-◌, ◌≤◌, length, slice_index, slice_range, arith, refl, subst, sym, ◌∙◌}
use Rattle.lb_snapshot.specs.Measured.{IsSizes}
use Rattle.lb_snapshot.proofs.Parts.{sizes_part}
use Rattle.lb_certificates.proofs.Chains.{block_within}
use Rattle.chain_refinement.specs.Internal.{Claimed}
use Rattle.chain_refinement.specs.Refinement.{held}
use Rattle.chain_refinement.proofs.Orders.{apart_from_order, cost_before, cost_behind}
use Rattle.chain_refinement.proofs.costs.cost_nearby.Goals as goal

pub returns-then-x-cut : goal.returns-then-x-cut
returns-then-x-cut g c =
    let claim = c.args.claim.now in
    let present = c.args.present.now in
    let b = c.args.b in
    let cut = slice_index present (b + 1) in
    let apart = apart_from_order claim.sizes claim.names present b c.requires.claimed.order c.requires.order c.requires.inside in
    let within : cut ≤ length claim.sizes = (block_within (length claim.sizes) (length claim.names) present b c.requires.order.divides (omega (arith, c.requires.inside))).1 in
    let value = subst (λ (seen : Claimed). c.held_by.result ≡ held (slice_range seen.sizes c.args.x cut) (slice_index seen.names b)) c.claim.view_is c.held_by.ensures.value in
    record { cost = value ∙ cost_before claim.sizes claim.names present b c.args.x cut apart refl (omega (arith, c.if-x-cut.true)) within }

pub held_by-requires-2 : goal.held_by-requires-2
held_by-requires-2 g c =
    let claim = c.args.claim.now in
    let cut = slice_index c.args.present.now (c.args.b + 1) in
    let part = sizes_part claim.sizes cut (c.args.x - cut) c.requires.claimed.sizes in
    record { measured = subst (λ (seen : Claimed). IsSizes (slice_range seen.sizes cut c.args.x)) (sym c.claim.view_is) part }

pub returns : goal.returns
returns g c =
    let claim = c.args.claim.now in
    let present = c.args.present.now in
    let b = c.args.b in
    let cut = slice_index present (b + 1) in
    let apart = apart_from_order claim.sizes claim.names present b c.requires.claimed.order c.requires.order c.requires.inside in
    let value = subst (λ (seen : Claimed). c.held_by-2.result ≡ held (slice_range seen.sizes cut c.args.x) (slice_index seen.names (b + 1)))
    c.claim.view_is c.held_by-2.ensures.value in
    record { cost = value ∙ cost_behind claim.sizes claim.names present b c.args.x cut apart refl (omega (arith, c.if-x-cut.false)) c.requires.within }
