use Rattle.std.proofs.Common.{ℕ, ◌<◌, length, IfSome, arith, subst}
use Rattle.lb_any_order.specs.Reorderings.{Fewest, HasPlaceBelow, IsFewest}
use Rattle.lb_any_order.proofs.Cases.{below_names, lesser_is, lesser_moves, lesser_places, lesser_prices, within}
use Rattle.lb_any_order.proofs.refining.refine_in_any_order.Goals as goal

pub returns-in_default-clause-no_more : goal.returns-in_default-clause-no_more
returns-in_default-clause-no_more g c = λ other also.
    let s = c.args.snapshot.now in
    omega (arith, (c.one_refined.ensures.one_refined s.loads s.sizes c.args.pes c.args.tolerance c.in_ok-refined.refined other c.in_ok-refined.ensures.decided.refined also).moved)

pub returns-clause-reordering : goal.returns-clause-reordering
returns-clause-reordering g c =
    let s = c.args.snapshot.now in
    let fewest : IsFewest s.loads s.sizes c.args.pes c.args.tolerance c.in-Some.fewest = subst
    (λ found. IfSome found (IsFewest s.loads s.sizes c.args.pes c.args.tolerance)) c.in-Some.is c.in_ok-fewest.ensures.fewest in
    lesser_is s.loads s.sizes c.args.pes c.args.tolerance c.in_ok-refined.refined c.in-Some.fewest c.lesser.result
    c.in_ok-refined.ensures.decided.refined fewest c.lesser.ensures

pub returns-clause-within : goal.returns-clause-within
returns-clause-within g c =
    let s = c.args.snapshot.now in
    let fewest : IsFewest s.loads s.sizes c.args.pes c.args.tolerance c.in-Some.fewest = subst
    (λ found. IfSome found (IsFewest s.loads s.sizes c.args.pes c.args.tolerance)) c.in-Some.is c.in_ok-fewest.ensures.fewest in
    within s.loads s.sizes c.args.pes c.args.tolerance c.in_ok-refined.refined c.in-Some.fewest c.lesser.result
    c.in_ok-refined.ensures.decided.peak c.in_ok-refined.ensures.decided.within fewest c.lesser.ensures

pub returns-clause-no_more : goal.returns-clause-no_more
returns-clause-no_more g c = λ other also.
    let s = c.args.snapshot.now in
    lesser_moves c.in_ok-refined.refined c.in-Some.fewest c.lesser.result _
    (c.one_refined.ensures.one_refined s.loads s.sizes c.args.pes c.args.tolerance c.in_ok-refined.refined other
    c.in_ok-refined.ensures.decided.refined also).moved c.lesser.ensures

pub returns-clause-places : goal.returns-clause-places
returns-clause-places g c = λ i inside.
    let there : HasPlaceBelow c.args.pes c.in-Some.fewest.0.division.cuts c.in-Some.fewest.0.naming i = subst
    (λ found. IfSome found (λ (f : Fewest _). (i : ℕ) → i < length c.args.snapshot.now.sizes
    → HasPlaceBelow c.args.pes f.0.division.cuts f.0.naming i)) c.in-Some.is c.in_ok-fewest.ensures.places i inside in
    lesser_places c.args.pes i c.in_ok-refined.refined c.in-Some.fewest c.lesser.result
    (below_names c.args.pes _ _ i c.in_ok-refined.ensures.decided.naming (c.in_ok-refined.ensures.decided.places i inside))
    there c.lesser.ensures

pub returns-clause-bounded : goal.returns-clause-bounded
returns-clause-bounded g c =
    lesser_prices c.args.snapshot.now.sizes c.in_ok-refined.refined c.in-Some.fewest c.lesser.result c.in_ok-refined.ensures.decided.bounded c.lesser.ensures
