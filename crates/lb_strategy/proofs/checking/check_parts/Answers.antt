use Rattle.std.proofs.Common.{◌≡◌, true, false, Result, Ok, Err, IsOk, IsErr, refl, inl, inr, rules}
use Rattle.lb_strategy.proofs.RightDecisions.{cheapest_from_right, least_from_right, place_from_right}
use Rattle.lb_strategy.proofs.checking.check_parts.Goals as goal

not_both : {A B : Type 0} (r : Result A B) → IsOk r → IsErr r → ⊥
not_both (Ok a) ok err = let bad : false ≡ true = err in cc
not_both (Err e) ok err = let bad : false ≡ true = ok in cc

pub returns-in_err-moved-clause-exact : goal.returns-in_err-moved-clause-exact
returns-in_err-moved-clause-exact g c = (
  λ ok. absurd (not_both c.from_residual-in_err-moved.result ok c.from_residual-in_err-moved.ensures.0),
  λ right. let bad : false ≡ true = c.in_err-moved.ensures.exact.1 right.named in cc,
)

pub returns-clause-exact : goal.returns-clause-exact
returns-clause-exact g c = (
  λ ok. record {
    division = c.in_ok-check_division.ensures.exact.0 refl;
    named = c.in_ok-moved.ensures.exact.0 refl;
    moved = search rules;
    moves = search rules;
  },
  λ right. refl,
)

pub returns-clause-least : goal.returns-clause-least
returns-clause-least g c =
    least_from_right c.args.loads.now c.args.sizes.now c.args.pes c.args.decision.now ((returns-clause-exact g c).0 refl)

pub returns-clause-cheapest : goal.returns-clause-cheapest
returns-clause-cheapest g c =
    cheapest_from_right c.args.loads.now c.args.sizes.now c.args.pes c.args.decision.now ((returns-clause-exact g c).0 refl)

pub returns-clause-places : goal.returns-clause-places
returns-clause-places g c =
    place_from_right c.args.loads.now c.args.sizes.now c.args.pes c.args.decision.now ((returns-clause-exact g c).0 refl)

pub returns-then-moved-decision-clause-first_flaw : goal.returns-then-moved-decision-clause-first_flaw
returns-then-moved-decision-clause-first_flaw g c =
    inr (inr (inl (c.in_ok-check_division.ensures.exact.0 refl, c.in_ok-moved.ensures.exact.0 refl, refl, search rules)))

pub returns-in_err-check_division-clause-exact : goal.returns-in_err-check_division-clause-exact
returns-in_err-check_division-clause-exact g c = (
  λ ok. absurd (not_both c.from_residual.result ok c.from_residual.ensures.0),
  λ right. let bad : false ≡ true = c.in_err-check_division.ensures.exact.1 right.division in cc,
)

pub returns-then-moved-decision-clause-exact : goal.returns-then-moved-decision-clause-exact
returns-then-moved-decision-clause-exact g c = (
  λ ok. let bad : false ≡ true = ok in cc,
  λ right. let told = right.moved in search (rules, told),
)

pub returns-then-not-has_right_moves-clause-exact : goal.returns-then-not-has_right_moves-clause-exact
returns-then-not-has_right_moves-clause-exact g c = (
  λ ok. let bad : false ≡ true = ok in cc,
  λ right. let told = right.moves in search (rules, told),
)

pub returns-then-not-has_right_moves-clause-first_flaw : goal.returns-then-not-has_right_moves-clause-first_flaw
returns-then-not-has_right_moves-clause-first_flaw g c =
    inr (inr (inr (c.in_ok-check_division.ensures.exact.0 refl, c.in_ok-moved.ensures.exact.0 refl, refl, search rules, search rules)))
