use Rattle.std.proofs.Common.{◌≡◌, inl, inr, slice_index, arith, refl, ◌∙◌}
use Rattle.std.proofs.lemmas.List.Edits.{Swapped, swapped_from_swap}
use Rattle.block_assignment.specs.Least.{member}
use Rattle.block_assignment.proofs.Exchanges.{passing_starts, passing_more, passing_less, passing_ends}
use Rattle.block_assignment.proofs.LeastPes.{member_or_not, least_chosen, least_kept}
use Rattle.block_assignment.proofs.least.give_least_pe.Goals as goal

pub returns-then-not-may_have_less-clause-least : goal.returns-then-not-may_have_less-clause-least
returns-then-not-may_have_less-clause-least c =
    least_kept c.args.takers.now c.args.names.now c.args.b c.requires.naming c.requires.inside (c.if-not-may_have_less.ensures refl)

pub loop-taken-init : goal.loop-taken-init
loop-taken-init c = (
  c.search_from.new.left,
  c.search_from.ensures.trail,
  passing_starts _ _ _ _ _ _ c.search_from.ensures.trail c.requires.naming c.requires.allowed c.requires.inside
      c.choose-taken.ensures.reached c.choose-taken.ensures.allowed,
)

pub loop-taken-preserved : goal.loop-taken-preserved
loop-taken-preserved c =
    let passing = c.loop-taken.invariant.2 in
    let swapped : Swapped (λ k. slice_index c.loop-taken.names k) (λ k. slice_index c.swap.new.self k) c.loop-taken.holder
    c.loop-taken.taken = swapped_from_swap c.loop-taken.names c.swap.new.self c.loop-taken.holder c.loop-taken.taken 0
    (omega (arith, passing.holder_in, passing.naming.counted)) (omega (arith, passing.reached.inside, passing.naming.counted)) c.swap.ensures.after in (
      c.loop-taken.invariant.0,
      c.loop-taken.invariant.1,
      passing_more _ _ _ _ _ _ c.loop-taken.invariant.1 c.requires.naming _ _ _ passing
          (λ e. absurd (omega (arith, c.loop-taken-test.true, e))) c.swap.new.self (omega (arith, passing.naming.counted, c.swap.ensures.len)) swapped,
    )

pub loop-taken-smaller : goal.loop-taken-smaller
loop-taken-smaller c =
    let passing = c.loop-taken.invariant.2 in
    let swapped : Swapped (λ k. slice_index c.loop-taken.names k) (λ k. slice_index c.swap.new.self k) c.loop-taken.holder
    c.loop-taken.taken = swapped_from_swap c.loop-taken.names c.swap.new.self c.loop-taken.holder c.loop-taken.taken 0
    (omega (arith, passing.holder_in, passing.naming.counted)) (omega (arith, passing.reached.inside, passing.naming.counted)) c.swap.ensures.after in
    passing_less _ _ _ _ _ _ c.loop-taken.invariant.1 c.requires.naming _ _ _ passing
    (λ e. absurd (omega (arith, c.loop-taken-test.true, e))) c.swap.new.self (omega (arith, passing.naming.counted, c.swap.ensures.len)) swapped

pub returns-clause-allowed : goal.returns-clause-allowed
returns-clause-allowed c =
    (passing_ends _ _ _ _ _ _ c.loop-taken.invariant.1 c.requires.naming _ _ _ c.loop-taken.invariant.2 (omega arith)).0

pub returns-clause-least : goal.returns-clause-least
returns-clause-least c = λ others other allowed agree.
    let taken : member c.search_from.new.left c.args.b ≡ 0 = elim (member_or_not c.search_from.new.left c.args.b)
    [ inl out ↦ out | inr has ↦ absurd (omega (arith, (c.search_from.ensures.trail.later c.args.b has).0)) ] in
    omega (
      arith,
      (passing_ends _ _ _ _ _ _ c.loop-taken.invariant.1 c.requires.naming _ _ _ c.loop-taken.invariant.2 (omega arith)).1,
      least_chosen c.args.takers.now c.args.names.now c.search_from.new.left c.args.b c.choose-taken.result c.requires.naming
          c.requires.inside taken c.search_from.ensures.closed c.choose-taken.ensures.least others other allowed
          (λ k before. agree k before ∙ c.loop-taken.invariant.2.before k before),
    )

pub returns-then-not-may_have_less-clause-naming : goal.returns-then-not-may_have_less-clause-naming
returns-then-not-may_have_less-clause-naming c = c.requires.naming

pub returns-then-not-may_have_less-clause-allowed : goal.returns-then-not-may_have_less-clause-allowed
returns-then-not-may_have_less-clause-allowed c = c.requires.allowed

pub returns-then-not-may_have_less-clause-before : goal.returns-then-not-may_have_less-clause-before
returns-then-not-may_have_less-clause-before c = λ k before. refl

pub returns-clause-naming : goal.returns-clause-naming
returns-clause-naming c = c.loop-taken.invariant.2.naming

pub returns-clause-before : goal.returns-clause-before
returns-clause-before c = c.loop-taken.invariant.2.before
