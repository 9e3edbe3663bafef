use Rattle.std.proofs.Common.{arith, subst}
use Rattle.any_order.specs.Internal.{BoundedChain, IsFirstSteep, RisesUpTo}
use Rattle.any_order.proofs.FirstFlaws.{low_is_first, steep_is_first}
use Rattle.any_order.proofs.Verdicts.{right_by_parts}
use Rattle.any_order.proofs.check.check_bounds.Goals as goal

pub returns-in-Some-clause-first_flaw : goal.returns-in-Some-clause-first_flaw
returns-in-Some-clause-first_flaw g c =
    let s = c.args.snapshot.now in
    let r = c.args.reordered.now in
    let pes = c.args.pes in
    let first = subst (λ (chain : BoundedChain). IsFirstSteep chain pes (c.in-Some.b, c.in-Some.y, c.in-Some.x)) c.bounded_of-bounded.ensures.value c.in-Some.ensures.first in
    steep_is_first s.loads s.sizes pes r c.in-Some.b c.in-Some.y c.in-Some.x c.requires.certified c.requires.ordered c.requires.plan
    (record { any = c.requires.any; free = c.requires.free }) (record { any = c.requires.any_starts; free = c.requires.free_starts }) first

pub returns-then-last_bound-bytes_of-clause-first_flaw : goal.returns-then-last_bound-bytes_of-clause-first_flaw
returns-then-last_bound-bytes_of-clause-first_flaw g c =
    let s = c.args.snapshot.now in
    let r = c.args.reordered.now in
    let pes = c.args.pes in
    let risen = subst (λ (chain : BoundedChain). RisesUpTo chain pes) c.bounded_of-bounded.ensures.value c.in_default.ensures.first in
    low_is_first s.loads s.sizes pes r c.requires.certified c.requires.ordered c.requires.plan
    (record { any = c.requires.any; free = c.requires.free }) (record { any = c.requires.any_starts; free = c.requires.free_starts }) risen
    (omega (arith, c.last_bound.ensures.value, c.bytes_of.ensures.value, c.if-last_bound-bytes_of.true))

pub returns-clause-right : goal.returns-clause-right
returns-clause-right g c =
    let s = c.args.snapshot.now in
    let r = c.args.reordered.now in
    let pes = c.args.pes in
    let risen = subst (λ (chain : BoundedChain). RisesUpTo chain pes) c.bounded_of-bounded.ensures.value c.in_default.ensures.first in
    right_by_parts s.loads s.sizes pes r c.requires.certified c.requires.ordered c.requires.plan
    (record { any = c.requires.any; free = c.requires.free }) (record { any = c.requires.any_starts; free = c.requires.free_starts }) risen
    (omega (arith, c.last_bound.ensures.value, c.bytes_of.ensures.value, c.if-last_bound-bytes_of.false))
