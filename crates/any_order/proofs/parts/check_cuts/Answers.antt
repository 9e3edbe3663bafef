use Rattle.std.proofs.Common.{◌≡◌, length, arith, ap, subst, ◌∙◌, rules, true}
use Rattle.lb_certificates.specs.Chain.{IsDivision}
use Rattle.lb_certificates.specs.Naming.{blocks_between}
use Rattle.any_order.specs.Internal.{BoundedChain, IsFirstHeavy}
use Rattle.any_order.specs.AnyOrder.{reordered_limit}
use Rattle.any_order.proofs.FirstFlaws.{heavy_is_first}
use Rattle.any_order.proofs.parts.check_cuts.Goals as goal

pub returns-in-Some-clause-first_flaw : goal.returns-in-Some-clause-first_flaw
returns-in-Some-clause-first_flaw g c =
    let r = c.args.reordered.now in
    let loads = c.args.snapshot.now.loads in
    let pes = c.args.pes in
    let limit : c.limit.inside.limit ≡ reordered_limit r = ap (λ (chain : BoundedChain). chain.limit) (c.limit.view_is ∙ c.bounded_of.ensures.value) in
    let by_cuts = subst (λ cuts. IsFirstHeavy c.loads-2.result.now pes c.limit.inside.limit cuts c.in-Some.b) c.as_slice-cuts.ensures.value c.in-Some.ensures.first in
    let by_limit = subst (λ n. IsFirstHeavy c.loads-2.result.now pes n r.cuts c.in-Some.b) limit by_cuts in
    let first = subst (λ xs. IsFirstHeavy xs pes (reordered_limit r) r.cuts c.in-Some.b) c.loads-2.ensures.value by_limit in
    let yes : c.divides.result ≡ true = search rules in
    let elements : c.len.result ≡ length loads = c.len.ensures.value ∙ ap length c.loads.ensures.value in
    let blocks : blocks_between r.cuts ≡ pes = omega (arith, ap length c.as_slice-cuts.ensures.value, c.if-cuts-pes.false) in
    let division : IsDivision 0 c.len.result (blocks_between r.cuts) r.cuts = c.divides.ensures.divides.0 yes in
    let divides = subst (λ n. IsDivision 0 n pes r.cuts) elements (subst (λ n. IsDivision 0 c.len.result n r.cuts) blocks division) in
    heavy_is_first loads c.args.snapshot.now.sizes pes r c.in-Some.b c.requires.certified c.requires.ordered divides first
