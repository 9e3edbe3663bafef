use Rattle.std.proofs.Common.{◌≡◌, ℕ, ◌<◌, ◌≤◌, length, List, slice_index, arith, ap, sym, subst, ◌∙◌}
use Rattle.lb_certificates.specs.Flaws.{Repeats}
use Rattle.chain_refinement.proofs.FirstFlaws.{name_range_is_first, name_twice_is_first}
use Rattle.chain_refinement.proofs.check.check_order.Goals as goal

pub returns-then-not-all_below-clause-first_flaw : goal.returns-then-not-all_below-clause-first_flaw
returns-then-not-all_below-clause-first_flaw g c =
    let r = c.args.refinement.now in
    let pes = c.args.pes in
    let same = c.as_slice-names.ensures.value in
    let named : length r.order ≡ pes = sym (ap length same) ∙ c.if-names-pes.false in
    let wrong = subst (λ (names : List ℕ). (b : ℕ) × (b < length names) × (pes ≤ slice_index names b)) same c.if-not-all_below.ensures.below in
    name_range_is_first c.args.snapshot.now.loads c.args.snapshot.now.sizes pes r c.requires.certified (omega (arith, c.if-pes-eq0.false))
    (omega (arith, c.if-pes-gt-PES.false)) named wrong

pub returns-then-not-all_apart-clause-first_flaw : goal.returns-then-not-all_apart-clause-first_flaw
returns-then-not-all_apart-clause-first_flaw g c =
    let r = c.args.refinement.now in
    let pes = c.args.pes in
    let same = c.as_slice-names.ensures.value in
    let named : length r.order ≡ pes = sym (ap length same) ∙ c.if-names-pes.false in
    let below = subst (λ (names : List ℕ). (b : ℕ) → b < length names → slice_index names b < pes) same c.if-not-all_below.ensures.below in
    let wrong : Repeats r.order = subst Repeats same c.if-not-all_apart.ensures.apart in
    name_twice_is_first c.args.snapshot.now.loads c.args.snapshot.now.sizes pes r c.requires.certified (omega (arith, c.if-pes-eq0.false))
    (omega (arith, c.if-pes-gt-PES.false)) named below wrong
