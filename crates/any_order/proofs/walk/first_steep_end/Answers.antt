use Rattle.std.proofs.Common.{◌≡◌, ◌+◌, ◌<◌, ◌^◌, ℕ, get_or, length, slice_index, slice_set, arith, ap, refl, subst, sym, ◌∙◌, IsFalse}
use Rattle.chare_index.specs.declared.limits.TheConstants.Limits.{PES}
use Rattle.chain_refinement.specs.Refinement.{held_bytes}
use Rattle.chain_refinement.proofs.Windows.{window_fits}
use Rattle.any_order.specs.AnyOrder.{home}
use Rattle.any_order.specs.Internal.{high_at, is_high_level, IsHolding, IsMost, IsRisen}
use Rattle.any_order.specs.declared.block.Pair.{Pair}
use Rattle.any_order.proofs.Walks.{begin_walk, bytes_fit, held_next, kept_fit, next_walk, steep_end, too_heavy}
use Rattle.any_order.proofs.walk.first_steep_end.Goals as goal

pub loop-x-init : goal.loop-x-init
loop-x-init c =
    begin_walk c.args.claim.now c.args.y c.home_at-own.result c.loop-bytes.kept c.args.high
    (omega (arith, c.loop-bytes.auto.kept, c.requires.counted))
    (λ k low. c.loop-bytes.invariant k (omega (arith, low, c.loop-bytes-test.false, c.loop-bytes.auto.kept, c.loop-bytes.auto.bytes-index-end, c.requires.counted)))
    c.home_at-own.ensures.in_range c.requires.here c.requires.high

pub overflow_add-weight : goal.overflow_add-weight
overflow_add-weight c =
    omega (
      arith,
      c.loop-x.invariant.weighed,
      c.load_at-weight.ensures,
      window_fits c.args.claim.now.loads c.args.y c.loop-x.x 0 c.requires.measured.weighed c.loop-x.auto.x
          (omega (arith, c.loop-x-test.true, c.elements-x-end.ensures)),
    )

pub returns-then-weight-limit-clause-first : goal.returns-then-weight-limit-clause-first
returns-then-weight-limit-clause-first c =
    too_heavy c.args.claim.now c.args.y c.loop-x.x c.loop-x.weight c.loop-x.auto.x
    (omega (arith, c.loop-x-test.true, c.elements-x-end.ensures)) c.loop-x.invariant.risen c.loop-x.invariant.weighed
    (omega (arith, c.if-weight-limit.true, c.limit_of-limit.ensures, c.load_at-weight.ensures))

pub overflow_add-bytes : goal.overflow_add-bytes
overflow_add-bytes c =
    let size : c.from-bytes.result ≡ (get_or c.args.claim.now.sizes c.loop-x.x (0, 0)).0 = c.from-bytes.ensures ∙ ap (λ (e : ℕ × ℕ). e.0) c.element_at-element.ensures.value in
    omega (
      arith,
      size,
      bytes_fit c.args.claim.now.sizes c.args.y c.loop-x.x c.loop-x.bytes (0, 0) c.requires.measured.packed
          c.loop-x.auto.x (omega (arith, c.loop-x-test.true, c.elements-x-end.ensures, c.requires.measured.paired)) c.loop-x.invariant.holding.bytes_is,
    )

pub joined-most-requires-clause-fits : goal.joined-most-requires-clause-fits
joined-most-requires-clause-fits c =
    let low : (get_or c.args.claim.now.sizes c.loop-x.x (0, 0)).1 < PES = subst (λ (e : ℕ × ℕ). e.1 < PES)
    c.element_at-element.ensures.value c.element_at-element.ensures.in_range in
    subst (λ (e : ℕ × ℕ). slice_index c.loop-x.kept e.1 + e.0 < 2 ^ 64) (sym c.element_at-element.ensures.value)
    (kept_fit c.args.claim.now.sizes c.args.y c.loop-x.x c.home_at-own.result c.loop-x.bytes c.loop-x.kept c.loop-x.most (0, 0)
    c.requires.measured.packed c.loop-x.auto.x (omega (arith, c.loop-x-test.true, c.elements-x-end.ensures, c.requires.measured.paired))
    c.loop-x.invariant.holding low)

pub returns-then-not-is_risen_behind-clause-first : goal.returns-then-not-is_risen_behind-clause-first
returns-then-not-is_risen_behind-clause-first c =
    let claim = c.args.claim.now in
    let own = c.home_at-own.result in
    let inside : c.loop-x.x < length claim.loads = omega (arith, c.loop-x-test.true, c.elements-x-end.ensures) in
    let holding : IsHolding claim.sizes c.args.y (c.loop-x.x + 1) own c.joined-most.new.kept c.joined-most.result (c.loop-x.bytes + c.from-bytes.result) =
    held_next claim c.args.y c.loop-x.x own c.loop-x.bytes c.from-bytes.result c.loop-x.kept c.joined-most.new.kept c.loop-x.most
    c.joined-most.result c.requires.measured c.loop-x.auto.x inside c.loop-x.invariant.holding
    (subst (λ (e : ℕ × ℕ). e.1 < PES) c.element_at-element.ensures.value c.element_at-element.ensures.in_range)
    (c.from-bytes.ensures ∙ ap (λ (e : ℕ × ℕ). e.0) c.element_at-element.ensures.value)
    (subst (λ (e : ℕ × ℕ). c.joined-most.new.kept ≡ slice_set c.loop-x.kept e.1 (slice_index c.loop-x.kept e.1 + e.0))
    c.element_at-element.ensures.value c.joined-most.ensures.kept)
    (subst (λ (e : ℕ × ℕ). (held next : ℕ → ℕ) → IsMost held own c.loop-x.most → held e.1 ≡ slice_index c.loop-x.kept e.1
    → ((pe : ℕ) → next pe ≡ held pe + held_bytes e pe) → IsMost next own c.joined-most.result) c.element_at-element.ensures.value
    c.joined-most.ensures.most)
    in
    steep_end claim c.args.y c.loop-x.x own (c.loop-x.bytes + c.from-bytes.result) c.loop-x.weight c.load_at-weight.result
    (get_or c.joined-most.new.kept own 0) c.joined-most.new.kept c.joined-most.result
    c.loop-x.auto.x inside c.requires.edge c.loop-x.invariant.weighed c.loop-x.invariant.risen c.load_at-weight.ensures
    (omega (arith, c.if-weight-limit.false, c.limit_of-limit.ensures))
    holding c.home_at-own.ensures.value c.home_at-own.ensures.in_range refl
    (c.if-not-is_risen_behind.ensures).0
    (subst (λ (low : Pair). ¬ (IsRisen low (high_at claim (c.loop-x.x + 1)) own (home claim.sizes (c.loop-x.x + 1))
    (record { bytes = c.loop-x.bytes + c.from-bytes.result; own = get_or c.joined-most.new.kept own 0; most = c.joined-most.result })))
    c.requires.low (c.if-not-is_risen_behind.ensures).1)

pub loop-x-preserved : goal.loop-x-preserved
loop-x-preserved c =
    let claim = c.args.claim.now in
    let own = c.home_at-own.result in
    let inside : c.loop-x.x < length claim.loads = omega (arith, c.loop-x-test.true, c.elements-x-end.ensures) in
    let holding : IsHolding claim.sizes c.args.y (c.loop-x.x + 1) own c.joined-most.new.kept c.joined-most.result (c.loop-x.bytes + c.from-bytes.result) =
    held_next claim c.args.y c.loop-x.x own c.loop-x.bytes c.from-bytes.result c.loop-x.kept c.joined-most.new.kept c.loop-x.most
    c.joined-most.result c.requires.measured c.loop-x.auto.x inside c.loop-x.invariant.holding
    (subst (λ (e : ℕ × ℕ). e.1 < PES) c.element_at-element.ensures.value c.element_at-element.ensures.in_range)
    (c.from-bytes.ensures ∙ ap (λ (e : ℕ × ℕ). e.0) c.element_at-element.ensures.value)
    (subst (λ (e : ℕ × ℕ). c.joined-most.new.kept ≡ slice_set c.loop-x.kept e.1 (slice_index c.loop-x.kept e.1 + e.0))
    c.element_at-element.ensures.value c.joined-most.ensures.kept)
    (subst (λ (e : ℕ × ℕ). (held next : ℕ → ℕ) → IsMost held own c.loop-x.most → held e.1 ≡ slice_index c.loop-x.kept e.1
    → ((pe : ℕ) → next pe ≡ held pe + held_bytes e pe) → IsMost next own c.joined-most.result) c.element_at-element.ensures.value
    c.joined-most.ensures.most)
    in
    next_walk claim c.args.y c.loop-x.x own (c.loop-x.bytes + c.from-bytes.result) c.loop-x.weight c.load_at-weight.result
    (get_or c.joined-most.new.kept own 0) c.joined-most.new.kept c.joined-most.result c.high_on-next.result
    c.loop-x.auto.x inside c.loop-x.invariant.weighed c.loop-x.invariant.risen c.load_at-weight.ensures
    holding c.home_at-own.ensures.value c.home_at-own.ensures.in_range refl c.high_on-next.ensures.at
    (subst (λ (low : Pair). IsFalse (is_high_level claim c.loop-x.x)
    → IsRisen low (high_at claim (c.loop-x.x + 1)) own (home claim.sizes (c.loop-x.x + 1))
    (record { bytes = c.loop-x.bytes + c.from-bytes.result; own = get_or c.joined-most.new.kept own 0; most = c.joined-most.result }))
    c.requires.low c.if-not-is_risen_behind.ensures)
