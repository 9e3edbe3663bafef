use Rattle.std.proofs.Common.{◌≡◌, ℕ, ◌<◌, List, length, get_or, arith, ap, subst, sym, ◌∙◌}
use Rattle.std.proofs.lemmas.List.{get_or_default, get_or_read, length-set}
use Rattle.lb_snapshot.specs.Measured.{IsLoads}
use Rattle.run_trace.proofs.Sums.{all_added, load_added, next_fits}
use Rattle.run_trace.proofs.loads.loads_of.Goals as goal

pub overflow_add-index_mut : goal.overflow_add-index_mut
overflow_add-index_mut g c =
    let loads = c.as_slice-loads.result.now in
    let sizes = c.as_slice-sizes.result.now in
    let i = c.loop-i.i in
    let loads_are : loads ≡ c.args.snapshot.now.loads = c.as_slice-loads.ensures.value ∙ c.loads.ensures.value in
    let sizes_are : sizes ≡ c.args.snapshot.now.sizes = c.as_slice-sizes.ensures.value ∙ c.sizes.ensures.value in
    let paired : length loads ≡ length sizes = ap length loads_are ∙ c.procs.ensures.consistent.paired ∙ sym (ap length sizes_are) in
    let within : IsLoads loads = subst IsLoads (sym c.as_slice-loads.ensures.value) c.as_slice-loads.ensures.within_limits in
    let inside : i < length sizes = omega (arith, paired, c.loop-i-test.true) in
    let place_is : c.get.result ≡ (get_or sizes i (0, 0)).1 = c.get.ensures.value ∙ ap (λ s. s.1) (get_or_default sizes i c.index-sizes-i.result (0, 0) inside) in
    let placed : (get_or sizes i (0, 0)).1 < c.args.snapshot.now.procs
    = subst (λ (xs : List (ℕ × ℕ)). (get_or xs i (0, 0)).1 < c.args.snapshot.now.procs) (sym sizes_are)
    (c.procs.ensures.consistent.placed i (0, 0) (omega (arith, ap length sizes_are, inside))) in
    let on : c.get.result < length c.loop-i.sums.items = omega (arith, place_is, placed, c.loop-i.invariant.0) in
    let sum_is = get_or_read c.loop-i.sums.items c.get.result c.index_mut.result.now on c.index_mut.ensures.value 0 in
    omega (arith, sum_is, next_fits loads sizes paired c.loop-i.sums.items i c.get.result c.loop-i.invariant.1 within c.loop-i-test.true on)

pub loop-i-preserved : goal.loop-i-preserved
loop-i-preserved g c =
    let loads = c.as_slice-loads.result.now in
    let sizes = c.as_slice-sizes.result.now in
    let i = c.loop-i.i in
    let loads_are : loads ≡ c.args.snapshot.now.loads = c.as_slice-loads.ensures.value ∙ c.loads.ensures.value in
    let sizes_are : sizes ≡ c.args.snapshot.now.sizes = c.as_slice-sizes.ensures.value ∙ c.sizes.ensures.value in
    let paired : length loads ≡ length sizes = ap length loads_are ∙ c.procs.ensures.consistent.paired ∙ sym (ap length sizes_are) in
    let inside : i < length sizes = omega (arith, paired, c.loop-i-test.true) in
    let place_is : c.get.result ≡ (get_or sizes i (0, 0)).1 = c.get.ensures.value ∙ ap (λ s. s.1) (get_or_default sizes i c.index-sizes-i.result (0, 0) inside) in
    let placed : (get_or sizes i (0, 0)).1 < c.args.snapshot.now.procs
    = subst (λ (xs : List (ℕ × ℕ)). (get_or xs i (0, 0)).1 < c.args.snapshot.now.procs) (sym sizes_are)
    (c.procs.ensures.consistent.placed i (0, 0) (omega (arith, ap length sizes_are, inside))) in
    let on : c.get.result < length c.loop-i.sums.items = omega (arith, place_is, placed, c.loop-i.invariant.0) in
    let sum_is = get_or_read c.loop-i.sums.items c.get.result c.index_mut.result.now on c.index_mut.ensures.value 0 in (
      length-set c.loop-i.sums.items c.get.result _ ∙ c.loop-i.invariant.0,
      rw sum_is (load_added loads sizes paired c.loop-i.sums.items i c.get.result c.loop-i.invariant.1 c.loop-i-test.true place_is on),
    )

pub returns : goal.returns
returns g c =
    let loads = c.as_slice-loads.result.now in
    let sizes = c.as_slice-sizes.result.now in
    let loads_are : loads ≡ c.args.snapshot.now.loads = c.as_slice-loads.ensures.value ∙ c.loads.ensures.value in
    let sizes_are : sizes ≡ c.args.snapshot.now.sizes = c.as_slice-sizes.ensures.value ∙ c.sizes.ensures.value in
    let paired : length loads ≡ length sizes = ap length loads_are ∙ c.procs.ensures.consistent.paired ∙ sym (ap length sizes_are) in
    record {
      loads = rw (← loads_are, ← sizes_are) (all_added loads sizes paired c.loop-i.sums.items c.loop-i.i c.args.snapshot.now.procs
          c.loop-i.invariant.1 (omega (arith, c.loop-i-test.false)) c.loop-i.invariant.0);
    }
