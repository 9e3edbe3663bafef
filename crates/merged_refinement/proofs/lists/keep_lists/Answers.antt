use Rattle.std.proofs.Common.{◌≡◌, ℕ, ◌+◌, ◌-◌, List, arith, length, refl, ap, sym, ◌∙◌, subst, inr}
use Rattle.chain_refinement.specs.Refinement.{AreWithin}
use Rattle.merged_refinement.specs.InOrder.{AreNearestInOrder, in_order}
use Rattle.merged_refinement.specs.Lists.{AreFit, AreRunReaches, AreSingle}
use Rattle.merged_refinement.specs.Merged.{AreBounds}
use Rattle.merged_refinement.proofs.Placed.{names_counted}
use Rattle.merged_refinement.proofs.WholeChains.{whole_nearest}
use Rattle.merged_refinement.proofs.lists.keep_lists.Goals as goal

pub returns-then-not-are_single-clause-refused : goal.returns-then-not-are_single-clause-refused
returns-then-not-are_single-clause-refused g c =
    let runs = c.args.runs.now in
    let present = c.args.present.now in
    let fit : AreFit runs present c.args.cuts.now = c.if-not-fit_together.ensures c.args.cuts.now refl in
    inr (
      fit,
      c.in_ok-loads.ensures.chain.light,
      λ can. c.if-not-are_single.ensures
          (subst (λ n. AreSingle runs.starts.now (n - 1) present.near.now present.far.now present.first.now present.last.now) (sym fit.near_counted) can.single),
    )

pub returns-in-None-clause-refused : goal.returns-in-None-clause-refused
returns-in-None-clause-refused g c =
    let runs = c.args.runs.now in
    let present = c.args.present.now in
    let fit : AreFit runs present c.args.cuts.now = c.if-not-fit_together.ensures c.args.cuts.now refl in
    let none = rw c.in-None.is at c.in_ok-keep_order.ensures.nearest in
    inr (
      fit,
      c.in_ok-loads.ensures.chain.light,
      λ can. none can.some_within.0
          (subst (λ n. AreWithin c.in_ok-loads.loads (in_order (n - 1)) c.args.limit can.some_within.0) (sym fit.near_counted)
          (subst (λ loads. AreWithin loads (in_order (length present.cuts.now - 1)) c.args.limit can.some_within.0)
          (sym c.in_ok-loads.ensures.made) can.some_within.1)),
    )

pub copy_from_slice-requires : goal.copy_from_slice-requires
copy_from_slice-requires g c =
    let runs = c.args.runs.now in
    let present = c.args.present.now in
    let fit : AreFit runs present c.args.cuts.now = c.if-not-fit_together.ensures c.args.cuts.now refl in
    let found = rw c.in-Some.is at c.in_ok-keep_order.ensures.nearest in
    omega (
      arith,
      found.fewest.within.divides.counted,
      names_counted (length present.near.now - 1),
      fit.near_counted,
      fit.room,
      fit.some_rank,
      ap length c.deref.ensures.value,
    )

pub returns-clause-of_chain : goal.returns-clause-of_chain
returns-clause-of_chain g c loads bytes weigh hold =
    let runs = c.args.runs.now in
    let present = c.args.present.now in
    let fit : AreFit runs present c.args.cuts.now = c.if-not-fit_together.ensures c.args.cuts.now refl in
    let blocks : ℕ = length present.cuts.now - 1 in
    let found = rw c.in-Some.is at c.in_ok-keep_order.ensures.nearest in
    let cuts : List ℕ = c.in-Some.found.items in
    let by_cuts : AreNearestInOrder c.in_ok-loads.loads c.in_ok-bytes.bytes present.cuts.now blocks c.args.limit cuts = subst
    (λ n. AreNearestInOrder c.in_ok-loads.loads c.in_ok-bytes.bytes present.cuts.now (n - 1) c.args.limit cuts) fit.near_counted found in
    let by_loads : AreNearestInOrder runs.loads.now c.in_ok-bytes.bytes present.cuts.now blocks c.args.limit cuts = subst
    (λ list. AreNearestInOrder list c.in_ok-bytes.bytes present.cuts.now blocks c.args.limit cuts) c.in_ok-loads.ensures.made by_cuts in
    let nearest : AreNearestInOrder runs.loads.now runs.bytes.now present.cuts.now blocks c.args.limit cuts = subst
    (λ list. AreNearestInOrder runs.loads.now list present.cuts.now blocks c.args.limit cuts) c.in_ok-bytes.ensures.made by_loads in
    let bounds : AreBounds runs.loads.now present.cuts.now blocks c.args.limit present.near.now present.far.now = subst
    (λ list. AreBounds list present.cuts.now blocks c.args.limit present.near.now present.far.now) c.in_ok-loads.ensures.made c.if-not-are_bounds.ensures in
    let single : AreSingle runs.starts.now blocks present.near.now present.far.now present.first.now present.last.now = subst
    (λ n. AreSingle runs.starts.now (n - 1) present.near.now present.far.now present.first.now present.last.now) fit.near_counted
    c.if-not-are_single.ensures in
    let reaches_here : AreRunReaches runs.loads.now runs.starts.now (length present.first.now - 1) c.args.limit present.first.now
    present.last.now = subst (λ list. AreRunReaches list runs.starts.now (length present.first.now - 1) c.args.limit present.first.now
    present.last.now) c.in_ok-loads.ensures.made c.if-not-are_reaches.ensures in
    let reaches : AreRunReaches runs.loads.now runs.starts.now blocks c.args.limit present.first.now present.last.now = subst
    (λ n. AreRunReaches runs.loads.now runs.starts.now (n - 1) c.args.limit present.first.now present.last.now) fit.first_counted reaches_here in
    let first_counted : length present.first.now ≡ blocks + 1 = omega (arith, fit.first_counted, fit.some_rank) in
    let last_counted : length present.last.now ≡ blocks + 1 = omega (arith, fit.last_counted, fit.some_rank) in
    let written : c.copy_from_slice.new.self ≡ cuts = c.copy_from_slice.ensures.after ∙ c.deref.ensures.value in
    rw written (whole_nearest loads bytes runs.loads.now runs.bytes.now runs.starts.now present.cuts.now present.near.now present.far.now
    present.first.now present.last.now blocks c.args.limit cuts (omega (arith, fit.some_rank)) fit.divides bounds first_counted
    last_counted reaches single nearest weigh hold)
