use Rattle.std.proofs.Common.{◌≡◌, ◌+◌, ◌≤◌, ◌++◌, false, [], length, arith, ap, refl, subst, sym, ◌∙◌}
use Rattle.std.proofs.lemmas.List.{length-append}
use Rattle.lb_certificates.specs.Chain.{IsDivision}
use Rattle.lb_certificates.specs.Naming.{blocks_between}
use Rattle.lb_any_order.specs.Reorderings.{ArePricesSmallBy, IsReorderingBy}
use Rattle.lb_certificates.specs.declared.division.Division.{Division}
use Rattle.lb_refinement.specs.declared.nearness.Nearness.TheVariants.{InAnyOrder, InOrder, Planned}
use Rattle.lb_strategy.specs.Decisions.{ArePricesBounded}
use Rattle.lb_lists.specs.RefinedRooms.{standing_lists_in, IsStandingIn}
use Rattle.lb_lists.specs.Refinings.{Told}
use Rattle.lb_lists.specs.Reorderings.{level_lists_in, BoundRows, HasReorderedRoom}
use Rattle.lb_lists.specs.Rooms.{lists_in}
use Rattle.lb_lists.specs.Runs.{sizes_of, Listed}
use Rattle.lb_lists.proofs.FlatSteps.{first_steps-length}
use Rattle.lb_lists.proofs.RefinedRuns.{few_stops, kept_whole_told, left_in, no_more_told, same_standing, told_as_near, told_as_plan}
use Rattle.lb_lists.proofs.ReorderedRuns.{bounds_left, bounds_written, few_kept, no_more_fewest, no_more_refined, rows_of, same_fewest, told_as_fewest, told_in_order}
use Rattle.lb_lists.proofs.reordering.reorder_into.Goals as goal

no_rows : BoundRows
no_rows = record { any = []; free = [] }

pub returns-in_default-flat_steps-clause-refused : goal.returns-in_default-flat_steps-clause-refused
returns-in_default-flat_steps-clause-refused g c =
    let few : c.args.thousandths ≤ 1000 = c.in-Some.ensures.when.0 refl in
    let room = subst (λ (r : Listed). HasReorderedRoom (length r.loads) c.args.pes (lists_in c.args.room.now)
    (standing_lists_in c.args.standing.now) (level_lists_in c.args.bounds.now)) c.run.view_is (c.if-not-has_reordered_room.ensures.0 refl) in
    (few, ((c.in-Ok.ensures.asked, room), c.in-Ok.ensures.small, c.in-Ok.ensures.fits))

pub returns-in_default-flat_levels-clause-refused : goal.returns-in_default-flat_levels-clause-refused
returns-in_default-flat_levels-clause-refused g c =
    let few : c.args.thousandths ≤ 1000 = c.in-Some.ensures.when.0 refl in
    let room = subst (λ (r : Listed). HasReorderedRoom (length r.loads) c.args.pes (lists_in c.args.room.now)
    (standing_lists_in c.args.standing.now) (level_lists_in c.args.bounds.now)) c.run.view_is (c.if-not-has_reordered_room.ensures.0 refl) in
    (few, ((c.in-Ok.ensures.asked, room), c.in-Ok.ensures.small, c.in-Ok.ensures.fits))

pub returns-in_default-priced-clause-refused : goal.returns-in_default-priced-clause-refused
returns-in_default-priced-clause-refused g c =
    let few : c.args.thousandths ≤ 1000 = c.in-Some.ensures.when.0 refl in
    let room = subst (λ (r : Listed). HasReorderedRoom (length r.loads) c.args.pes (lists_in c.args.room.now)
    (standing_lists_in c.args.standing.now) (level_lists_in c.args.bounds.now)) c.run.view_is (c.if-not-has_reordered_room.ensures.0 refl) in
    (few, ((c.in-Ok.ensures.asked, room), c.in-Ok.ensures.small, c.in-Ok.ensures.fits))

pub write_near-requires-clause-stops : goal.write_near-requires-clause-stops
write_near-requires-clause-stops g c =
    let run = c.args.run.now in
    let refined = subst (IsReorderingBy run.loads (sizes_of run) c.args.pes c.in-Some.tolerance c.in-Ok.decided.decision) c.in-InOrder.is c.in-Ok.ensures.reordering in
    let room = c.if-not-has_reordered_room.ensures.0 refl in
    omega (
      arith,
      few_stops run.loads c.args.pes c.in-InOrder.proof.least.bottleneck
          c.in-InOrder.proof.least.floor refined.0.right.least.floor_holds,
      room.refined_room.decision_room.stops,
    )

pub write_near-requires-clause-step_starts : goal.write_near-requires-clause-step_starts
write_near-requires-clause-step_starts g c =
    let run = c.args.run.now in
    let refined = subst (IsReorderingBy run.loads (sizes_of run) c.args.pes c.in-Some.tolerance c.in-Ok.decided.decision) c.in-InOrder.is c.in-Ok.ensures.reordering in
    let room = c.if-not-has_reordered_room.ensures.0 refl in
    omega (
      arith,
      room.refined_room.standing_room.step_starts,
      first_steps-length 0 c.in-InOrder.proof.heights,
      refined.0.right.proved.counted,
      refined.0.order.naming.counted,
    )

pub write_fewest-requires-clause-divides : goal.write_fewest-requires-clause-divides
write_fewest-requires-clause-divides g c =
    let run = c.args.run.now in
    let few = few_kept run c.args.pes c.in-Some.tolerance c.in-Ok.decided.decision c.in-Ok.decided.nearness c.in-InAnyOrder.proof c.in-InAnyOrder.is c.in-Ok.ensures.reordering in
    let room = subst (λ (r : Listed). HasReorderedRoom (length r.loads) c.args.pes (lists_in c.args.room.now)
    (standing_lists_in c.args.standing.now) (level_lists_in c.args.bounds.now)) c.run.view_is (c.if-not-has_reordered_room.ensures.0 refl) in
    let d = c.in-Ok.decided.decision in
    let division : IsDivision 0 (length run.loads) c.args.pes d.division.cuts = few.right.plan.divides in
    let blocks : c.args.pes ≡ blocks_between d.division.cuts = omega (arith, division.counted) in
    let between = subst (λ n. IsDivision 0 (length run.loads) n d.division.cuts) blocks division in
    let in_room = subst (λ n. IsDivision 0 n (blocks_between d.division.cuts) d.division.cuts) (sym room.refined_room.decision_room.new_places) between in
    subst (λ (x : Division _). IsDivision 0 (length c.args.room.now.new_places.now) (blocks_between x.cuts) x.cuts) (sym c.in-Ok-priced.ensures.division) in_room

pub write_fewest-requires-clause-level_starts : goal.write_fewest-requires-clause-level_starts
write_fewest-requires-clause-level_starts g c =
    let run = c.args.run.now in
    let few = few_kept run c.args.pes c.in-Some.tolerance c.in-Ok.decided.decision c.in-Ok.decided.nearness c.in-InAnyOrder.proof c.in-InAnyOrder.is c.in-Ok.ensures.reordering in
    let room = c.if-not-has_reordered_room.ensures.0 refl in
    let r = c.in-InAnyOrder.proof in
    omega (arith, room.level_room.level_starts, first_steps-length 0 (r.any ++ r.free), length-append r.any r.free, few.right.any_counted, few.right.free_counted)

pub returns-in-Planned-clause-reordered : goal.returns-in-Planned-clause-reordered
returns-in-Planned-clause-reordered g c =
    let run = c.args.run.now in
    let decided = subst (IsReorderingBy run.loads (sizes_of run) c.args.pes c.in-Some.tolerance c.in-Ok.decided.decision) c.in-Planned.is c.in-Ok.ensures.reordering in
    let w = c.write_planned.ensures in
    let o = c.in_order.ensures in
    rw o.refined (
      [],
      no_rows,
      told_in_order run c.args.pes c.args.thousandths _ _ _ _ no_rows o.reordered
          (told_as_plan run c.args.pes c.in-Some.tolerance c.args.thousandths c.in-Ok.decided.decision Planned _ _ _
          refl c.in-Some.ensures.some w.planned w.told decided),
      left_in _ _ _ _ w.planned w.no_steps w.left,
      bounds_left _ no_rows _ _ _ o.reordered o.levels refl,
    )

pub returns-in-Planned-clause-no_more : goal.returns-in-Planned-clause-no_more
returns-in-Planned-clause-no_more g c =
    let run = c.args.run.now in
    let decided = subst (IsReorderingBy run.loads (sizes_of run) c.args.pes c.in-Some.tolerance c.in-Ok.decided.decision) c.in-Planned.is c.in-Ok.ensures.reordering in
    rw c.in_order.ensures.refined (no_more_told run c.args.pes c.in-Some.tolerance c.in-Ok.decided.decision Planned _
    (ap (λ (t : Told). t.moved) c.write_planned.ensures.told) decided)

pub returns-in-Planned-clause-no_more_refined : goal.returns-in-Planned-clause-no_more_refined
returns-in-Planned-clause-no_more_refined g c =
    let run = c.args.run.now in
    let decided = subst (IsReorderingBy run.loads (sizes_of run) c.args.pes c.in-Some.tolerance c.in-Ok.decided.decision) c.in-Planned.is c.in-Ok.ensures.reordering in
    let w = c.write_planned.ensures in
    rw c.in_order.ensures.refined (no_more_refined run c.args.pes c.args.thousandths false _ _
    (record { order = []; present = []; heights = [] }) no_rows
    (told_as_plan run c.args.pes c.in-Some.tolerance c.args.thousandths c.in-Ok.decided.decision Planned _ _ _
    refl c.in-Some.ensures.some w.planned w.told decided))

pub returns-in-Planned-clause-kept_whole : goal.returns-in-Planned-clause-kept_whole
returns-in-Planned-clause-kept_whole g c =
    let told = c.write_planned.ensures.told in
    rw c.in_order.ensures.refined (kept_whole_told c.args.run.now.loads (sizes_of c.args.run.now) c.args.pes c.in-Some.tolerance
    c.args.thousandths c.in-Ok.decided.decision c.in-Ok.decided.nearness Planned _ _
    c.in-Planned.is c.in-Some.ensures.some (ap (λ (t : Told). t.least) told)
    (ap (λ (t : Told). t.moved) told) c.in-Ok.ensures.kept_whole)

pub returns-in-Planned-clause-bounded : goal.returns-in-Planned-clause-bounded
returns-in-Planned-clause-bounded g c unordered =
    let sizes = sizes_of c.args.run.now in
    let small = subst (ArePricesSmallBy sizes c.in-Ok.decided.decision) c.in-Planned.is c.in-Ok.ensures.bounded in
    subst (λ (t : Told). ArePricesBounded sizes t.cuts t.block_prices t.pe_prices) (sym c.write_planned.ensures.told) small

pub returns-in-Ok-flat_steps-clause-reordered : goal.returns-in-Ok-flat_steps-clause-reordered
returns-in-Ok-flat_steps-clause-reordered g c =
    let run = c.args.run.now in
    let decided = subst (IsReorderingBy run.loads (sizes_of run) c.args.pes c.in-Some.tolerance c.in-Ok.decided.decision) c.in-InOrder.is c.in-Ok.ensures.reordering in
    let w = c.write_near.ensures in
    let o = c.in_order-in-InOrder.ensures in
    let p = c.in-InOrder.proof in
    rw o.refined (
      p.heights,
      no_rows,
      told_in_order run c.args.pes c.args.thousandths _ _ _ _ no_rows o.reordered
          (told_as_near run c.args.pes c.in-Some.tolerance c.args.thousandths c.in-Ok.decided.decision (InOrder p) p _ _ _ refl
          c.in-Some.ensures.some w.near w.told (same_standing c.in-Ok.decided.decision p _ _ w.order w.present) decided),
      subst (λ b. IsStandingIn b p.heights c.write_near.result.steps (standing_lists_in c.args.standing.now)
          (standing_lists_in c.write_near.new.standing)) (sym w.near) w.steps,
      bounds_left _ no_rows _ _ _ o.reordered o.levels refl,
    )

pub returns-in-Ok-flat_steps-clause-no_more : goal.returns-in-Ok-flat_steps-clause-no_more
returns-in-Ok-flat_steps-clause-no_more g c =
    let run = c.args.run.now in
    let decided = subst (IsReorderingBy run.loads (sizes_of run) c.args.pes c.in-Some.tolerance c.in-Ok.decided.decision) c.in-InOrder.is c.in-Ok.ensures.reordering in
    rw c.in_order-in-InOrder.ensures.refined (no_more_told run c.args.pes c.in-Some.tolerance c.in-Ok.decided.decision (InOrder c.in-InOrder.proof) _
    (ap (λ (t : Told). t.moved) c.write_near.ensures.told) decided)

pub returns-in-Ok-flat_steps-clause-no_more_refined : goal.returns-in-Ok-flat_steps-clause-no_more_refined
returns-in-Ok-flat_steps-clause-no_more_refined g c =
    let run = c.args.run.now in
    let decided = subst (IsReorderingBy run.loads (sizes_of run) c.args.pes c.in-Some.tolerance c.in-Ok.decided.decision) c.in-InOrder.is c.in-Ok.ensures.reordering in
    let w = c.write_near.ensures in
    let p = c.in-InOrder.proof in
    rw c.in_order-in-InOrder.ensures.refined (no_more_refined run c.args.pes c.args.thousandths false _ _ _ no_rows
    (told_as_near run c.args.pes c.in-Some.tolerance c.args.thousandths c.in-Ok.decided.decision (InOrder p) p _ _ _ refl
    c.in-Some.ensures.some w.near w.told (same_standing c.in-Ok.decided.decision p _ _ w.order w.present) decided))

pub returns-in-Ok-flat_steps-clause-kept_whole : goal.returns-in-Ok-flat_steps-clause-kept_whole
returns-in-Ok-flat_steps-clause-kept_whole g c =
    let told = c.write_near.ensures.told in
    rw c.in_order-in-InOrder.ensures.refined (kept_whole_told c.args.run.now.loads (sizes_of c.args.run.now) c.args.pes
    c.in-Some.tolerance c.args.thousandths c.in-Ok.decided.decision c.in-Ok.decided.nearness (InOrder c.in-InOrder.proof) _ _
    c.in-InOrder.is c.in-Some.ensures.some (ap (λ (t : Told). t.least) told)
    (ap (λ (t : Told). t.moved) told) c.in-Ok.ensures.kept_whole)

pub returns-in-Ok-flat_steps-clause-counted : goal.returns-in-Ok-flat_steps-clause-counted
returns-in-Ok-flat_steps-clause-counted g c =
    let run = c.args.run.now in
    let refined = subst (IsReorderingBy run.loads (sizes_of run) c.args.pes c.in-Some.tolerance c.in-Ok.decided.decision) c.in-InOrder.is c.in-Ok.ensures.reordering in
    let p = c.in-InOrder.proof in
    rw c.in_order-in-InOrder.ensures.refined (omega (
      arith,
      few_stops run.loads c.args.pes p.least.bottleneck p.least.floor refined.0.right.least.floor_holds,
      c.write_near.ensures.counted,
    ))

pub returns-in-Ok-flat_steps-clause-asked : goal.returns-in-Ok-flat_steps-clause-asked
returns-in-Ok-flat_steps-clause-asked g c = (
  c.in-Ok.ensures.asked,
  subst (λ (r : Listed). HasReorderedRoom (length r.loads) c.args.pes (lists_in c.args.room.now)
      (standing_lists_in c.args.standing.now) (level_lists_in c.args.bounds.now)) c.run.view_is (c.if-not-has_reordered_room.ensures.0 refl),
)

pub returns-in-Ok-priced-clause-reordered : goal.returns-in-Ok-priced-clause-reordered
returns-in-Ok-priced-clause-reordered g c =
    let run = c.args.run.now in
    let w = c.write_fewest.ensures in
    let q = c.in-Ok-priced.ensures in
    let d = c.in-Ok.decided.decision in
    let p = c.in-InAnyOrder.proof in (
      [],
      rows_of (d, p),
      told_as_fewest run c.args.pes c.in-Some.tolerance c.args.thousandths d c.in-Ok.decided.nearness p _ _ _ _ c.in-InAnyOrder.is
          c.in-Some.ensures.some w.reordered w.near (w.told ∙ same_fewest d c.in-Ok-priced.decision p q.division q.naming q.moved) c.in-Ok.ensures.reordering,
      left_in _ _ _ _ w.near w.no_steps w.left,
      bounds_written _ (rows_of (d, p)) _ _ _ w.reordered w.levels,
    )

pub returns-in-Ok-priced-clause-no_more : goal.returns-in-Ok-priced-clause-no_more
returns-in-Ok-priced-clause-no_more g c =
    no_more_fewest c.args.run.now c.args.pes c.in-Some.tolerance c.in-Ok.decided.decision c.in-Ok.decided.nearness c.in-InAnyOrder.proof _ c.in-InAnyOrder.is
    (ap (λ (t : Told). t.moved) c.write_fewest.ensures.told ∙ c.in-Ok-priced.ensures.moved) c.in-Ok.ensures.reordering

pub returns-in-Ok-priced-clause-no_more_refined : goal.returns-in-Ok-priced-clause-no_more_refined
returns-in-Ok-priced-clause-no_more_refined g c =
    let run = c.args.run.now in
    let w = c.write_fewest.ensures in
    let q = c.in-Ok-priced.ensures in
    let d = c.in-Ok.decided.decision in
    let p = c.in-InAnyOrder.proof in
    no_more_refined run c.args.pes c.args.thousandths _ _ _ (record { order = []; present = []; heights = [] }) (rows_of (d, p))
    (told_as_fewest run c.args.pes c.in-Some.tolerance c.args.thousandths d c.in-Ok.decided.nearness p _ _ _ _ c.in-InAnyOrder.is
    c.in-Some.ensures.some w.reordered w.near (w.told ∙ same_fewest d c.in-Ok-priced.decision p q.division q.naming q.moved) c.in-Ok.ensures.reordering)

pub returns-in-Ok-priced-clause-kept_whole : goal.returns-in-Ok-priced-clause-kept_whole
returns-in-Ok-priced-clause-kept_whole g c =
    let told = c.write_fewest.ensures.told in
    kept_whole_told c.args.run.now.loads (sizes_of c.args.run.now) c.args.pes c.in-Some.tolerance c.args.thousandths c.in-Ok.decided.decision c.in-Ok.decided.nearness
    (InAnyOrder c.in-InAnyOrder.proof) _ _ c.in-InAnyOrder.is c.in-Some.ensures.some (ap (λ (t : Told). t.least) told)
    (ap (λ (t : Told). t.moved) told ∙ c.in-Ok-priced.ensures.moved) c.in-Ok.ensures.kept_whole

pub returns-in-Ok-priced-clause-asked : goal.returns-in-Ok-priced-clause-asked
returns-in-Ok-priced-clause-asked g c = (
  c.in-Ok.ensures.asked,
  subst (λ (r : Listed). HasReorderedRoom (length r.loads) c.args.pes (lists_in c.args.room.now)
      (standing_lists_in c.args.standing.now) (level_lists_in c.args.bounds.now)) c.run.view_is (c.if-not-has_reordered_room.ensures.0 refl),
)
