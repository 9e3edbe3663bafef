use Rattle.std.proofs.Common.{◌≡◌, [], length, arith, ap, refl, subst, sym, ◌∙◌}
use Rattle.lb_certificates.specs.Chain.{IsDivision}
use Rattle.lb_certificates.specs.Naming.{blocks_between}
use Rattle.lb_certificates.specs.declared.division.Division.{Division}
use Rattle.lb_refinement.specs.InOrder.{IsInOrderBy}
use Rattle.lb_refinement.specs.declared.nearness.Nearness.TheVariants.{InOrder, Planned}
use Rattle.lb_lists.specs.RefinedRooms.{standing_lists_in, IsStandingIn}
use Rattle.lb_lists.specs.Refinings.{Told}
use Rattle.lb_lists.specs.Runs.{sizes_of}
use Rattle.lb_lists.proofs.FlatSteps.{first_steps-length}
use Rattle.lb_lists.proofs.InOrderRuns.{order_kept, told_as_near, told_as_plan}
use Rattle.lb_lists.proofs.RefinedRuns.{few_stops, kept_whole_told, left_in, same_standing}
use Rattle.lb_lists.proofs.in_order.in_order_into.Goals as goal

pub write_near-requires-clause-divides : goal.write_near-requires-clause-divides
write_near-requires-clause-divides g c =
    let run = c.args.run.now in
    let kept = order_kept run c.args.pes c.args.tolerance c.in-Ok.refined.decision c.in-Ok.refined.nearness c.in-InOrder.proof c.in-InOrder.is c.in-Ok.ensures.refined in
    let d = c.in-Ok.refined.decision in
    let division : IsDivision 0 (length run.loads) (length d.naming) d.division.cuts = kept.right.proved.within.divides in
    let blocks : length d.naming ≡ blocks_between d.division.cuts = omega (arith, division.counted) in
    let between = subst (λ n. IsDivision 0 (length run.loads) n d.division.cuts) blocks division in
    let in_room = subst (λ n. IsDivision 0 n (blocks_between d.division.cuts) d.division.cuts)
    (sym c.requires.room.decision_room.new_places) between in
    subst (λ (x : Division _). IsDivision 0 (length c.args.room.now.new_places.now) (blocks_between x.cuts) x.cuts) (sym c.in-Ok-priced.ensures.division) in_room

pub write_near-requires-clause-stops : goal.write_near-requires-clause-stops
write_near-requires-clause-stops g c =
    let run = c.args.run.now in
    let kept = order_kept run c.args.pes c.args.tolerance c.in-Ok.refined.decision c.in-Ok.refined.nearness c.in-InOrder.proof c.in-InOrder.is c.in-Ok.ensures.refined in
    let p = c.in-InOrder.proof in
    omega (
      arith,
      few_stops run.loads c.args.pes p.least.bottleneck p.least.floor kept.right.least.floor_holds,
      c.requires.room.decision_room.stops,
    )

pub write_near-requires-clause-step_starts : goal.write_near-requires-clause-step_starts
write_near-requires-clause-step_starts g c =
    let run = c.args.run.now in
    let kept = order_kept run c.args.pes c.args.tolerance c.in-Ok.refined.decision c.in-Ok.refined.nearness c.in-InOrder.proof c.in-InOrder.is c.in-Ok.ensures.refined in
    omega (
      arith,
      c.requires.room.standing_room.step_starts,
      first_steps-length 0 c.in-InOrder.proof.heights,
      kept.right.proved.counted,
      kept.order.naming.counted,
    )

pub returns-in-Planned-clause-refined : goal.returns-in-Planned-clause-refined
returns-in-Planned-clause-refined g c =
    let w = c.write_planned.ensures in (
      [],
      told_as_plan c.args.run.now c.args.pes c.args.tolerance c.in-Ok.refined.decision c.in-Ok.refined.nearness _ _ _ c.in-Planned.is w.planned
          w.told c.in-Ok.ensures.refined c.in-Ok.ensures.bounded,
      left_in _ _ _ _ w.planned w.no_steps w.left,
    )

pub returns-in-Ok-priced-clause-refined : goal.returns-in-Ok-priced-clause-refined
returns-in-Ok-priced-clause-refined g c =
    let w = c.write_near.ensures in
    let d = c.in-Ok-priced.ensures in
    let p = c.in-InOrder.proof in (
      p.heights,
      told_as_near c.args.run.now c.args.pes c.args.tolerance c.in-Ok.refined.decision c.in-Ok-priced.decision c.in-Ok.refined.nearness p _ _ _ c.in-InOrder.is
          (record {
            division = d.division;
            naming = d.naming;
            block_prices = d.block_prices;
            pe_prices = d.pe_prices;
            moved = d.moved;
          }) w.near w.told (same_standing c.in-Ok-priced.decision p _ _ w.order w.present) c.in-Ok.ensures.refined,
      subst (λ b. IsStandingIn b p.heights c.write_near.result.steps (standing_lists_in c.args.standing.now)
          (standing_lists_in c.write_near.new.standing)) (sym w.near) w.steps,
    )

pub returns-in-Planned-clause-kept_whole : goal.returns-in-Planned-clause-kept_whole
returns-in-Planned-clause-kept_whole g c =
    let told = c.write_planned.ensures.told in
    kept_whole_told c.args.run.now.loads (sizes_of c.args.run.now) c.args.pes c.args.tolerance c.args.tolerance c.in-Ok.refined.decision c.in-Ok.refined.nearness Planned _ _
    c.in-Planned.is refl (ap (λ (t : Told). t.least) told) (ap (λ (t : Told). t.moved) told) c.in-Ok.ensures.kept_whole

pub returns-in-Ok-priced-clause-kept_whole : goal.returns-in-Ok-priced-clause-kept_whole
returns-in-Ok-priced-clause-kept_whole g c =
    let told = c.write_near.ensures.told in
    kept_whole_told c.args.run.now.loads (sizes_of c.args.run.now) c.args.pes c.args.tolerance c.args.tolerance c.in-Ok.refined.decision c.in-Ok.refined.nearness (InOrder c.in-InOrder.proof) _ _
    c.in-InOrder.is refl (ap (λ (t : Told). t.least) told) (ap (λ (t : Told). t.moved) told ∙ c.in-Ok-priced.ensures.moved) c.in-Ok.ensures.kept_whole

pub unreachable-requires : goal.unreachable-requires
unreachable-requires g c = subst (IsInOrderBy c.args.run.now.loads (sizes_of c.args.run.now) c.args.pes c.args.tolerance c.in-Ok.refined.decision) c.in-InAnyOrder.is c.in-Ok.ensures.refined
