-- What is decided within a tolerance, as plain lists.
use Rattle.std.proofs.Common.{◌≡◌, ℕ, ◌+◌, ◌<◌, ◌≤◌, Bool, List, [], length, arith, ap, refl, subst, sym, ◌∙◌, inl, inr, true, false}
use Rattle.chain_partition.proofs.ChosenOnce.{only_from_chosen}
use Rattle.lb_certificates.specs.Certificate.{HoldsFor}
use Rattle.lb_certificates.specs.Naming.{bytes_moved, IsLeastNaming}
use Rattle.lb_certificates.specs.declared.division.Division.{Division}
use Rattle.lb_certificates.specs.declared.division.Floor.{Floor}
use Rattle.lb_certificates.specs.declared.division.Floor.TheVariants.{Zero, Fence}
use Rattle.lb_certificates.proofs.LeastNamings.{one_least}
use Rattle.chain_refinement.specs.Orders.{IsPresentOrder}
use Rattle.chain_refinement.specs.Refinement.{AreNearest, AreProved, AreWithin}
use Rattle.chain_refinement.specs.Tolerances.{limit_of}
use Rattle.lb_strategy.specs.declared.decision.Decision.{Decision}
use Rattle.lb_refinement.specs.Refined.{least_by, IsKept, IsRefinedBy, IsThePlan, Kept}
use Rattle.lb_refinement.specs.declared.nearness.Nearness.{Nearness}
use Rattle.lb_refinement.specs.declared.nearness.Nearness.TheVariants.{Planned, InOrder, InAnyOrder}
use Rattle.lb_refinement.specs.declared.nearness.OrderProof.{OrderProof}
use Rattle.lb_lists.specs.Claims.{division_of}
use Rattle.lb_lists.specs.Plans.{stops_in, IsPlan}
use Rattle.lb_lists.specs.RefinedRooms.{told_of_kept, told_of_plan, IsStandingIn, IsStandingLeft, StandingLists}
use Rattle.lb_lists.specs.Refinings.{told_division, IsDecidedRun, IsRefinedRun, IsToldNear, IsToldPlan, Standing, Told}
use Rattle.lb_lists.specs.Runs.{sizes_of, Listed}
use Rattle.lb_lists.proofs.Plans.{certified_by_stops, chosen_by_stops}

-- the order, the present cuts and the heights of kept cuts
abbrev pub standing_of : {A : Type 0} → Kept A → Standing
standing_of k = record { order = k.1.order; present = k.1.present; heights = k.1.heights }

pub told_plan : {A : Type 0} (run : Listed) (pes : ℕ) (d : Decision A) → IsThePlan run.loads (sizes_of run) pes d → IsToldPlan run pes (told_of_plan d)
told_plan run pes d planned =
    record {
      right = record {
        certified = certified_by_stops run.loads pes d.division planned.right.division;
        chosen = chosen_by_stops run.loads pes d.division planned.chosen;
        named = planned.right.named;
        least_naming = planned.least_naming;
        moved = planned.right.moved;
      };
      cuts_are = refl;
    }

pub told_near : {A : Type 0} (run : Listed) (pes tolerance : ℕ) (k : Kept A) → IsKept run.loads (sizes_of run) pes tolerance k
    → IsToldNear run pes tolerance (told_of_kept k) (standing_of k)
told_near run pes tolerance k kept =
    record {
      right = record {
        certified = certified_by_stops run.loads pes k.1.least kept.right.least;
        chosen = chosen_by_stops run.loads pes k.1.least kept.chosen;
        named = kept.named;
        least_naming = kept.least_naming;
        moved = kept.moved_is;
      };
      order = kept.order;
      proved = subst (λ t. AreProved run.loads (sizes_of run) k.1.order (limit_of k.1.least.bottleneck t)
          k.0.division.cuts k.1.heights) kept.tolerance_is kept.right.proved;
      nearest = subst (λ t. AreNearest run.loads (sizes_of run) k.1.order k.1.present
          (limit_of k.1.least.bottleneck t) k.0.division.cuts) kept.tolerance_is kept.nearest;
    }

-- two plans of one run move the same number of bytes
same_moved : (sizes : List (ℕ × ℕ)) (pes : ℕ) (cuts others names more : List ℕ) → cuts ≡ others → IsLeastNaming sizes cuts pes names
    → IsLeastNaming sizes others pes more → bytes_moved sizes cuts names ≡ bytes_moved sizes others more
same_moved sizes pes cuts others names more same this that =
    let called : names ≡ more = one_least pes (bytes_moved sizes cuts) names more this (subst (λ c. IsLeastNaming sizes c pes more) (sym same) that) in
    ap (λ c. bytes_moved sizes c names) same ∙ ap (bytes_moved sizes others) called

pub plans_move_once : (run : Listed) (pes : ℕ) (one other : Told) → IsToldPlan run pes one → IsToldPlan run pes other → one.moved ≡ other.moved
plans_move_once run pes one other this that =
    let division : told_division one ≡ told_division other = only_from_chosen run.loads pes _ that.right.chosen _ this.right.chosen in
    let cuts : one.cuts ≡ other.cuts = this.cuts_are ∙ ap (λ (d : Division (Unit {0})). d.cuts) division ∙ sym that.cuts_are in
    this.right.moved ∙ same_moved (sizes_of run) pes one.cuts other.cuts one.names other.names cuts this.right.least_naming that.right.least_naming ∙ sym that.right.moved

plan_moves : {A : Type 0} (run : Listed) (pes : ℕ) (d : Decision A) (places : List ℕ) (bottleneck moved : ℕ)
    → IsThePlan run.loads (sizes_of run) pes d → IsPlan run pes places bottleneck moved → d.moved ≡ moved
plan_moves run pes d places bottleneck moved planned plan =
    let told : IsToldPlan run pes (told_of_plan d) = told_plan run pes d planned in
    let division : told_division (told_of_plan d) ≡ division_of bottleneck plan.cuts plan.stops = only_from_chosen run.loads pes _ plan.chosen _ told.right.chosen in
    let cuts : d.division.cuts ≡ plan.cuts = ap (λ (e : Division (Unit {0})). e.cuts) division in
    planned.right.moved ∙ same_moved (sizes_of run) pes d.division.cuts plan.cuts d.naming plan.names cuts planned.least_naming plan.naming ∙ sym plan.moves

-- no more bytes move than by the plan
no_more_than_plan : {A : Type 0} (run : Listed) (pes tolerance : ℕ) (d : Decision A) (n : Nearness A) (places : List ℕ) (bottleneck moved : ℕ)
    → IsRefinedBy run.loads (sizes_of run) pes tolerance d n → IsPlan run pes places bottleneck moved → d.moved ≤ moved
no_more_than_plan run pes tolerance d Planned places bottleneck moved refined plan =
    omega (arith, plan_moves run pes d places bottleneck moved refined.0 plan)
no_more_than_plan run pes tolerance d (InOrder p) places bottleneck moved (kept, (e, planned, less)) plan =
    omega (arith, less, plan_moves run pes e places bottleneck moved planned plan)
no_more_than_plan run pes tolerance d (InAnyOrder p) places bottleneck moved refined plan = absurd refined

-- the decision of the plan, as plain lists
refined_plan : {A : Type 0} (run : Listed) (pes tolerance : ℕ) (d : Decision A) (standing : Standing)
    → IsRefinedBy run.loads (sizes_of run) pes tolerance d Planned → IsRefinedRun run pes tolerance false (told_of_plan d) standing
refined_plan run pes tolerance d standing (planned, inl none) = (told_plan run pes d planned, inl none)
refined_plan run pes tolerance d standing (planned, inr (k, kept, no_more)) =
    (told_plan run pes d planned, inr (told_of_kept k, standing_of k, told_near run pes tolerance k kept, no_more))

-- kept cuts, as plain lists
refined_near : {A : Type 0} (run : Listed) (pes tolerance : ℕ) (d : Decision A) (p : OrderProof A) → IsRefinedBy run.loads (sizes_of run) pes tolerance d (InOrder p)
    → IsRefinedRun run pes tolerance true (told_of_kept (d, p)) (standing_of (d, p))
refined_near run pes tolerance d p (kept, (e, planned, less)) =
    (told_near run pes tolerance (d, p) kept, λ plan is. subst (λ n. d.moved < n) (plans_move_once run pes (told_of_plan e) plan (told_plan run pes e planned) is) less)

-- a floor that holds has at most one stop more than there are PEs
pub few_stops : {A : Type 0} (loads : List ℕ) (pes bottleneck : ℕ) (floor : Floor A) → HoldsFor loads pes bottleneck floor → length (stops_in floor) ≤ pes + 1
few_stops loads pes bottleneck Zero holds = omega arith
few_stops loads pes bottleneck (Fence stops) holds = omega (arith, holds.counted)

-- a decision as plain lists, where it is that of the plan
pub told_as_plan : {A : Type 0} (run : Listed) (pes tolerance thousandths : ℕ) (d : Decision A) (n : Nearness A) (near : Bool) (told : Told) (standing : Standing)
    → n ≡ Planned → tolerance ≡ thousandths → near ≡ false → told ≡ told_of_plan d → IsRefinedBy run.loads (sizes_of run) pes tolerance d n
    → IsRefinedRun run pes thousandths near told standing
told_as_plan run pes tolerance thousandths d n near told standing is same near_is told_is refined =
    let planned = refined_plan run pes tolerance d standing (subst (IsRefinedBy run.loads (sizes_of run) pes tolerance d) is refined) in
    let of_thousandths = subst (λ t. IsRefinedRun run pes t false (told_of_plan d) standing) same planned in
    let in_told = subst (λ t. IsRefinedRun run pes thousandths false t standing) (sym told_is) of_thousandths in
    subst (λ b. IsRefinedRun run pes thousandths b told standing) (sym near_is) in_told

pub told_as_near : {A : Type 0} (run : Listed) (pes tolerance thousandths : ℕ) (d : Decision A) (n : Nearness A) (p : OrderProof A) (near : Bool) (told : Told) (standing : Standing)
    → n ≡ InOrder p → tolerance ≡ thousandths → near ≡ true → told ≡ told_of_kept (d, p) → standing ≡ standing_of (d, p)
    → IsRefinedBy run.loads (sizes_of run) pes tolerance d n → IsRefinedRun run pes thousandths near told standing
told_as_near run pes tolerance thousandths d n p near told standing is same near_is told_is standing_is refined =
    let kept = refined_near run pes tolerance d p (subst (IsRefinedBy run.loads (sizes_of run) pes tolerance d) is refined) in
    let of_thousandths = subst (λ t. IsRefinedRun run pes t true (told_of_kept (d, p)) (standing_of (d, p))) same kept in
    let in_told = subst (λ t. IsRefinedRun run pes thousandths true t (standing_of (d, p))) (sym told_is) of_thousandths in
    let in_standing = subst (IsRefinedRun run pes thousandths true told) (sym standing_is) in_told in
    subst (λ b. IsRefinedRun run pes thousandths b told standing) (sym near_is) in_standing

-- what is known of cuts near the present ones
pub near_kept : {A : Type 0} (run : Listed) (pes tolerance : ℕ) (d : Decision A) (n : Nearness A) (p : OrderProof A) → n ≡ InOrder p
    → IsRefinedBy run.loads (sizes_of run) pes tolerance d n → IsKept run.loads (sizes_of run) pes tolerance (d, p)
near_kept run pes tolerance d n p is refined =
    (subst (IsRefinedBy run.loads (sizes_of run) pes tolerance d) is refined).0

pub same_standing : {A : Type 0} (d : Decision A) (p : OrderProof A) (order present : List ℕ) → order ≡ p.order → present ≡ p.present
    → record { order = order; present = present; heights = p.heights } ≡ standing_of (d, p)
same_standing d p order present order_is present_is = rw (order_is, present_is) refl

pub left_in : (near : Bool) (steps : ℕ) (old new : StandingLists) → near ≡ false → steps ≡ 0 → IsStandingLeft old new → IsStandingIn near [] steps old new
left_in near steps old new near_is steps_are left = subst (λ b. IsStandingIn b [] steps old new) (sym near_is) (steps_are, left)

-- the bytes that are reported are those of the decision, and no more than those of the plan
pub no_more_told : {A : Type 0} (run : Listed) (pes tolerance : ℕ) (d : Decision A) (n : Nearness A) (told : ℕ) → told ≡ d.moved
    → IsRefinedBy run.loads (sizes_of run) pes tolerance d n → (places : List ℕ) (bottleneck moved : ℕ) → IsPlan run pes places bottleneck moved
    → told ≤ moved
no_more_told run pes tolerance d n told told_is refined places bottleneck moved plan =
    omega (arith, told_is, no_more_than_plan run pes tolerance d n places bottleneck moved refined plan)

pub kept_whole_told : {A : Type 0} (loads : List ℕ) (sizes : List (ℕ × ℕ)) (pes tolerance thousandths : ℕ) (d : Decision A) (n other : Nearness A) (least moved : ℕ)
    → n ≡ other → tolerance ≡ thousandths → least ≡ (least_by d other).bottleneck → moved ≡ d.moved
    → ((names present : List ℕ) → IsPresentOrder sizes pes names present → AreWithin loads names (limit_of (least_by d n).bottleneck tolerance) present → d.moved ≡ 0)
    → (names present : List ℕ) → IsPresentOrder sizes pes names present → AreWithin loads names (limit_of least thousandths) present → moved ≡ 0
kept_whole_told loads sizes pes tolerance thousandths d n other least moved is same least_is moved_is whole names present order within =
    let limit : limit_of least thousandths ≡ limit_of (least_by d n).bottleneck tolerance = ap (λ k. limit_of k thousandths)
    (least_is ∙ ap (λ m. (least_by d m).bottleneck) (sym is)) ∙ ap (limit_of (least_by d n).bottleneck) (sym same) in
    moved_is ∙ whole names present order (subst (λ k. AreWithin loads names k present) limit within)

-- what is decided where the PEs need not keep their order
pub decided_anew : (run : Listed) (pes tolerance : ℕ) (keep near : Bool) (told : Told) (standing : Standing) → keep ≡ false
    → IsRefinedRun run pes tolerance near told standing → IsDecidedRun run pes tolerance keep near told standing
decided_anew run pes tolerance keep near told standing anew decided =
    subst (λ b. IsDecidedRun run pes tolerance b near told standing) (sym anew) decided
