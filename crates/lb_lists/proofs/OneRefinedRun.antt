-- A run, a number of PEs, a tolerance, and whether the PEs keep their order determine the decision within a tolerance.
use Rattle.std.proofs.Common.{◌≡◌, ℕ, Bool, true, false, List, [], ◌∷◌, length, arith, ap, refl, inl, inr, subst, sym, ◌∙◌}
use Rattle.chain_partition.proofs.ChosenOnce.{only_from_chosen}
use Rattle.lb_certificates.specs.Naming.{bytes_moved, IsLeastNaming}
use Rattle.lb_certificates.specs.declared.division.Division.{Division}
use Rattle.lb_certificates.proofs.LeastNamings.{one_least}
use Rattle.chain_partition.specs.Chosen.{IsChosen}
use Rattle.chain_refinement.specs.Orders.{IsPresentOrder}
use Rattle.chain_refinement.specs.Refinement.{AreNearest}
use Rattle.chain_refinement.specs.Tolerances.{limit_of}
use Rattle.chain_refinement.proofs.Nearest.{one_is_nearest}
use Rattle.chain_refinement.proofs.OneOrder.{one_order}
use Rattle.lb_lists.specs.Claims.{floor_of}
use Rattle.lb_lists.specs.Places.{ArePlaces}
use Rattle.lb_lists.specs.Plans.{stops_in}
use Rattle.lb_lists.specs.Refinings.{told_division, AreToldSame, IsDecidedRun, IsRefinedRun, IsToldInOrder, IsToldNear, IsToldPlan, IsToldRight, Standing, Told}
use Rattle.lb_lists.specs.Runs.{sizes_of, Listed}
use Rattle.lb_lists.proofs.OnePlan.{places_once}

-- the stops of a floor that was made of stops are these
stops_of_floor : (A : Type 0) (stops : List ℕ) → stops_in (floor_of {A = A} stops) ≡ stops
stops_of_floor A [] = refl
stops_of_floor A (stop ∷ stops) = refl

-- the parts of a division that is chosen
record AreLeastSame (one other : Told) : Type 0 where
  least : one.least ≡ other.least
  least_cuts : one.least_cuts ≡ other.least_cuts
  stops : one.stops ≡ other.stops

least_same : (run : Listed) (pes : ℕ) (one other : Told) → IsChosen run.loads pes (told_division one) → IsChosen run.loads pes (told_division other) → AreLeastSame one other
least_same run pes one other this that =
    let division : told_division one ≡ told_division other = only_from_chosen run.loads pes _ that _ this in
    record {
      least = ap (λ (d : Division (Unit {0})). d.bottleneck) division;
      least_cuts = ap (λ (d : Division (Unit {0})). d.cuts) division;
      stops = sym (stops_of_floor (Unit {0}) one.stops) ∙ ap (λ (d : Division (Unit {0})). stops_in d.floor) division ∙ stops_of_floor (Unit {0}) other.stops;
    }

-- decisions with the same cuts and names
same_from : (run : Listed) (one other : Told) → AreLeastSame one other → one.cuts ≡ other.cuts → one.names ≡ other.names
    → one.moved ≡ bytes_moved (sizes_of run) one.cuts one.names → other.moved ≡ bytes_moved (sizes_of run) other.cuts other.names
    → AreToldSame one other
same_from run one other least cuts names this that =
    record {
      least = least.least;
      moved = this ∙ ap (λ c. bytes_moved (sizes_of run) c one.names) cuts ∙ ap (bytes_moved (sizes_of run) other.cuts) names ∙ sym that;
      cuts = cuts;
      names = names;
      least_cuts = least.least_cuts;
      stops = least.stops;
    }

-- decisions with the same cuts, whose names are the least ones
same_named : (run : Listed) (pes : ℕ) (one other : Told) → one.cuts ≡ other.cuts → IsToldRight run pes one → IsToldRight run pes other → AreToldSame one other
same_named run pes one other cuts this that =
    let names : one.names ≡ other.names = one_least pes (bytes_moved (sizes_of run) one.cuts) one.names other.names this.least_naming
    (subst (λ c. IsLeastNaming (sizes_of run) c pes other.names) (sym cuts) that.least_naming) in
    same_from run one other (least_same run pes one other this.chosen that.chosen) cuts names this.moved that.moved

same_plan : (run : Listed) (pes : ℕ) (one other : Told) → IsToldPlan run pes one → IsToldPlan run pes other → AreToldSame one other
same_plan run pes one other this that =
    let least = least_same run pes one other this.right.chosen that.right.chosen in
    same_named run pes one other (this.cuts_are ∙ least.least_cuts ∙ sym that.cuts_are) this.right that.right

-- the nearest cuts in the present order are the same
nearest_same : (run : Listed) (pes tolerance : ℕ) (one other : Told) (stood also : Standing) → one.least ≡ other.least
    → IsPresentOrder (sizes_of run) pes stood.order stood.present → IsPresentOrder (sizes_of run) pes also.order also.present
    → AreNearest run.loads (sizes_of run) stood.order stood.present (limit_of one.least tolerance) one.cuts
    → AreNearest run.loads (sizes_of run) also.order also.present (limit_of other.least tolerance) other.cuts → one.cuts ≡ other.cuts
nearest_same run pes tolerance one other stood also least order same_order this that =
    let orders = one_order (sizes_of run) pes stood.order stood.present also.order also.present order same_order in
    let limited = subst (λ n. AreNearest run.loads (sizes_of run) stood.order stood.present (limit_of n tolerance) one.cuts) least this in
    let in_order = subst (λ ns. AreNearest run.loads (sizes_of run) ns stood.present (limit_of other.least tolerance) one.cuts) orders.0 limited in
    let at_present = subst (λ ps. AreNearest run.loads (sizes_of run) also.order ps (limit_of other.least tolerance) one.cuts) orders.1 in_order in
    one_is_nearest run.loads (sizes_of run) also.order also.present (limit_of other.least tolerance) one.cuts other.cuts at_present that

same_near : (run : Listed) (pes tolerance : ℕ) (one other : Told) (stood also : Standing) → IsToldNear run pes tolerance one stood
    → IsToldNear run pes tolerance other also → AreToldSame one other
same_near run pes tolerance one other stood also this that =
    let least = least_same run pes one other this.right.chosen that.right.chosen in
    same_named run pes one other (nearest_same run pes tolerance one other stood also least.least this.order that.order this.nearest that.nearest) this.right that.right

same_in_order : (run : Listed) (pes tolerance : ℕ) (one other : Told) (stood also : Standing) → IsToldInOrder run pes tolerance one stood
    → IsToldInOrder run pes tolerance other also → AreToldSame one other
same_in_order run pes tolerance one other stood also this that =
    let least = least_same run pes one other this.chosen that.chosen in
    let orders = one_order (sizes_of run) pes stood.order stood.present also.order also.present this.order that.order in
    let cuts = nearest_same run pes tolerance one other stood also least.least this.order that.order this.nearest that.nearest in
    same_from run one other least cuts (this.names_are ∙ orders.0 ∙ sym that.names_are) this.moved that.moved

-- cuts that move fewer bytes than the plan are not there where the plan moves no more
not_both : (run : Listed) (pes tolerance : ℕ) (one other : Told) (stood also : Standing) → IsRefinedRun run pes tolerance false one stood
    → IsRefinedRun run pes tolerance true other also → ⊥
not_both run pes tolerance one other stood also (plan, inl none) (near, less) =
    none also.order also.present near.order.naming near.order.in_order
not_both run pes tolerance one other stood also (plan, inr (more, there, other_near, no_more)) (near, less) =
    let same = same_near run pes tolerance more other there also other_near near in
    absurd (omega (arith, no_more, same.moved, less one plan))

-- both are near, or both are the plan
pub same_kind : (run : Listed) (pes tolerance : ℕ) (keep near also : Bool) (one other : Told) (standing stood : Standing)
    → IsDecidedRun run pes tolerance keep near one standing → IsDecidedRun run pes tolerance keep also other stood → near ≡ also
same_kind run pes tolerance keep true true one other standing stood this that = refl
same_kind run pes tolerance keep false false one other standing stood this that = refl
same_kind run pes tolerance false true false one other standing stood this that =
    absurd (not_both run pes tolerance other one stood standing that this)
same_kind run pes tolerance false false true one other standing stood this that =
    absurd (not_both run pes tolerance one other standing stood this that)
same_kind run pes tolerance true true false one other standing stood this (plan, none, bounded) =
    absurd (none standing.order standing.present this.order.naming this.order.in_order)
same_kind run pes tolerance true false true one other standing stood (plan, none, bounded) that =
    absurd (none stood.order stood.present that.order.naming that.order.in_order)

same_decided : (run : Listed) (pes tolerance : ℕ) (keep near : Bool) (one other : Told) (standing stood : Standing)
    → IsDecidedRun run pes tolerance keep near one standing → IsDecidedRun run pes tolerance keep near other stood → AreToldSame one other
same_decided run pes tolerance false true one other standing stood this that =
    same_near run pes tolerance one other standing stood this.0 that.0
same_decided run pes tolerance false false one other standing stood this that =
    same_plan run pes one other this.0 that.0
same_decided run pes tolerance true true one other standing stood this that =
    same_in_order run pes tolerance one other standing stood this that
same_decided run pes tolerance true false one other standing stood this that =
    same_plan run pes one other this.0 that.0

pub same_decision : (run : Listed) (pes tolerance : ℕ) (keep near also : Bool) (one other : Told) (standing stood : Standing)
    → IsDecidedRun run pes tolerance keep near one standing → IsDecidedRun run pes tolerance keep also other stood → AreToldSame one other
same_decision run pes tolerance keep near also one other standing stood this that =
    let kind = same_kind run pes tolerance keep near also one other standing stood this that in
    same_decided run pes tolerance keep near one other standing stood this (subst (λ b. IsDecidedRun run pes tolerance keep b other stood) (sym kind) that)

pub same_places : (run : Listed) (pes tolerance : ℕ) (keep near also : Bool) (one other : Told) (standing stood : Standing) (places others : List ℕ)
    → IsDecidedRun run pes tolerance keep near one standing → IsDecidedRun run pes tolerance keep also other stood
    → ArePlaces one.cuts one.names (length run.loads) places → ArePlaces other.cuts other.names (length run.loads) others → places ≡ others
same_places run pes tolerance keep near also one other standing stood places others this that placed also_placed =
    let same = same_decision run pes tolerance keep near also one other standing stood this that in
    let by_cuts = subst (λ c. ArePlaces c one.names (length run.loads) places) same.cuts placed in
    places_once other.cuts other.names (length run.loads) places others (subst (λ n. ArePlaces other.cuts n (length run.loads) places) same.names by_cuts) also_placed
