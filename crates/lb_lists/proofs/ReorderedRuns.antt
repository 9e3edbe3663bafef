-- What is decided in any order of the PEs, as plain lists.
use Rattle.std.proofs.Common.{◌≡◌, ℕ, ◌+◌, ◌<◌, ◌≤◌, ◌++◌, Bool, true, false, List, [], ◌∷◌, length, take, drop, append_assoc, arith, ap, refl, replicate, subst, sym, ◌∙◌}
use Rattle.std.specs.Prelude.{pos}
use Rattle.lb_certificates.specs.Certificate.{NoneAbove}
use Rattle.lb_certificates.specs.Chain.{IsDivision, IsLeastDivision}
use Rattle.lb_certificates.specs.Naming.{bytes_moved, IsNaming}
use Rattle.lb_certificates.proofs.Chains.{block_load-le-peak}
use Rattle.lb_certificates.proofs.LeastDivisions.{least_from_certified}
use Rattle.any_order.specs.AnyOrder.{bound_at, AreBounds, AreFewestOfAll, IsPlan as IsWithin}
use Rattle.chain_refinement.specs.Tolerances.{limit_of}
use Rattle.lb_any_order.specs.Reorderings.{Fewest, IsFewest, IsReorderingBy}
use Rattle.lb_refinement.specs.declared.nearness.AnyOrderProof.{AnyOrderProof}
use Rattle.lb_refinement.specs.declared.nearness.Nearness.{Nearness}
use Rattle.lb_refinement.specs.declared.nearness.Nearness.TheVariants.{InAnyOrder}
use Rattle.lb_strategy.specs.declared.decision.Decision.{Decision}
use Rattle.lb_lists.specs.Plans.{IsPlan}
use Rattle.lb_lists.specs.Refinings.{IsRefinedRun, Standing, Told}
use Rattle.lb_lists.specs.Reorderings.{all_rows, told_of_fewest, AreBoundsIn, AreFlat, AreLevelsIn, BoundRows, IsReorderedRun, IsToldReordered, LevelLists}
use Rattle.lb_lists.specs.Runs.{sizes_of, Listed}
use Rattle.lb_lists.specs.Steps.{all_steps, first_steps, places_of, rises_of}
use Rattle.lb_lists.proofs.FlatSteps.{places-more, rises-more, starts-more}
use Rattle.lb_lists.proofs.OneRefinedRun.{same_decision}
use Rattle.lb_lists.proofs.Plans.{certified_by_stops}
use Rattle.std.proofs.lemmas.List.{length-map}

-- the bounds of cuts and names that move the fewest bytes
abbrev pub rows_of : {A : Type 0} → Fewest A → BoundRows
rows_of f = record { any = f.1.any; free = f.1.free }

told_fewest : {A : Type 0} (run : Listed) (pes tolerance : ℕ) (f : Fewest A) → IsFewest run.loads (sizes_of run) pes tolerance f
    → IsToldReordered run pes tolerance (told_of_fewest f) (rows_of f)
told_fewest run pes tolerance f few =
    let counted : length f.0.naming ≡ pes = few.right.plan.naming.counted in
    record {
      right = record {
        least = certified_by_stops run.loads pes f.1.least few.right.least;
        some_pe = few.right.some_pe;
        few_pes = few.right.few_pes;
        plan = subst (λ t. IsWithin run.loads pes (limit_of f.1.least.bottleneck t) f.0.division.cuts f.0.naming) few.tolerance_is few.right.plan;
        any_counted = few.right.any_counted;
        free_counted = few.right.free_counted;
        bounds = subst (λ t. AreBounds run.loads (sizes_of run) pes (limit_of f.1.least.bottleneck t) (bound_at f.1.any)
            (bound_at f.1.free) (bytes_moved (sizes_of run) f.0.division.cuts f.0.naming)) few.tolerance_is few.right.bounds;
      };
      fewest = subst (λ t. AreFewestOfAll run.loads (sizes_of run) pes (limit_of f.1.least.bottleneck t) f.0.division.cuts f.0.naming) few.tolerance_is few.fewest;
      moved = few.moved_is;
      no_block_prices = ap (λ n. replicate n (pos 0)) counted;
      no_pe_prices = ap (λ n. replicate n (pos 0)) counted;
    }

-- what is known of a decision where none moves fewer bytes
pub few_kept : {A : Type 0} (run : Listed) (pes tolerance : ℕ) (d : Decision A) (n : Nearness A) (p : AnyOrderProof A) → n ≡ InAnyOrder p
    → IsReorderingBy run.loads (sizes_of run) pes tolerance d n → IsFewest run.loads (sizes_of run) pes tolerance (d, p)
few_kept run pes tolerance d n p is decided = subst (IsReorderingBy run.loads (sizes_of run) pes tolerance d) is decided

-- the prices of such a decision do not matter
pub same_fewest : {A : Type 0} (d e : Decision A) (p : AnyOrderProof A) → e.division ≡ d.division → e.naming ≡ d.naming → e.moved ≡ d.moved
    → told_of_fewest (e, p) ≡ told_of_fewest (d, p)
same_fewest d e p division naming moved = rw (division, naming, moved) refl

-- such a decision as plain lists
pub told_as_fewest : {A : Type 0} (run : Listed) (pes tolerance thousandths : ℕ) (d : Decision A) (n : Nearness A) (p : AnyOrderProof A) (reordered near : Bool) (told : Told) (standing : Standing)
    → n ≡ InAnyOrder p → tolerance ≡ thousandths → reordered ≡ true → near ≡ false → told ≡ told_of_fewest (d, p)
    → IsReorderingBy run.loads (sizes_of run) pes tolerance d n → IsReorderedRun run pes thousandths reordered near told standing (rows_of (d, p))
told_as_fewest run pes tolerance thousandths d n p reordered near told standing is same reordered_is near_is told_is decided =
    let few = told_fewest run pes tolerance (d, p) (few_kept run pes tolerance d n p is decided) in
    let of_thousandths = subst (λ t. IsToldReordered run pes t (told_of_fewest (d, p)) (rows_of (d, p))) same few in
    let in_told = subst (λ t. IsToldReordered run pes thousandths t (rows_of (d, p))) (sym told_is) of_thousandths in
    subst (λ b. IsReorderedRun run pes thousandths b near told standing (rows_of (d, p))) (sym reordered_is) (near_is, in_told)

-- and where it is decided as if that was not asked for
pub told_in_order : (run : Listed) (pes thousandths : ℕ) (reordered near : Bool) (told : Told) (standing : Standing) (rows : BoundRows)
    → reordered ≡ false → IsRefinedRun run pes thousandths near told standing → IsReorderedRun run pes thousandths reordered near told standing rows
told_in_order run pes thousandths reordered near told standing rows reordered_is refined =
    subst (λ b. IsReorderedRun run pes thousandths b near told standing rows) (sym reordered_is) refined

-- no levels were written
pub bounds_left : (reordered : Bool) (rows : BoundRows) (levels : ℕ) (old new : LevelLists) → reordered ≡ false → levels ≡ 0 → new ≡ old → AreBoundsIn reordered rows levels old new
bounds_left reordered rows levels old new reordered_is levels_are left =
    subst (λ b. AreBoundsIn b rows levels old new) (sym reordered_is) (levels_are, left)

pub bounds_written : (reordered : Bool) (rows : BoundRows) (levels : ℕ) (old new : LevelLists) → reordered ≡ true → AreLevelsIn rows levels old new
    → AreBoundsIn reordered rows levels old new
bounds_written reordered rows levels old new reordered_is written =
    subst (λ b. AreBoundsIn b rows levels old new) (sym reordered_is) written

-- the limit is not below the least load
above_least : (least thousandths : ℕ) → least ≤ limit_of least thousandths
above_least least thousandths = omega arith

-- the least possible load is one
pub one_least_load : (loads : List ℕ) (pes one other : ℕ) (cuts others : List ℕ) → IsLeastDivision loads pes one cuts → IsLeastDivision loads pes other others → one ≡ other
one_least_load loads pes one other cuts others this that =
    omega (arith, this.peak_is, that.peak_is, this.least others that.divides, that.least cuts this.divides)

-- cuts whose greatest load is least are within the limit
within_limit : (loads : List ℕ) (pes limit bottleneck : ℕ) (cuts names : List ℕ) → bottleneck ≤ limit → IsLeastDivision loads pes bottleneck cuts
    → IsNaming pes names → IsWithin loads pes limit cuts names
within_limit loads pes limit bottleneck cuts names above least naming =
    record {
      divides = least.divides;
      within = λ b inside. omega (arith, above, least.peak_is, block_load-le-peak loads cuts b (omega (arith, inside, least.divides.counted)));
      naming = naming;
    }

-- where none moves fewer bytes, the plan does not
fewest_below_plan : (run : Listed) (pes thousandths : ℕ) (told : Told) (rows : BoundRows) → IsToldReordered run pes thousandths told rows
    → (places : List ℕ) (bottleneck moved : ℕ) → IsPlan run pes places bottleneck moved → told.moved ≤ moved
fewest_below_plan run pes thousandths told rows few places bottleneck moved plan =
    let same : told.least ≡ bottleneck = one_least_load run.loads pes told.least bottleneck told.least_cuts plan.cuts
    (least_from_certified run.loads pes _ few.right.least) plan.least in
    let above : bottleneck ≤ limit_of told.least thousandths = omega (arith, same, above_least told.least thousandths) in
    let less = few.fewest.fewest plan.cuts plan.names (within_limit run.loads pes _ bottleneck plan.cuts plan.names above plan.least plan.naming.naming) in
    omega (arith, few.moved, less, plan.moves)

pub no_more_fewest : {A : Type 0} (run : Listed) (pes tolerance : ℕ) (d : Decision A) (n : Nearness A) (p : AnyOrderProof A) (moved : ℕ) → n ≡ InAnyOrder p
    → moved ≡ d.moved → IsReorderingBy run.loads (sizes_of run) pes tolerance d n → (places : List ℕ) (bottleneck more : ℕ)
    → IsPlan run pes places bottleneck more → moved ≤ more
no_more_fewest run pes tolerance d n p moved is moved_is decided places bottleneck more plan =
    let few = told_fewest run pes tolerance (d, p) (few_kept run pes tolerance d n p is decided) in
    omega (arith, moved_is, fewest_below_plan run pes tolerance (told_of_fewest (d, p)) (rows_of (d, p)) few places bottleneck more plan)

-- nor does what is decided where that is not asked for
fewest_below_refined : (run : Listed) (pes thousandths : ℕ) (told : Told) (rows : BoundRows) → IsToldReordered run pes thousandths told rows
    → (near : Bool) (other : Told) (stood : Standing) → IsRefinedRun run pes thousandths near other stood → told.moved ≤ other.moved
fewest_below_refined run pes thousandths told rows few true other stood (near, less) =
    let same : told.least ≡ other.least = one_least_load run.loads pes told.least other.least told.least_cuts other.least_cuts
    (least_from_certified run.loads pes _ few.right.least) (least_from_certified run.loads pes _ near.right.certified) in
    let counted : length stood.order ≡ pes = near.order.naming.counted in
    let divides : IsDivision 0 (length run.loads) pes other.cuts = subst (λ n. IsDivision 0 (length run.loads) n other.cuts) counted near.proved.within.divides in
    let within : NoneAbove run.loads pes (limit_of told.least thousandths) other.cuts = subst
    (λ l. NoneAbove run.loads pes (limit_of l thousandths) other.cuts) (sym same)
    (subst (λ n. NoneAbove run.loads n (limit_of other.least thousandths) other.cuts) counted near.proved.within.within) in
    omega (arith, few.moved, few.fewest.fewest other.cuts other.names (record { divides = divides; within = within; naming = near.right.least_naming.naming }), near.right.moved)
fewest_below_refined run pes thousandths told rows few false other stood (plan, reason) =
    let least : IsLeastDivision run.loads pes other.least other.least_cuts = least_from_certified run.loads pes _ plan.right.certified in
    let same : told.least ≡ other.least = one_least_load run.loads pes told.least other.least told.least_cuts other.least_cuts
    (least_from_certified run.loads pes _ few.right.least) least in
    let cuts : IsLeastDivision run.loads pes other.least other.cuts = subst (IsLeastDivision run.loads pes other.least) (sym plan.cuts_are) least in
    let above : other.least ≤ limit_of told.least thousandths = omega (arith, same, above_least told.least thousandths) in
    omega (
      arith,
      few.moved,
      few.fewest.fewest other.cuts other.names
          (within_limit run.loads pes _ other.least other.cuts other.names above cuts plan.right.least_naming.naming),
      plan.right.moved,
    )

pub no_more_refined : (run : Listed) (pes thousandths : ℕ) (reordered near : Bool) (told : Told) (standing : Standing) (rows : BoundRows)
    → IsReorderedRun run pes thousandths reordered near told standing rows → (beside : Bool) (other : Told) (stood : Standing)
    → IsRefinedRun run pes thousandths beside other stood → told.moved ≤ other.moved
no_more_refined run pes thousandths true near told standing rows (apart, few) beside other stood that =
    fewest_below_refined run pes thousandths told rows few beside other stood that
no_more_refined run pes thousandths false near told standing rows this beside other stood that =
    let same = same_decision run pes thousandths false near beside told other standing stood this that in
    omega (arith, same.moved)

-- one more row in plain lists
pub flat_more : (rows : List (List (ℕ × ℕ))) (row : List (ℕ × ℕ)) (starts places bytes : List ℕ) (count : ℕ) → AreFlat rows starts places bytes
    → count ≡ length (places ++ places_of row) → AreFlat (rows ++ row ∷ []) (starts ++ count ∷ []) (places ++ places_of row) (bytes ++ rises_of row)
flat_more rows row starts places bytes count flat counted =
    let all : places ++ places_of row ≡ places_of (all_steps (rows ++ row ∷ [])) = places-more rows row places flat.places_are in
    record {
      starts_are = starts-more rows row starts count flat.starts_are (counted ∙ ap length all ∙ length-map (all_steps (rows ++ row ∷ [])) (λ step. step.0));
      places_are = all;
      bytes_are = rises-more rows row bytes flat.bytes_are;
    }

pub flat_step : (before all : List (List (ℕ × ℕ))) (i : ℕ) (row given : List (ℕ × ℕ)) (starts places bytes starts' places' bytes' : List ℕ) (count : ℕ)
    → take (i + 1) all ≡ take i all ++ row ∷ [] → given ≡ row → AreFlat (before ++ take i all) starts places bytes
    → places' ≡ places ++ places_of given → bytes' ≡ bytes ++ rises_of given → starts' ≡ starts ++ count ∷ [] → count ≡ length places'
    → AreFlat (before ++ take (i + 1) all) starts' places' bytes'
flat_step before all i row given starts places bytes starts' places' bytes' count more given_is flat places_is bytes_is starts_is counted =
    let places_row : places' ≡ places ++ places_of row = places_is ∙ ap (λ r. places ++ places_of r) given_is in
    let bytes_row : bytes' ≡ bytes ++ rises_of row = bytes_is ∙ ap (λ r. bytes ++ rises_of r) given_is in
    let next = flat_more (before ++ take i all) row starts places bytes count flat (counted ∙ ap length places_row) in
    let whole : (before ++ take i all) ++ row ∷ [] ≡ before ++ take (i + 1) all = append_assoc before (take i all) (row ∷ []) ∙ ap (λ t. before ++ t) (sym more) in
    record {
      starts_are = starts_is ∙ next.starts_are ∙ ap (first_steps 0) whole;
      places_are = places_row ∙ next.places_are ∙ ap (λ r. places_of (all_steps r)) whole;
      bytes_are = bytes_row ∙ next.bytes_are ∙ ap (λ r. rises_of (all_steps r)) whole;
    }

-- the levels of these bounds, as they were written to the lists
pub levels_in : (rows : BoundRows) (count : ℕ) (starts places bytes : List ℕ) (old new : LevelLists) → starts ≡ first_steps 0 (all_rows rows)
    → places ≡ places_of (all_steps (all_rows rows)) → bytes ≡ rises_of (all_steps (all_rows rows)) → count ≡ length places
    → (count ≤ length old.level_places → new.level_starts ≡ starts) → (count ≤ length old.level_places → take count new.level_places ≡ places)
    → (count ≤ length old.level_places → take count new.level_bytes ≡ bytes) → (length old.level_places < count → new.level_starts ≡ old.level_starts)
    → drop count new.level_places ≡ drop count old.level_places → drop count new.level_bytes ≡ drop count old.level_bytes
    → AreLevelsIn rows count old new
levels_in rows count starts places bytes old new starts_are places_are bytes_are counted starts_in places_in bytes_in starts_left places_left bytes_left =
    record {
      counted = counted ∙ ap length places_are ∙ length-map (all_steps (all_rows rows)) (λ step. step.0);
      starts = λ few. starts_in few ∙ starts_are;
      places = λ few. places_in few ∙ places_are;
      bytes = λ few. bytes_in few ∙ bytes_are;
      starts_left = starts_left;
      places_left = places_left;
      bytes_left = bytes_left;
    }
