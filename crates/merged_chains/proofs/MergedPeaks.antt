-- The least division of a merged chain is that of the chain.
use Rattle.std.proofs.Common.{◌≡◌, ◌≢◌, ◌∙◌, ℕ, suc, zero, ◌+◌, ◌-◌, ◌<◌, ◌≤◌, inl, inr, List, length, slice_index, arith, add-one, ap, refl, sym, subst}
use Rattle.std.proofs.lemmas.Bool.{cases_lt}
use Rattle.std.proofs.lemmas.Grind.{same_number_lists}
use Rattle.std.proofs.lemmas.List.{length-map, get_or-map}
use Rattle.lb_snapshot.specs.Measured.{load}
use Rattle.lb_certificates.specs.Chain.{IsLeastPeak}
use Rattle.lb_certificates.specs.declared.division.Division.{Division}
use Rattle.lb_certificates.specs.declared.division.Floor.{Floor}
use Rattle.lb_certificates.specs.declared.division.Floor.TheVariants.{Zero, Fence}
use Rattle.lb_certificates.proofs.Chains.{load_wider}
use Rattle.chain_partition.specs.Chosen.{IsChosen, IsLeastFloor}
use Rattle.chain_partition.specs.Greedy.{CanFit, IsGreatestEnd, IsGreedy}
use Rattle.chain_partition.proofs.Ranges.{load_more, load_nothing}
use Rattle.chain_partition.proofs.RunningSums.{load_split}
use Rattle.chain_partition.proofs.GreedyCuts.{greedy_full, greedy_short, greedy_inside}
use Rattle.chain_partition.proofs.Bottlenecks.{greedy_at_least, greedy_below_least, some_ends, least_from_bounds}
use Rattle.chain_partition.proofs.ChosenOnce.{end_once, fence_once, peak_once}
use Rattle.merged_chains.specs.Merged.{AreRuns, AreWindows, IsStart, KeepsEnds, unmerged, unmerged_floor, unmerged_division}

-- later runs start later
start_onward : (xs ys starts : List ℕ) → AreRuns xs ys starts → (a n : ℕ) → a + n ≤ length ys → slice_index starts a + n ≤ slice_index starts (a + n)
start_onward xs ys starts h a zero inside =
    let e : a ≡ a + 0 = omega arith in
    subst (λ n. slice_index starts a + 0 ≤ slice_index starts n) e (omega arith)
start_onward xs ys starts h a (suc n) inside =
    let e : a + n + 1 ≡ a + suc n = omega arith in
    subst (λ m. slice_index starts a + suc n ≤ slice_index starts m) e (omega (arith, start_onward xs ys starts h a n (omega arith), h.onward (a + n) (omega arith)))

pub start_rises : (xs ys starts : List ℕ) (a b : ℕ) → AreRuns xs ys starts → a ≤ b → b ≤ length ys → slice_index starts a ≤ slice_index starts b
start_rises xs ys starts a b h onward inside =
    let e : a + (b - a) ≡ b = omega arith in
    subst (λ n. slice_index starts a ≤ slice_index starts n) e (omega (arith, start_onward xs ys starts h a (b - a) (omega arith)))

-- a start that is no later is that of a run that is no later
start_back : (xs ys starts : List ℕ) (a b : ℕ) → AreRuns xs ys starts → a ≤ length ys → b ≤ length ys → slice_index starts a ≤ slice_index starts b → a ≤ b
start_back xs ys starts a b h one other below =
    elim (cases_lt b a) [
      | inl later ↦
          let e : b + (a - b) ≡ a = omega arith in
          absurd (omega (arith, below, later, subst (λ n. slice_index starts b + (a - b) ≤ slice_index starts n) e (start_onward xs ys starts h b (a - b) (omega arith))))
      | inr before ↦ before
    ]

-- the runs before one weigh what the elements before its start weigh
runs_before : (xs ys starts : List ℕ) → AreRuns xs ys starts → (a : ℕ) → a ≤ length ys → load ys 0 a ≡ load xs 0 (slice_index starts a)
runs_before xs ys starts h zero inside =
    load_nothing ys 0 ∙ sym (ap (λ n. load xs 0 n) h.begins ∙ load_nothing xs 0)
runs_before xs ys starts h (suc a) inside =
    rw (← add-one a) (omega (
      arith,
      runs_before xs ys starts h a (omega arith),
      load_more ys 0 a 0 (omega arith) (omega arith),
      h.weighs a (omega arith),
      load_split xs (slice_index starts a) (slice_index starts (a + 1)) (omega (arith, h.onward a (omega arith))),
    ))

pub runs_weigh : (xs ys starts : List ℕ) (a b : ℕ) → AreRuns xs ys starts → a ≤ b → b ≤ length ys → load ys a b ≡ load xs (slice_index starts a) (slice_index starts b)
runs_weigh xs ys starts a b h onward inside =
    omega (
      arith,
      runs_before xs ys starts h a (omega arith),
      runs_before xs ys starts h b inside,
      load_split ys a b onward,
      load_split xs (slice_index starts a) (slice_index starts b) (start_rises xs ys starts a b h onward inside),
    )

-- a load from an element back to an earlier one is 0
pub load_back : (xs : List ℕ) (a b : ℕ) → b ≤ a → load xs a b ≡ 0
load_back xs a b back =
    let e : b - a ≡ 0 = omega arith in
    rw e refl

-- an end of the chain that a run starts is the end of the merged chain
end_merged : (xs ys starts : List ℕ) (first limit end : ℕ) → AreRuns xs ys starts → first ≤ length ys → end ≤ length ys
    → IsGreatestEnd xs (slice_index starts first) limit (slice_index starts end) → IsGreatestEnd ys first limit end
end_merged xs ys starts first limit end h one other greatest =
    record {
      inside = other;
      fits = omega (arith, runs_weigh xs ys starts first end h onward other, greatest.fits);
      greatest = λ next within light. elim (cases_lt next first) [
        | inl back ↦ omega (arith, onward)
        | inr ahead ↦ start_back xs ys starts next end h within other
            (greatest.greatest (slice_index starts next) (omega
            (arith, start_rises xs ys starts next (length ys) h within (omega arith), h.ends))
            (omega (arith, runs_weigh xs ys starts first next h ahead within, light)))
      ];
    }
  where
    onward : first ≤ end
    onward = start_back xs ys starts first end h one other
        (greatest.greatest (slice_index starts first) (omega
        (arith, start_rises xs ys starts first (length ys) h one (omega arith), h.ends)) (omega (arith, load_nothing xs (slice_index starts first))))

-- greedy ends of the merged chain start where those of the chain are, where these start runs
track : (xs ys starts cuts ends : List ℕ) (blocks limit : ℕ) → AreRuns xs ys starts → IsGreedy xs blocks limit ends
    → IsGreedy ys blocks limit cuts → ((b : ℕ) → b ≤ blocks → IsStart starts (slice_index ends b)) → (b : ℕ) → b ≤ blocks
    → slice_index starts (slice_index cuts b) ≡ slice_index ends b
track xs ys starts cuts ends blocks limit h greedy merged kept zero inside =
    ap (λ n. slice_index starts n) merged.starts ∙ h.begins ∙ sym greedy.starts
track xs ys starts cuts ends blocks limit h greedy merged kept (suc b) inside =
    let before : slice_index starts (slice_index cuts b) ≡ slice_index ends b = track xs ys starts cuts ends blocks limit h greedy merged kept b (omega arith) in
    let found = kept (b + 1) (omega arith) in
    let next : IsGreatestEnd xs (slice_index starts (slice_index cuts b)) limit (slice_index starts found.0) = rw (before, found.2) (greedy.greedy b (omega arith)) in
    let here : IsGreatestEnd ys (slice_index cuts b) limit found.0 = end_merged xs ys starts (slice_index cuts b) limit found.0 h
    (greedy_inside ys blocks limit cuts merged b (omega arith)) (omega (arith, found.1, h.counted)) next in
    let same : found.0 ≡ slice_index cuts (b + 1) = end_once ys (slice_index cuts b) limit found.0 (slice_index cuts (b + 1)) here (merged.greedy b (omega arith)) in
    rw (← add-one b) (ap (λ n. slice_index starts n) (sym same) ∙ found.2)

unmerged_ends : (xs ys starts cuts ends : List ℕ) (blocks limit : ℕ) → AreRuns xs ys starts → IsGreedy xs blocks limit ends
    → IsGreedy ys blocks limit cuts → ((b : ℕ) → b ≤ blocks → IsStart starts (slice_index ends b)) → ends ≡ unmerged starts cuts
unmerged_ends xs ys starts cuts ends blocks limit h greedy merged kept =
    sym (same_number_lists (unmerged starts cuts) ends (omega (arith, length-map cuts (λ cut. slice_index starts cut), merged.counted, greedy.counted)) (λ k inside.
    get_or-map (λ cut. slice_index starts cut) cuts k 0 0 (omega (arith, inside, length-map cuts (λ cut. slice_index starts cut)))
    ∙ track xs ys starts cuts ends blocks limit h greedy merged kept k
    (omega (arith, inside, length-map cuts (λ cut. slice_index starts cut), merged.counted))))

-- the last start is that of no run
last_start : (xs ys starts : List ℕ) (a : ℕ) → AreRuns xs ys starts → a ≤ length ys → slice_index starts a ≡ length xs → a ≡ length ys
last_start xs ys starts a h inside last =
    omega (arith, inside, start_back xs ys starts (length ys) a h (omega arith) inside (omega (arith, last, h.ends)))

-- within limits whose ends are kept, the merged chain can be divided exactly where the chain can
merged_fits : (xs ys starts : List ℕ) (p limit : ℕ) (cuts ends : List ℕ) → AreRuns xs ys starts → IsGreedy xs p limit ends
    → IsGreedy ys p limit cuts → ends ≡ unmerged starts cuts → slice_index ends p ≡ length xs → CanFit ys p limit
merged_fits xs ys starts p limit cuts ends h greedy merged same full =
    (greedy_full ys p limit cuts merged (last_start xs ys starts (slice_index cuts p) h
    (greedy_inside ys p limit cuts merged p (omega arith))
    (sym (get_or-map (λ cut. slice_index starts cut) cuts p 0 0 (omega (arith, merged.counted))) ∙ ap (λ list. slice_index list p) (sym same) ∙ full))).0

merged_stops : (xs ys starts : List ℕ) (p limit : ℕ) (cuts ends : List ℕ) → AreRuns xs ys starts → IsGreedy xs p limit ends
    → IsGreedy ys p limit cuts → ends ≡ unmerged starts cuts → slice_index ends p ≢ length xs → ¬ (CanFit ys p limit)
merged_stops xs ys starts p limit cuts ends h greedy merged same short =
    (greedy_short ys p limit cuts merged (λ e. short (ap (λ list. slice_index list p) same
    ∙ get_or-map (λ cut. slice_index starts cut) cuts p 0 0 (omega (arith, merged.counted)) ∙ ap (λ n. slice_index starts n) e ∙ h.ends))).0

-- the merged chain's least peak is that of the chain
merged_least : (xs ys starts : List ℕ) (p low high least : ℕ) → AreRuns xs ys starts → IsLeastPeak xs 0 p least → low ≤ least → least ≤ high
    → KeepsEnds xs starts p low high → IsLeastPeak ys 0 p least
merged_least xs ys starts p low high least h peak_is from to keeps =
    least_from_bounds ys p least fits stops
  where
    fits : CanFit ys p least
    fits =
        let mine = (some_ends xs least p).1 in
        let its = (some_ends ys least p).1 in
        merged_fits xs ys starts p least its.ends mine.ends h mine.greedy its.greedy
        (unmerged_ends xs ys starts its.ends mine.ends p least h mine.greedy its.greedy
        (keeps least mine.ends (omega arith) to mine.greedy)) (greedy_at_least xs p least mine.ends peak_is mine.greedy).divides.ends

    stops : (limit : ℕ) → limit < least → ¬ (CanFit ys p limit)
    stops limit below fit =
        let mine = (some_ends xs (least - 1) p).1 in
        let its = (some_ends ys (least - 1) p).1 in
        let short : slice_index mine.ends p ≢ length xs = λ full. absurd
        (omega (
          arith,
          below,
          peak_is.below mine.ends (greedy_full xs p (least - 1) mine.ends mine.greedy full).1.divides,
          (greedy_full xs p (least - 1) mine.ends mine.greedy full).1.within,
        )) in
        merged_stops xs ys starts p (least - 1) its.ends mine.ends h mine.greedy its.greedy
        (unmerged_ends xs ys starts its.ends mine.ends p (least - 1) h mine.greedy its.greedy
        (keeps (least - 1) mine.ends (omega arith) (omega arith) mine.greedy)) short (fit.0, fit.1, omega (arith, fit.2, below))

-- the greedy ends of the merged chain, where they start, are greedy ends of the chain
merged_greedy : (xs ys starts cuts : List ℕ) (p low high limit : ℕ) → AreRuns xs ys starts → low ≤ limit + 1 → limit ≤ high
    → KeepsEnds xs starts p low high → IsGreedy ys p limit cuts → IsGreedy xs p limit (unmerged starts cuts)
merged_greedy xs ys starts cuts p low high limit h from to keeps merged =
    let mine = (some_ends xs limit p).1 in
    subst (λ list. IsGreedy xs p limit list) (unmerged_ends xs ys starts cuts mine.ends p limit h mine.greedy merged (keeps limit mine.ends from to mine.greedy)) mine.greedy

merged_floor : {A : Type 0} (xs ys starts : List ℕ) (p low high least : ℕ) (floor : Floor A) → AreRuns xs ys starts
    → IsLeastPeak xs 0 p least → IsLeastPeak ys 0 p least → low ≤ least → least ≤ high → KeepsEnds xs starts p low high
    → IsLeastFloor ys p least floor → IsLeastFloor xs p least (unmerged_floor starts floor)
merged_floor xs ys starts p low high least Zero h peak_is merged_peak from to keeps is_zero = is_zero
merged_floor xs ys starts p low high least (Fence stops) h peak_is merged_peak from to keeps (positive, fence) =
    let its = (some_ends ys (least - 1) p).1 in
    let same : its.ends ≡ stops = fence_once ys p least its.ends stops (greedy_below_least ys p least its.ends merged_peak positive its.greedy) fence in
    let greedy : IsGreedy ys p (least - 1) stops = subst (λ list. IsGreedy ys p (least - 1) list) same its.greedy in (
      positive,
      greedy_below_least xs p least (unmerged starts stops) peak_is positive
          (merged_greedy xs ys starts stops p low high (least - 1) h (omega arith) (omega arith) keeps greedy),
    )

pub merged_chosen : {A : Type 0} (xs ys starts : List ℕ) (p low high least : ℕ) (d : Division A) → AreRuns xs ys starts
    → IsLeastPeak xs 0 p least → low ≤ least → least ≤ high → KeepsEnds xs starts p low high → IsChosen ys p d → IsChosen xs p (unmerged_division starts d)
merged_chosen xs ys starts p low high least d h peak_is from to keeps chosen =
    let merged_peak : IsLeastPeak ys 0 p least = merged_least xs ys starts p low high least h peak_is from to keeps in
    let same : least ≡ d.bottleneck = peak_once ys p least d.bottleneck merged_peak chosen.least_peak in
    let peak_here : IsLeastPeak xs 0 p d.bottleneck = subst (λ n. IsLeastPeak xs 0 p n) same peak_is in
    record {
      least_peak = peak_here;
      cuts = greedy_at_least xs p d.bottleneck (unmerged starts d.cuts) peak_here
          (merged_greedy xs ys starts d.cuts p low high d.bottleneck h (omega arith) (omega arith) keeps chosen.cuts.greedy);
      floor = merged_floor xs ys starts p low high d.bottleneck d.floor h peak_here chosen.least_peak (omega arith) (omega arith) keeps chosen.floor;
    }

-- within a greater limit no end is earlier
ends_rise : (xs : List ℕ) (p one other : ℕ) (before behind : List ℕ) → one ≤ other → IsGreedy xs p one before → IsGreedy xs p other behind
    → (b : ℕ) → b ≤ p → slice_index before b ≤ slice_index behind b
ends_rise xs p one other before behind lower g k zero inside = omega (arith, g.starts, k.starts)
ends_rise xs p one other before behind lower g k (suc b) inside =
    let rises : slice_index before b ≤ slice_index behind b = ends_rise xs p one other before behind lower g k b (omega arith) in
    let step = g.greedy b (omega arith) in
    rw (← add-one b) ((k.greedy b (omega arith)).greatest (slice_index before (b + 1)) step.inside (light rises step.fits))
  where
    light : slice_index before b ≤ slice_index behind b → load xs (slice_index before b) (slice_index before (b + 1)) ≤ one
        → load xs (slice_index behind b) (slice_index before (b + 1)) ≤ other
    light rises fits = elim (cases_lt (slice_index before (b + 1)) (slice_index behind b)) [
      | inl back ↦ omega (arith, load_back xs (slice_index behind b) (slice_index before (b + 1)) (omega arith))
      | inr ahead ↦ omega (
        arith,
        fits,
        lower,
        load_wider xs (slice_index behind b) (slice_index before (b + 1)) (slice_index before b)
            (slice_index before (b + 1)) rises ahead (omega arith),
      )
    ]

-- windows keep the ends
pub windows_keep : (xs starts : List ℕ) (p low high : ℕ) → AreWindows xs starts p low high → KeepsEnds xs starts p low high
windows_keep xs starts p low high w limit ends from to greedy b inside =
    w.start b (slice_index ends b) inside (ends_rise xs p (low - 1) limit w.lower ends (omega arith) w.lower_walk greedy b inside)
    (ends_rise xs p limit high ends w.upper to greedy w.upper_walk b inside)
