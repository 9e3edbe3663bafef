-- What is right of runs is right of every chain that has them.
use Rattle.std.proofs.Common.{◌≡◌, ℕ, zero, suc, ◌+◌, ◌-◌, ◌<◌, ◌≤◌, min, max, List, length, slice_index, arith, refl, ap, sym, ◌∙◌, subst, inl, inr}
use Rattle.std.proofs.lemmas.Bool.{cases_lt}
use Rattle.std.proofs.lemmas.List.Sorted.{IsNonDecreasingBy-from_default}
use Rattle.lb_snapshot.specs.Measured.{load}
use Rattle.lb_certificates.specs.Certificate.{NoneAbove}
use Rattle.lb_certificates.specs.Chain.{IsDivision}
use Rattle.merged_chains.specs.Merged.{AreRuns, IsStart, unmerged}
use Rattle.merged_chains.proofs.MergedPeaks.{runs_weigh, start_rises}
use Rattle.merged_refinement.specs.InOrder.{AreNearestInOrder}
use Rattle.merged_refinement.specs.Lists.{AreRunReaches, AreSingle, from_place, to_place}
use Rattle.merged_refinement.specs.Merged.{AreBounds, AreReaches, KeepsPlaces}
use Rattle.merged_refinement.proofs.KeptCuts.{kept_nearest}
use Rattle.merged_refinement.proofs.MergedCuts.{start_later, unmerged_at, unmerged_counted}
use Rattle.merged_refinement.proofs.Reaches.{places_keep}

-- cuts of runs, where these start
unmerged_divides : (loads runs starts cuts : List ℕ) (first end blocks : ℕ) → AreRuns loads runs starts → IsDivision first end blocks cuts
    → end ≤ length runs → IsDivision (slice_index starts first) (slice_index starts end) blocks (unmerged starts cuts)
unmerged_divides loads runs starts cuts first end blocks h divides inside =
    record {
      counted = unmerged_counted starts cuts ∙ divides.counted;
      starts = unmerged_at starts cuts 0 (omega (arith, divides.counted)) ∙ ap (slice_index starts) divides.starts;
      ordered = IsNonDecreasingBy-from_default (λ x. x) (unmerged starts cuts) 0 (λ i j onward few.
          let last : j < length cuts = omega (arith, few, unmerged_counted starts cuts) in
          omega (
            arith,
            unmerged_at starts cuts i (omega (arith, onward, last)),
            unmerged_at starts cuts j last,
            start_rises loads runs starts (slice_index cuts i) (slice_index cuts j) h (divides.ordered i j 0 onward last)
                (omega (arith, divides.ordered j blocks 0 (omega (arith, last, divides.counted)) (omega (arith, divides.counted)), divides.ends, inside)),
          ));
      ends = unmerged_at starts cuts blocks (omega (arith, divides.counted)) ∙ ap (slice_index starts) divides.ends;
    }

-- blocks of runs weigh what those of their elements weigh
unmerged_light : (loads runs starts cuts : List ℕ) (first end blocks limit : ℕ) → AreRuns loads runs starts → IsDivision first end blocks cuts
    → end ≤ length runs → NoneAbove runs blocks limit cuts → NoneAbove loads blocks limit (unmerged starts cuts)
unmerged_light loads runs starts cuts first end blocks limit h divides inside within b few =
    let rises : slice_index cuts b ≤ slice_index cuts (b + 1) = divides.ordered b (b + 1) 0 (omega arith) (omega (arith, divides.counted)) in
    let last : slice_index cuts (b + 1) ≤ length runs = omega (arith, divides.ordered (b + 1) blocks 0 (omega arith) (omega (arith, divides.counted)), divides.ends, inside) in
    rw (unmerged_at starts cuts b (omega (arith, divides.counted)), unmerged_at starts cuts (b + 1) (omega (arith, divides.counted)))
    (omega (arith, within b few, runs_weigh loads runs starts (slice_index cuts b) (slice_index cuts (b + 1)) h rises last))

-- bounds of runs, where these start
unmerged_bounds : (loads runs starts standing near far : List ℕ) (blocks limit : ℕ) → AreRuns loads runs starts
    → IsDivision 0 (length runs) blocks standing → AreBounds runs standing blocks limit near far
    → AreBounds loads (unmerged starts standing) blocks limit (unmerged starts near) (unmerged starts far)
unmerged_bounds loads runs starts standing near far blocks limit h divides bounds =
    let standing_in : (b : ℕ) → b ≤ blocks → slice_index standing b ≤ length runs = λ b few. omega
    (arith, divides.ordered b blocks 0 few (omega (arith, divides.counted)), divides.ends) in
    let near_in : slice_index near blocks ≤ length runs = omega (arith, bounds.near_before blocks (omega arith), standing_in blocks (omega arith)) in
    let far_in : (b : ℕ) → b ≤ blocks → slice_index far b ≤ length runs = λ b few. omega
    (arith, bounds.far_divides.ordered b blocks 0 few (omega (arith, bounds.far_divides.counted)), bounds.far_divides.ends) in
    let near_cuts = unmerged_divides loads runs starts near 0 (slice_index near blocks) blocks h bounds.near_divides near_in in
    let far_cuts = unmerged_divides loads runs starts far (slice_index far 0) (length runs) blocks h bounds.far_divides (omega arith) in
    record {
      near_divides = subst (λ n. IsDivision n (slice_index (unmerged starts near) blocks) blocks (unmerged starts near)) h.begins
          (subst (λ n. IsDivision (slice_index starts 0) n blocks (unmerged starts near))
          (sym (unmerged_at starts near blocks (omega (arith, bounds.near_divides.counted)))) near_cuts);
      near_within = unmerged_light loads runs starts near 0 (slice_index near blocks) blocks limit h bounds.near_divides near_in bounds.near_within;
      near_before = λ b few.
          omega (
            arith,
            unmerged_at starts near b (omega (arith, bounds.near_divides.counted)),
            unmerged_at starts standing b (omega (arith, divides.counted)),
            start_rises loads runs starts (slice_index near b) (slice_index standing b) h (bounds.near_before b few) (standing_in b few),
          );
      far_divides = subst (λ n. IsDivision n (length loads) blocks (unmerged starts far))
          (sym (unmerged_at starts far 0 (omega (arith, bounds.far_divides.counted))))
          (subst (λ n. IsDivision (slice_index starts (slice_index far 0)) n blocks (unmerged starts far)) h.ends far_cuts);
      far_within = unmerged_light loads runs starts far (slice_index far 0) (length runs) blocks limit h bounds.far_divides (omega arith) bounds.far_within;
      far_behind = λ b few.
          omega (
            arith,
            unmerged_at starts far b (omega (arith, bounds.far_divides.counted)),
            unmerged_at starts standing b (omega (arith, divides.counted)),
            start_rises loads runs starts (slice_index standing b) (slice_index far b) h (bounds.far_behind b few) (far_in b few),
          );
    }

-- as many runs further on, a run starts at least as many elements further on
starts_onward : (loads runs starts : List ℕ) (a n : ℕ) → AreRuns loads runs starts → a + n ≤ length runs → slice_index starts a + n ≤ slice_index starts (a + n)
starts_onward loads runs starts a zero h inside =
    let same : a ≡ a + 0 = omega arith in
    subst (λ n. slice_index starts a + 0 ≤ slice_index starts n) same (omega arith)
starts_onward loads runs starts a (suc n) h inside =
    let same : a + n + 1 ≡ a + suc n = omega arith in
    subst (λ m. slice_index starts a + suc n ≤ slice_index starts m) same (omega (arith, starts_onward loads runs starts a n h (omega arith), h.onward (a + n) (omega arith)))

-- where as many elements as runs lie between two starts, each of the elements is a start
each_begins : (loads runs starts : List ℕ) (a b x : ℕ) → AreRuns loads runs starts → a ≤ b → b ≤ length runs
    → slice_index starts b ≡ slice_index starts a + (b - a) → slice_index starts a ≤ x → x ≤ slice_index starts b → IsStart starts x
each_begins loads runs starts a b x h onward inside single from to =
    let k : ℕ = x - slice_index starts a in
    let end : a + k + (b - (a + k)) ≡ b = omega (arith, single, from, to) in
    let up : slice_index starts a + k ≤ slice_index starts (a + k) = starts_onward loads runs starts a k h (omega (arith, end, inside)) in
    let rest : slice_index starts (a + k) + (b - (a + k)) ≤ slice_index starts (a + k + (b - (a + k))) = starts_onward loads runs starts
    (a + k) (b - (a + k)) h (omega (arith, end, inside)) in
    let down : slice_index starts (a + k) + (b - (a + k)) ≤ slice_index starts b = subst (λ n. slice_index starts (a + k) + (b - (a + k)) ≤ slice_index starts n) end rest in
    (a + k, omega (arith, h.counted, end, inside), omega (arith, up, down, single, from, to, end))

-- how far cuts of runs reach, where these start
unmerged_reaches : (loads runs starts first last : List ℕ) (blocks limit : ℕ) → AreRuns loads runs starts → length first ≡ blocks + 1
    → length last ≡ blocks + 1 → AreRunReaches runs starts blocks limit first last
    → AreReaches loads blocks limit (unmerged starts first) (unmerged starts last)
unmerged_reaches loads runs starts first last blocks limit h first_counted last_counted reaches =
    let first_in : (b : ℕ) → b ≤ blocks → slice_index first b ≤ length runs = λ b few. omega
    (arith, reaches.first_rises b blocks 0 few (omega (arith, first_counted)), reaches.first_ends) in
    let last_in : (b : ℕ) → b ≤ blocks → slice_index last b ≤ length runs = λ b few. omega
    (arith, reaches.last_rises b blocks 0 few (omega (arith, last_counted)), reaches.last_ends) in
    record {
      first_ends = omega (
        arith,
        unmerged_at starts first blocks (omega (arith, first_counted)),
        start_rises loads runs starts (slice_index first blocks) (length runs) h (first_in blocks (omega arith)) (omega arith),
        h.ends,
      );
      first_heavy = λ b few.
          let here : slice_index (unmerged starts first) b ≡ slice_index starts (slice_index first b) = unmerged_at starts first b (omega (arith, first_counted)) in
          let next : slice_index (unmerged starts first) (b + 1) ≡ slice_index starts (slice_index first (b + 1)) = unmerged_at starts first
          (b + 1) (omega (arith, first_counted)) in
          elim (cases_lt 0 (slice_index first b)) [
            | inr begin ↦
                let zero_run : slice_index first b ≡ 0 = omega (arith, begin) in
                inl (here ∙ ap (slice_index starts) zero_run ∙ h.begins)
            | inl some ↦
                let found = reaches.are_first b few some in
                let back : slice_index first b - 1 + 1 ≡ slice_index first b = omega (arith, some) in
                let single : slice_index starts (slice_index first b) ≡ slice_index starts (slice_index first b - 1) + 1 = subst
                (λ n. slice_index starts n ≡ slice_index starts (slice_index first b - 1) + 1) back found.1 in
                let before : slice_index (unmerged starts first) b - 1 ≡ slice_index starts (slice_index first b - 1) = omega (arith, here, single) in
                let onward : slice_index first b ≤ slice_index first (b + 1) = reaches.first_rises b (b + 1) 0 (omega arith) (omega (arith, first_counted)) in
                let weigh = runs_weigh loads runs starts (slice_index first b - 1) (slice_index first (b + 1)) h (omega (arith, onward)) (first_in (b + 1) (omega (arith, few))) in
                let heavy : limit < load loads (slice_index starts (slice_index first b - 1)) (slice_index starts (slice_index first (b + 1))) = omega (arith, found.0, weigh) in
                inr (subst (λ n. limit < load loads n (slice_index (unmerged starts first) (b + 1))) (sym before)
                (subst (λ n. limit < load loads (slice_index starts (slice_index first b - 1)) n) (sym next) heavy))
          ];
      last_heavy = λ b few.
          let here : slice_index (unmerged starts last) b ≡ slice_index starts (slice_index last b) = unmerged_at starts last b (omega (arith, last_counted)) in
          let next : slice_index (unmerged starts last) (b + 1) ≡ slice_index starts (slice_index last (b + 1)) = unmerged_at starts last (b + 1) (omega (arith, last_counted)) in
          elim (cases_lt (slice_index last (b + 1)) (length runs)) [
            | inr end ↦
                let at_end : slice_index last (b + 1) ≡ length runs = omega (arith, end, last_in (b + 1) (omega (arith, few))) in
                inl (omega (arith, next, ap (slice_index starts) at_end, h.ends))
            | inl inner ↦
                let found = reaches.are_last b few inner in
                let behind : slice_index starts (slice_index last (b + 1) + 1) ≡ slice_index (unmerged starts last) (b + 1) + 1 = omega (arith, found.1, next) in
                let onward : slice_index last b ≤ slice_index last (b + 1) = reaches.last_rises b (b + 1) 0 (omega arith) (omega (arith, last_counted)) in
                let weigh = runs_weigh loads runs starts (slice_index last b) (slice_index last (b + 1) + 1) h (omega (arith, onward)) (omega (arith, inner)) in
                let heavy : limit < load loads (slice_index starts (slice_index last b)) (slice_index starts (slice_index last (b + 1) + 1)) = omega (arith, found.0, weigh) in
                inr (subst (λ n. limit < load loads n (slice_index (unmerged starts last) (b + 1) + 1)) (sym here)
                (subst (λ n. limit < load loads (slice_index starts (slice_index last b)) n) behind heavy))
          ];
    }

-- the later of two runs starts no later than an element that none of them starts behind
start_of_later : (starts : List ℕ) (a b x : ℕ) → slice_index starts a ≤ x → slice_index starts b ≤ x → slice_index starts (max a b) ≤ x
start_of_later starts a b x one other =
    elim (cases_lt a b) [
      | inl before ↦
          let same : b ≡ max a b = omega (arith, before) in
          subst (λ n. slice_index starts n ≤ x) same other
      | inr behind ↦
          let same : a ≡ max a b = omega (arith, behind) in
          subst (λ n. slice_index starts n ≤ x) same one
    ]

start_of_earlier : (starts : List ℕ) (a b x : ℕ) → x ≤ slice_index starts a → x ≤ slice_index starts b → x ≤ slice_index starts (min a b)
start_of_earlier starts a b x one other =
    elim (cases_lt a b) [
      | inl before ↦
          let same : a ≡ min a b = omega (arith, before) in
          subst (λ n. x ≤ slice_index starts n) same one
      | inr behind ↦
          let same : b ≡ min a b = omega (arith, behind) in
          subst (λ n. x ≤ slice_index starts n) same other
    ]

single_kept : (loads runs starts standing near far first last : List ℕ) (blocks limit : ℕ) → AreRuns loads runs starts
    → IsDivision 0 (length runs) blocks standing → AreBounds runs standing blocks limit near far → length first ≡ blocks + 1
    → length last ≡ blocks + 1 → AreRunReaches runs starts blocks limit first last → AreSingle starts blocks near far first last
    → KeepsPlaces starts blocks (unmerged starts near) (unmerged starts far) (unmerged starts first) (unmerged starts last)
single_kept loads runs starts standing near far first last blocks limit h divides bounds first_counted last_counted reaches single b x some few near_x first_x x_far x_last =
    let a : ℕ = from_place near first b in
    let z : ℕ = to_place far last b in
    let far_in : slice_index far b ≤ length runs = omega
    (arith, bounds.far_divides.ordered b blocks 0 (omega arith) (omega (arith, bounds.far_divides.counted)), bounds.far_divides.ends) in
    let near_in : slice_index near b ≤ length runs = omega (arith, far_in, bounds.near_before b (omega arith), bounds.far_behind b (omega arith)) in
    let first_in : slice_index first b ≤ length runs = omega (arith, reaches.first_rises b blocks 0 (omega arith) (omega (arith, first_counted)), reaches.first_ends) in
    let low : slice_index starts a ≤ x = start_of_later starts (slice_index near b) (slice_index first b) x
    (omega (arith, near_x, unmerged_at starts near b (omega (arith, bounds.near_divides.counted))))
    (omega (arith, first_x, unmerged_at starts first b (omega (arith, first_counted)))) in
    let high : x ≤ slice_index starts z = start_of_earlier starts (slice_index far b) (slice_index last b) x
    (omega (arith, x_far, unmerged_at starts far b (omega (arith, bounds.far_divides.counted))))
    (omega (arith, x_last, unmerged_at starts last b (omega (arith, last_counted)))) in
    let a_in : a ≤ length runs = omega (arith, near_in, first_in) in
    let z_in : z ≤ length runs = omega (arith, far_in) in
    let onward : a ≤ z = elim (cases_lt z a) [
      | inl back ↦ absurd (omega (arith, low, high, start_later loads runs starts z a h back a_in))
      | inr on ↦ on
    ] in
    each_begins loads runs starts a z x h onward z_in (single b some few onward) low high

pub whole_nearest : (loads bytes runs run_bytes starts standing near far first last : List ℕ) (blocks limit : ℕ) (cuts : List ℕ) → 0 < blocks
    → IsDivision 0 (length runs) blocks standing → AreBounds runs standing blocks limit near far → length first ≡ blocks + 1
    → length last ≡ blocks + 1 → AreRunReaches runs starts blocks limit first last → AreSingle starts blocks near far first last
    → AreNearestInOrder runs run_bytes standing blocks limit cuts → AreRuns loads runs starts → AreRuns bytes run_bytes starts
    → AreNearestInOrder loads bytes (unmerged starts standing) blocks limit (unmerged starts cuts)
whole_nearest loads bytes runs run_bytes starts standing near far first last blocks limit cuts some divides bounds first_counted last_counted reaches single nearest weigh hold =
    let as_many : length run_bytes ≡ length runs = omega (arith, weigh.counted, hold.counted) in
    let same_end : slice_index starts (length run_bytes) ≡ slice_index starts (length runs) = ap (slice_index starts) as_many in
    let whole = unmerged_divides loads runs starts standing 0 (length runs) blocks weigh divides (omega arith) in
    kept_nearest loads bytes (unmerged starts standing) runs run_bytes starts standing blocks limit cuts (record {
      some_block = some;
      paired = sym hold.ends ∙ same_end ∙ weigh.ends;
      divides = subst (λ n. IsDivision n (length loads) blocks (unmerged starts standing)) weigh.begins
          (subst (λ n. IsDivision (slice_index starts 0) n blocks (unmerged starts standing)) weigh.ends whole);
      runs_weigh = weigh;
      runs_hold = hold;
      standing_divides = divides;
      standing_is = refl;
      near = unmerged starts near;
      far = unmerged starts far;
      bounds = unmerged_bounds loads runs starts standing near far blocks limit weigh divides bounds;
      kept = places_keep loads starts (unmerged starts near) (unmerged starts far) (unmerged starts first) (unmerged starts last) blocks
          limit (unmerged_reaches loads runs starts first last blocks limit weigh first_counted last_counted reaches)
          (single_kept loads runs starts standing near far first last blocks limit weigh divides bounds first_counted last_counted reaches single);
    }) nearest
