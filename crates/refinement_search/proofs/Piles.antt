-- Piles of rows.
use Rattle.std.proofs.Common.{◌≡◌, ℕ, zero, suc, ◌+◌, ◌*◌, ◌^◌, ◌<◌, ◌≤◌, max, List, [], ◌∷◌, ◌++◌, length, slice_index, arith, refl, ap, sym, ◌∙◌, add-one, subst, inl, inr}
use Rattle.std.proofs.lemmas.Bool.{cases_lt, le-leb}
use Rattle.std.proofs.lemmas.List.{get_or_append_left, get_or_push}
use Rattle.chain_refinement.specs.Refinement.{cut_cost, height, height_at}
use Rattle.refinement_search.specs.Chains.{ArePiledOn, IsSpanned}
use Rattle.refinement_search.specs.Rows.{AreStepsOf, AreTopped, IsWrittenFrom, sum_at}
use Rattle.refinement_search.specs.Tables.{IsRow}
use Rattle.refinement_search.specs.declared.rows.RowInputs.{RowInputs}
use Rattle.chain_refinement.proofs.Climbs.{height_rises}
use Rattle.refinement_search.proofs.CostsBack.{cost_few}

-- rows of the same numbers
row_same : (near far : ℕ) (start cost below above below₂ above₂ : ℕ → ℕ) → ((x : ℕ) → below₂ x ≡ below x) → ((x : ℕ) → above₂ x ≡ above x)
    → IsRow near far start cost below above → IsRow near far start cost below₂ above₂
row_same near far start cost below above below₂ above₂ lower upper row =
    record {
      flat = λ x early. omega (arith, row.flat x early, upper x, upper near);
      level = λ x late. omega (arith, row.level x late, upper x, upper far);
      rises = λ x y onward. omega (arith, row.rises x y onward, upper x, upper y);
      low = λ x from to. omega (arith, row.low x from to, lower (start x), upper x);
      reached = λ x from to.
          let there = row.reached x from to in
          (there.0, there.1, there.2, omega (arith, there.3, upper x, lower (start there.0)));
    }

-- a row added behind others leaves them unchanged
height_kept : (rows : List (List (ℕ × ℕ))) (steps : List (ℕ × ℕ)) (b x : ℕ) → b < length rows → height_at (rows ++ steps ∷ []) b x ≡ height_at rows b x
height_kept rows steps b x inside = ap (λ s. height s x) (get_or_append_left rows (steps ∷ []) [] b inside)

height_put : (rows : List (List (ℕ × ℕ))) (steps : List (ℕ × ℕ)) (b x : ℕ) → length rows ≡ b → height_at (rows ++ steps ∷ []) b x ≡ height steps x
height_put rows steps b x counted = ap (λ s. height s x) (get_or_push rows steps [] b counted)

-- the heights of the first block
first_height : (rise x : ℕ) → 0 < x → height ((1, rise) ∷ []) x ≡ rise
first_height rise x some = rw (le-leb 1 x (omega arith)) (omega arith)

first_heights : (rise : ℕ) (row : List ℕ) → slice_index row 0 ≡ 0 → ((x : ℕ) → 0 < x → x < length row → slice_index row x ≡ rise) → (x : ℕ)
    → x < length row → height ((1, rise) ∷ []) x ≡ slice_index row x
first_heights rise row first elsewhere zero inside = sym first
first_heights rise row first elsewhere (suc x) inside =
    first_height rise (suc x) (omega arith) ∙ sym (elsewhere (suc x) (omega arith) inside)

-- the pile that has only the first row
pub piled_first : (c : RowInputs) → ArePiledOn c 1 (height_at (((1, 2 ^ 62) ∷ []) ∷ []))
piled_first c =
    record {
      first = refl;
      elsewhere = λ x some. omega (arith, first_height (2 ^ 62) x some);
      rises = λ x y onward. height_rises ((1, 2 ^ 62) ∷ []) x y onward;
      rows = λ b inside. absurd (omega arith);
    }

pub topped_first : (near far : ℕ) (row : List ℕ) → far < length row → slice_index row 0 ≡ 0
    → ((x : ℕ) → 0 < x → x < length row → slice_index row x ≡ 2 ^ 62) → AreTopped near far 0 (((1, 2 ^ 62) ∷ []) ∷ []) row
topped_first near far row inside first elsewhere =
    record {
      heights = λ x from to. first_heights (2 ^ 62) row first elsewhere x (omega arith);
      small = λ x within. elim (cases_lt 0 x) [
        | inl some ↦ omega (arith, elsewhere x some within)
        | inr none ↦
            let same : 0 ≡ x = omega arith in
            subst (λ n. slice_index row n ≤ 2 ^ 62 + 0 * 2 ^ 37) same (omega (arith, first))
      ];
    }

-- up to its first place a row is level
flat_on : (c : RowInputs) (blocks : ℕ) (at : ℕ → ℕ → ℕ) (b x : ℕ) → IsSpanned c → ArePiledOn c blocks at → b < blocks
    → x ≤ slice_index c.near.now b → at b x ≡ at b (slice_index c.near.now b)
flat_on c blocks at zero x h piled inside early = ap (at 0) (omega (arith, h.spans.first, early))
flat_on c blocks at (suc b) x h piled inside early =
    subst (λ n. x ≤ slice_index c.near.now n → at n x ≡ at n (slice_index c.near.now n)) (add-one b) (λ there. (piled.rows b (omega arith)).flat x there) early

-- what is compared at a place of a row is the height of the row below and what the cut costs
sum_is : (c : RowInputs) (b : ℕ) (rows : List (List (ℕ × ℕ))) (below : List ℕ) (x : ℕ) → IsSpanned c → b + 1 < length c.names.now
    → ArePiledOn c (b + 1) (height_at rows) → AreTopped (slice_index c.near.now b) (slice_index c.far.now b) b rows below
    → x ≤ slice_index c.far.now (b + 1) → sum_at c.sizes.now c.starts.now below (slice_index c.near.now b) (slice_index c.names.now b)
    (slice_index c.names.now (b + 1)) x ≡ height_at rows b (slice_index c.starts.now x) + cut_cost c.sizes.now c.names.now b x
sum_is c b rows below x h inside piled topped to =
    let start : ℕ = slice_index c.starts.now x in
    let near : ℕ = slice_index c.near.now b in
    let far_in : slice_index c.far.now (b + 1) ≤ length c.sizes.now = h.spans.far_inside (b + 1) inside in
    let reached : start ≤ slice_index c.far.now b = omega (arith, h.onward x (slice_index c.far.now (b + 1)) to (omega (arith, far_in, h.counted)), h.spans.far_reached b inside) in
    let spans : near ≤ slice_index c.far.now b = omega (arith, h.spans.near_before b (omega arith), h.spans.far_behind b (omega arith)) in
    let there : slice_index below (max start near) ≡ height_at rows b start = elim (cases_lt start near) [
      | inr inner ↦
          let same : start ≡ max start near = omega arith in
          subst (λ n. slice_index below n ≡ height_at rows b start) same (sym (topped.heights start inner reached))
      | inl early ↦
          let same : near ≡ max start near = omega arith in
          subst (λ n. slice_index below n ≡ height_at rows b start) same
          (sym (flat_on c (b + 1) (height_at rows) b start h piled (omega arith) (omega arith) ∙ topped.heights near (omega arith) spans))
    ] in
    ap (λ n. n + cut_cost c.sizes.now c.names.now b x) there

-- a row is written over the one below it
abbrev pub IsWrittenOn : RowInputs → ℕ → List ℕ → List ℕ → Type 0
IsWrittenOn c b below above =
    IsWrittenFrom (slice_index c.far.now (b + 1)) (sum_at c.sizes.now c.starts.now below (slice_index c.near.now b)
    (slice_index c.names.now b) (slice_index c.names.now (b + 1))) below above (slice_index c.near.now (b + 1))

row_on : (c : RowInputs) (b : ℕ) (rows : List (List (ℕ × ℕ))) (below above : List ℕ) (steps : List (ℕ × ℕ)) → IsSpanned c
    → b + 1 < length c.names.now → ArePiledOn c (b + 1) (height_at rows)
    → AreTopped (slice_index c.near.now b) (slice_index c.far.now b) b rows below → IsWrittenOn c b below above
    → AreStepsOf above (slice_index c.near.now (b + 1)) (slice_index c.far.now (b + 1)) steps
    → IsRow (slice_index c.near.now (b + 1)) (slice_index c.far.now (b + 1)) (slice_index c.starts.now) (cut_cost c.sizes.now c.names.now b)
    (height_at rows b) (height steps)
row_on c b rows below above steps h inside piled topped written stepped =
    let near : ℕ = slice_index c.near.now (b + 1) in
    let far : ℕ = slice_index c.far.now (b + 1) in
    let spans : near ≤ far = omega (arith, h.spans.near_before (b + 1) inside, h.spans.far_behind (b + 1) inside) in
    record {
      flat = λ x early. stepped.flat x early ∙ sym (stepped.flat near (omega arith));
      level = λ x late. stepped.level x late ∙ sym (stepped.level far (omega arith));
      rises = λ x y onward. height_rises steps x y onward;
      low = λ x from to. omega (arith, stepped.heights x from to, written.low x from to, sum_is c b rows below x h inside piled topped to);
      reached = λ x from to.
          let there = written.reached x from to in
          (there.0, there.1, there.2, omega (arith, there.3, stepped.heights x from to, sum_is c b rows below there.0 h inside piled topped there.2));
    }

-- a pile with one more row
pub piled_more : (c : RowInputs) (b : ℕ) (rows : List (List (ℕ × ℕ))) (below above : List ℕ) (steps : List (ℕ × ℕ)) → IsSpanned c
    → b + 1 < length c.names.now → length rows ≡ b + 1 → ArePiledOn c (b + 1) (height_at rows)
    → AreTopped (slice_index c.near.now b) (slice_index c.far.now b) b rows below → IsWrittenOn c b below above
    → AreStepsOf above (slice_index c.near.now (b + 1)) (slice_index c.far.now (b + 1)) steps → ArePiledOn c (b + 1 + 1) (height_at (rows ++ steps ∷ []))
piled_more c b rows below above steps h inside counted piled topped written stepped =
    let kept : (k x : ℕ) → k < b + 1 → height_at (rows ++ steps ∷ []) k x ≡ height_at rows k x = λ k x within. height_kept rows steps k x (omega arith) in
    record {
      first = kept 0 0 (omega arith) ∙ piled.first;
      elsewhere = λ x some. omega (arith, kept 0 x (omega arith), piled.elsewhere x some);
      rises = λ x y onward. omega (arith, kept 0 x (omega arith), kept 0 y (omega arith), piled.rises x y onward);
      rows = λ k within. elim (cases_lt (k + 1) (b + 1)) [
        | inl earlier ↦ row_same (slice_index c.near.now (k + 1)) (slice_index c.far.now (k + 1)) (slice_index c.starts.now)
            (cut_cost c.sizes.now c.names.now k) (height_at rows k) (height_at rows (k + 1)) (height_at (rows ++ steps ∷ []) k)
            (height_at (rows ++ steps ∷ []) (k + 1)) (λ x. kept k x (omega arith)) (λ x. kept (k + 1) x (omega arith)) (piled.rows k earlier)
        | inr here ↦
            let met : b ≡ k = omega arith in
            subst (λ n. IsRow (slice_index c.near.now (n + 1)) (slice_index c.far.now (n + 1)) (slice_index c.starts.now)
            (cut_cost c.sizes.now c.names.now n) (height_at (rows ++ steps ∷ []) n) (height_at (rows ++ steps ∷ []) (n + 1))) met
            (row_same (slice_index c.near.now (b + 1)) (slice_index c.far.now (b + 1)) (slice_index c.starts.now)
            (cut_cost c.sizes.now c.names.now b) (height_at rows b) (height steps) (height_at (rows ++ steps ∷ []) b)
            (height_at (rows ++ steps ∷ []) (b + 1)) (λ x. kept b x (omega arith)) (λ x. height_put rows steps (b + 1) x counted)
            (row_on c b rows below above steps h inside piled topped written stepped))
      ];
    }

-- the last row of a pile with one more row
pub topped_more : (c : RowInputs) (b : ℕ) (rows : List (List (ℕ × ℕ))) (below above : List ℕ) (steps : List (ℕ × ℕ)) → IsSpanned c
    → b + 1 < length c.names.now → length rows ≡ b + 1 → length below ≡ length c.starts.now
    → AreTopped (slice_index c.near.now b) (slice_index c.far.now b) b rows below → IsWrittenOn c b below above
    → AreStepsOf above (slice_index c.near.now (b + 1)) (slice_index c.far.now (b + 1)) steps
    → AreTopped (slice_index c.near.now (b + 1)) (slice_index c.far.now (b + 1)) (b + 1) (rows ++ steps ∷ []) above
topped_more c b rows below above steps h inside counted room topped written stepped =
    let near : ℕ = slice_index c.near.now (b + 1) in
    let far : ℕ = slice_index c.far.now (b + 1) in
    let far_in : far ≤ length c.sizes.now = h.spans.far_inside (b + 1) inside in
    let below_in : slice_index c.near.now b ≤ length c.sizes.now = omega
    (arith, h.spans.near_before b (omega arith), h.spans.far_behind b (omega arith), h.spans.far_inside b (omega arith)) in
    record {
      heights = λ x from to. height_put rows steps (b + 1) x counted ∙ stepped.heights x from to;
      small = λ x within. elim (cases_lt x near) [
        | inl early ↦ omega (arith, written.same x early, topped.small x (omega (arith, within, written.counted)))
        | inr from ↦ elim (cases_lt far x) [
          | inl late ↦ omega (arith, written.behind x late, topped.small x (omega (arith, within, written.counted)))
          | inr to ↦
              let before : slice_index c.starts.now x ≤ x = h.before x (omega (arith, to, far_in, h.counted)) in
              omega (
                arith,
                written.low x from to,
                topped.small (max (slice_index c.starts.now x) (slice_index c.near.now b)) (omega (arith, before, to, far_in, below_in, h.counted, room)),
                cost_few c.sizes.now (slice_index c.names.now b) (slice_index c.names.now (b + 1)) x h.sized,
              )
        ]
      ];
    }
