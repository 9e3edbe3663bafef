-- The table of the search, row by row.
use Rattle.std.proofs.Common.{◌≡◌, ℕ, zero, suc, ◌+◌, ◌-◌, ◌^◌, ◌<◌, ◌≤◌, min, List, [], ◌∷◌, ◌++◌, length, slice_index, slice_index_or, arith, refl, ap, ◌∙◌, subst, inl, inr}
use Rattle.std.proofs.lemmas.Bool.{cases_lt}
use Rattle.std.proofs.lemmas.List.{get_or_append_left, get_or_push}
use Rattle.lb_snapshot.specs.Measured.{load}
use Rattle.lb_certificates.proofs.Chains.{block_within}
use Rattle.chain_partition.proofs.RunningSums.{load_split, load_within}
use Rattle.chain_refinement.specs.Refinement.{cut_cost}
use Rattle.refinement_search.specs.Tables.{IsRow}
use Rattle.merged_refinement.specs.InOrder.{in_order, sizes_on}
use Rattle.merged_refinement.specs.Rows.{ArePiledUp, AreSmall, IsTable, row_at, rows_at, standing_cost}
use Rattle.merged_refinement.specs.declared.pile.Table.{Table}
use Rattle.merged_refinement.proofs.StandingCosts.{cost_few, cost_is}

-- rows of the same numbers
row_same : (near far : ℕ) (start cost cost₂ below above below₂ above₂ : ℕ → ℕ) → ((x : ℕ) → x ≤ far → cost₂ x ≡ cost x)
    → ((x : ℕ) → below₂ x ≡ below x) → ((x : ℕ) → above₂ x ≡ above x) → IsRow near far start cost below above
    → IsRow near far start cost₂ below₂ above₂
row_same near far start cost cost₂ below above below₂ above₂ costs lower upper row =
    record {
      flat = λ x early. omega (arith, row.flat x early, upper x, upper near);
      level = λ x late. omega (arith, row.level x late, upper x, upper far);
      rises = λ x y onward. omega (arith, row.rises x y onward, upper x, upper y);
      low = λ x from to. omega (arith, row.low x from to, lower (start x), upper x, costs x to);
      reached = λ x from to.
          let there = row.reached x from to in
          (there.0, there.1, there.2, omega (arith, there.3, upper x, lower (start there.0), costs there.0 there.2));
    }

-- a row added behind others leaves them unchanged
row_kept : (rows : List (ℕ × List ℕ)) (row : ℕ × List ℕ) (b x : ℕ) → b < length rows → rows_at (rows ++ row ∷ []) b x ≡ rows_at rows b x
row_kept rows row b x inside = ap (λ r. row_at r x) (get_or_append_left rows (row ∷ []) (0, []) b inside)

row_put : (rows : List (ℕ × List ℕ)) (row : ℕ × List ℕ) (b x : ℕ) → length rows ≡ b → rows_at (rows ++ row ∷ []) b x ≡ row_at row x
row_put rows row b x counted = ap (λ r. row_at r x) (get_or_push rows row (0, []) b counted)

-- the row of the first block
first_at : (x : ℕ) → 0 < x → row_at (0, 0 ∷ 2 ^ 62 ∷ []) x ≡ 2 ^ 62
first_at zero some = absurd (omega arith)
first_at (suc x) some =
    let last : min (suc x - 0) 1 ≡ 1 = omega arith in
    ap (slice_index (0 ∷ 2 ^ 62 ∷ [])) last

pub first_most : (x : ℕ) → row_at (0, 0 ∷ 2 ^ 62 ∷ []) x ≤ 2 ^ 62
first_most zero = omega arith
first_most (suc x) = omega (arith, first_at (suc x) (omega arith))

first_rises : (x y : ℕ) → x ≤ y → row_at (0, 0 ∷ 2 ^ 62 ∷ []) x ≤ row_at (0, 0 ∷ 2 ^ 62 ∷ []) y
first_rises x zero onward =
    let same : 0 ≡ x = omega (arith, onward) in
    subst (λ n. row_at (0, 0 ∷ 2 ^ 62 ∷ []) n ≤ row_at (0, 0 ∷ 2 ^ 62 ∷ []) 0) same (omega arith)
first_rises x (suc y) onward = omega (arith, first_most x, first_at (suc y) (omega arith))

pub piled_first : (bytes : List ℕ) (t : Table) → ArePiledUp bytes t 1 ((0, 0 ∷ 2 ^ 62 ∷ []) ∷ [])
piled_first bytes t =
    record {
      first = refl;
      elsewhere = λ x some. omega (arith, first_at x some);
      rises = λ x y onward. first_rises x y onward;
      rows = λ b inside. absurd (omega arith);
    }

pub small_first : (bytes : List ℕ) (t : Table) → AreSmall bytes t 0 ((0, 0 ∷ 2 ^ 62 ∷ []) ∷ [])
small_first bytes t x = omega (arith, first_most x)

-- what is known of a row that is put behind others
abbrev pub IsRowOn : List ℕ → Table → ℕ → List (ℕ × List ℕ) → ℕ × List ℕ → Type 0
IsRowOn bytes t b rows row =
    IsRow (slice_index t.near.now (b + 1)) (slice_index t.far.now (b + 1)) (slice_index t.starts.now)
    (standing_cost bytes (slice_index t.present.now b) (slice_index t.present.now (b + 1)) (slice_index t.present.now (b + 1 + 1)))
    (row_at (slice_index_or rows b (0, []))) (row_at row)

pub piled_more : (bytes : List ℕ) (t : Table) (b : ℕ) (rows : List (ℕ × List ℕ)) (row : ℕ × List ℕ) → IsTable bytes t → b + 2 < length t.near.now
    → length rows ≡ b + 1 → ArePiledUp bytes t (b + 1) rows → IsRowOn bytes t b rows row → ArePiledUp bytes t (b + 1 + 1) (rows ++ row ∷ [])
piled_more bytes t b rows row h inside counted piled next =
    record {
      first = row_kept rows row 0 0 (omega arith) ∙ piled.first;
      elsewhere = λ x some. omega (arith, piled.elsewhere x some, row_kept rows row 0 x (omega arith));
      rises = λ x y onward. omega (arith, piled.rises x y onward, row_kept rows row 0 x (omega arith), row_kept rows row 0 y (omega arith));
      rows = λ k few. elim (cases_lt (k + 1) (b + 1)) [
        | inl earlier ↦
            row_same (slice_index t.near.now (k + 1)) (slice_index t.far.now (k + 1)) (slice_index t.starts.now)
            (cut_cost (sizes_on bytes t.present.now) (in_order (length t.near.now - 1)) k)
            (cut_cost (sizes_on bytes t.present.now) (in_order (length t.near.now - 1)) k) (rows_at rows k) (rows_at rows (k + 1))
            (rows_at (rows ++ row ∷ []) k) (rows_at (rows ++ row ∷ []) (k + 1)) (λ x to. refl)
            (λ x. row_kept rows row k x (omega arith)) (λ x. row_kept rows row (k + 1) x (omega arith)) (piled.rows k earlier)
        | inr latest ↦
            let same : b ≡ k = omega (arith, latest, few) in
            let far_in = h.far_inside (b + 1) (omega arith) in
            let here : IsRow (slice_index t.near.now (b + 1)) (slice_index t.far.now (b + 1)) (slice_index t.starts.now)
            (cut_cost (sizes_on bytes t.present.now) (in_order (length t.near.now - 1)) b) (rows_at (rows ++ row ∷ []) b)
            (rows_at (rows ++ row ∷ []) (b + 1)) =
            row_same (slice_index t.near.now (b + 1)) (slice_index t.far.now (b + 1)) (slice_index t.starts.now)
            (standing_cost bytes (slice_index t.present.now b) (slice_index t.present.now (b + 1))
            (slice_index t.present.now (b + 1 + 1))) (cut_cost (sizes_on bytes t.present.now) (in_order (length t.near.now - 1)) b)
            (row_at (slice_index_or rows b (0, []))) (row_at row) (rows_at (rows ++ row ∷ []) b) (rows_at (rows ++ row ∷ []) (b + 1))
            (λ x to. cost_is bytes t.present.now (length t.near.now - 1) b x h.divides (omega arith) (omega (arith, to, far_in)))
            (λ x. row_kept rows row b x (omega arith)) (λ x. row_put rows row (b + 1) x counted) next in
            subst (λ n. IsRow (slice_index t.near.now (n + 1)) (slice_index t.far.now (n + 1)) (slice_index t.starts.now)
            (cut_cost (sizes_on bytes t.present.now) (in_order (length t.near.now - 1)) n) (rows_at (rows ++ row ∷ []) n)
            (rows_at (rows ++ row ∷ []) (n + 1))) same here
      ];
    }

-- the present cuts around one of them
pub cut_ordered : (bytes : List ℕ) (t : Table) (b : ℕ) → IsTable bytes t → b + 1 < length t.near.now
    → (slice_index t.present.now b ≤ slice_index t.present.now (b + 1)) × (slice_index t.present.now (b + 1) ≤ length bytes)
cut_ordered bytes t b h inside =
    block_within (length bytes) (length t.near.now - 1) t.present.now b h.divides (omega arith)

pub small_more : (bytes : List ℕ) (t : Table) (b : ℕ) (rows : List (ℕ × List ℕ)) (row : ℕ × List ℕ) → IsTable bytes t → b + 2 < length t.near.now
    → length rows ≡ b + 1 → AreSmall bytes t b rows → IsRowOn bytes t b rows row → AreSmall bytes t (b + 1) (rows ++ row ∷ [])
small_more bytes t b rows row h inside counted small next x =
    let far : ℕ = slice_index t.far.now (b + 1) in
    let one = cut_ordered bytes t b h (omega arith) in
    let other = cut_ordered bytes t (b + 1) h (omega arith) in
    let near : slice_index t.near.now (b + 1) ≤ far = omega (arith, h.near_before (b + 1) (omega arith), h.far_behind (b + 1) (omega arith)) in
    let most : row_at row x ≤ row_at row far = elim (cases_lt far x) [
      | inl late ↦ omega (arith, next.level x (omega (arith, late)))
      | inr on ↦ next.rises x far on
    ] in
    let cost : standing_cost bytes (slice_index t.present.now b) (slice_index t.present.now (b + 1)) (slice_index t.present.now (b + 1 + 1))
    far ≤ load bytes (slice_index t.present.now b) (slice_index t.present.now (b + 1)) + load bytes (slice_index t.present.now (b + 1))
    (slice_index t.present.now (b + 1 + 1)) = cost_few bytes (slice_index t.present.now b) (slice_index t.present.now (b + 1))
    (slice_index t.present.now (b + 1 + 1)) far one.0 other.0 in
    omega (
      arith,
      row_put rows row (b + 1) x counted,
      most,
      next.low far near (omega arith),
      small (slice_index t.starts.now far),
      cost,
      load_split bytes (slice_index t.present.now b) (slice_index t.present.now (b + 1)) one.0,
      load_split bytes (slice_index t.present.now (b + 1)) (slice_index t.present.now (b + 1 + 1)) other.0,
    )

-- so sums with it fit 64 bits
pub small_below : (bytes : List ℕ) (t : Table) (b : ℕ) (rows : List (ℕ × List ℕ)) → IsTable bytes t → b + 1 < length t.near.now
    → AreSmall bytes t b rows → (x : ℕ) → rows_at rows b x ≤ 2 ^ 63
small_below bytes t b rows h inside small x =
    omega (
      arith,
      small x,
      h.light,
      load_within bytes 0 (slice_index t.present.now b) (omega arith),
      load_within bytes 0 (slice_index t.present.now (b + 1)) (omega arith),
    )
