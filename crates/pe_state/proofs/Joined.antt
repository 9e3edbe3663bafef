-- All rows of a room, one after the other: what is found, changed, joined and left in them is so in the row of that index.
use Rattle.std.proofs.Common.{◌≡◌, ℕ, ◌+◌, ◌*◌, ◌<◌, ◌≤◌, zero, suc, List, [], ◌∷◌, ◌++◌, length, get_or, set, Option, Some, None, Bool, true, false, arith, refl, sym, ap, subst, ◌∙◌}
use Rattle.std.specs.Prelude.{cond}
use Rattle.std.specs.Ordering.{nat_cmp, is_eq, match_ordering}
use Rattle.std.specs.declared.cmp.Ordering.{Ordering}
use Rattle.std.specs.declared.cmp.Ordering.TheVariants.{Less, Equal, Greater}
use Rattle.pe_state.specs.Rooms.{found, changed, joined, without}
use Rattle.pe_state.specs.Rows.{row_width, IsWithin, AreRows, entries_of}
use Rattle.pe_state.proofs.Places.{less, greater}

module _ {X : Type 0} where
  -- all indices are below e, or above it
  abbrev pub AreBelow : ℕ → List (ℕ × X) → Type 0
  AreBelow e [] = Unit {0}
  AreBelow e (p ∷ ps) = (p.0 < e) × AreBelow e ps

  abbrev pub AreAbove : ℕ → List (ℕ × X) → Type 0
  AreAbove e [] = Unit {0}
  AreAbove e (p ∷ ps) = (e < p.0) × AreAbove e ps

  row_below : (low high e : ℕ) (row : List (ℕ × X)) → IsWithin low high row → high ≤ e → AreBelow e row
  row_below low high e [] w h = tt
  row_below low high e (p ∷ row) w h = let a = ends (p.0 + 1) high row w.1 in (omega arith, row_below (p.0 + 1) high e row w.1 h)
    where
      ends : (low high : ℕ) (row : List (ℕ × X)) → IsWithin low high row → low ≤ high
      ends low high [] w = w
      ends low high (p ∷ row) w = let a = ends (p.0 + 1) high row w.1 in let b = w.0 in omega arith

  row_above : (low high e : ℕ) (row : List (ℕ × X)) → IsWithin low high row → e < low → AreAbove e row
  row_above low high e [] w h = tt
  row_above low high e (p ∷ row) w h = (omega (arith, w.0), row_above (p.0 + 1) high e row w.1 (omega (arith, w.0)))

  both_above : (e : ℕ) (xs ys : List (ℕ × X)) → AreAbove e xs → AreAbove e ys → AreAbove e (xs ++ ys)
  both_above e [] ys a b = b
  both_above e (p ∷ xs) ys a b = (a.0, both_above e xs ys a.1 b)

  rows_above : (low e : ℕ) (rows : List (List (ℕ × X))) → AreRows low rows → e < low → AreAbove e (entries_of rows)
  rows_above low e [] r h = tt
  rows_above low e (row ∷ rows) r h = both_above e row (entries_of rows) (row_above low (low + row_width) e row r.0 h) (rows_above (low + row_width) e rows r.1 (omega arith))

  found_above : (e : ℕ) (xs : List (ℕ × X)) → AreAbove e xs → found e xs ≡ None
  found_above e [] a = refl
  found_above e (p ∷ xs) a = rw (less e p.0 a.0) (found_above e xs a.1)

  -- past what is below
  found_past : (e : ℕ) (xs ys : List (ℕ × X)) → AreBelow e xs → found e (xs ++ ys) ≡ found e ys
  found_past e [] ys b = refl
  found_past e (p ∷ xs) ys b = rw (greater e p.0 b.0) (found_past e xs ys b.1)

  changed_past : (e : ℕ) (x : X) (xs ys : List (ℕ × X)) → AreBelow e xs → changed e x (xs ++ ys) ≡ xs ++ changed e x ys
  changed_past e x [] ys b = refl
  changed_past e x (p ∷ xs) ys b = rw (greater e p.0 b.0) (ap (λ (r : List (ℕ × X)). p ∷ r) (changed_past e x xs ys b.1))

  joined_past : (e : ℕ) (x : X) (xs ys : List (ℕ × X)) → AreBelow e xs → joined e x (xs ++ ys) ≡ xs ++ joined e x ys
  joined_past e x [] ys b = refl
  joined_past e x (p ∷ xs) ys b = rw (greater e p.0 b.0) (ap (λ (r : List (ℕ × X)). p ∷ r) (joined_past e x xs ys b.1))

  without_past : (e : ℕ) (xs ys : List (ℕ × X)) → AreBelow e xs → without e (xs ++ ys) ≡ xs ++ without e ys
  without_past e [] ys b = refl
  without_past e (p ∷ xs) ys b = rw (greater e p.0 b.0) (ap (λ (r : List (ℕ × X)). p ∷ r) (without_past e xs ys b.1))

  -- before what is above
  found_before : (e : ℕ) (xs ys : List (ℕ × X)) → AreAbove e ys → found e (xs ++ ys) ≡ found e xs
  found_before e [] ys a = found_above e ys a
  found_before e (p ∷ xs) ys a = ap (λ (o : Option X). cond (is_eq (nat_cmp e p.0)) (Some p.1) o) (found_before e xs ys a)

  changed_above : (e : ℕ) (x : X) (xs : List (ℕ × X)) → AreAbove e xs → changed e x xs ≡ xs
  changed_above e x [] a = refl
  changed_above e x (p ∷ xs) a = rw (less e p.0 a.0) (ap (λ (r : List (ℕ × X)). p ∷ r) (changed_above e x xs a.1))

  changed_before : (e : ℕ) (x : X) (xs ys : List (ℕ × X)) → AreAbove e ys → changed e x (xs ++ ys) ≡ changed e x xs ++ ys
  changed_before e x [] ys a = changed_above e x ys a
  changed_before e x (p ∷ xs) ys a = by (is_eq (nat_cmp e p.0)) (changed_before e x xs ys a)
    where
      by : (b : Bool) → changed e x (xs ++ ys) ≡ changed e x xs ++ ys
          → cond b ((p.0, x) ∷ (xs ++ ys)) (p ∷ changed e x (xs ++ ys)) ≡ cond b ((p.0, x) ∷ xs) (p ∷ changed e x xs) ++ ys
      by true later = refl
      by false later = ap (λ (r : List (ℕ × X)). p ∷ r) later

  joined_above : (e : ℕ) (x : X) (xs : List (ℕ × X)) → AreAbove e xs → joined e x xs ≡ (e, x) ∷ xs
  joined_above e x [] a = refl
  joined_above e x (p ∷ xs) a = rw (less e p.0 a.0)

  joined_before : (e : ℕ) (x : X) (xs ys : List (ℕ × X)) → AreAbove e ys → joined e x (xs ++ ys) ≡ joined e x xs ++ ys
  joined_before e x [] ys a = joined_above e x ys a
  joined_before e x (p ∷ xs) ys a = by (nat_cmp e p.0) (joined_before e x xs ys a)
    where
      by : (o : Ordering) → joined e x (xs ++ ys) ≡ joined e x xs ++ ys
          → match_ordering o ((e, x) ∷ p ∷ (xs ++ ys)) ((p.0, x) ∷ (xs ++ ys)) (p ∷ joined e x (xs ++ ys)) ≡ match_ordering o
          ((e, x) ∷ p ∷ xs) ((p.0, x) ∷ xs) (p ∷ joined e x xs) ++ ys
      by Less later = refl
      by Equal later = refl
      by Greater later = ap (λ (r : List (ℕ × X)). p ∷ r) later

  without_above : (e : ℕ) (xs : List (ℕ × X)) → AreAbove e xs → without e xs ≡ xs
  without_above e [] a = refl
  without_above e (p ∷ xs) a = rw (less e p.0 a.0) (ap (λ (r : List (ℕ × X)). p ∷ r) (without_above e xs a.1))

  without_before : (e : ℕ) (xs ys : List (ℕ × X)) → AreAbove e ys → without e (xs ++ ys) ≡ without e xs ++ ys
  without_before e [] ys a = without_above e ys a
  without_before e (p ∷ xs) ys a = by (is_eq (nat_cmp e p.0)) (without_before e xs ys a)
    where
      by : (b : Bool) → without e (xs ++ ys) ≡ without e xs ++ ys → cond b (xs ++ ys) (p ∷ without e (xs ++ ys)) ≡ cond b xs (p ∷ without e xs) ++ ys
      by true later = refl
      by false later = ap (λ (r : List (ℕ × X)). p ∷ r) later

  -- in the i-th row, which begins with the index low + 64 i
  pub found_in_row : (low : ℕ) (rows : List (List (ℕ × X))) → AreRows low rows → (i e : ℕ) (d : List (ℕ × X)) → i < length rows
      → low + row_width * i ≤ e → e < low + row_width * i + row_width → found e (entries_of rows) ≡ found e (get_or rows i d)
  found_in_row low [] r i e d h a b = absurd (omega arith)
  found_in_row low (row ∷ rows) r zero e d h a b = found_before e row (entries_of rows) (rows_above (low + row_width) e rows r.1 (omega arith))
  found_in_row low (row ∷ rows) r (suc i) e d h a b =
      found_past e row (entries_of rows) (row_below low (low + row_width) e row r.0 (omega arith))
      ∙ found_in_row (low + row_width) rows r.1 i e d (omega arith) (omega arith) (omega arith)

  -- none is behind the last row
  pub found_in_none : (low : ℕ) (rows : List (List (ℕ × X))) → AreRows low rows → (e : ℕ) → low + row_width * length rows ≤ e → found e (entries_of rows) ≡ None
  found_in_none low [] r e h = refl
  found_in_none low (row ∷ rows) r e h =
      found_past e row (entries_of rows) (row_below low (low + row_width) e row r.0 (omega arith))
      ∙ found_in_none (low + row_width) rows r.1 e (omega arith)

  -- a change that passes over what is below, and leaves alone what is above
  edit_in_row : (f : List (ℕ × X) → List (ℕ × X)) (e : ℕ)
      → ((xs ys : List (ℕ × X)) → AreBelow e xs → f (xs ++ ys) ≡ xs ++ f ys) → ((xs ys : List (ℕ × X)) → AreAbove e ys → f (xs ++ ys) ≡ f xs ++ ys)
      → (low : ℕ) (rows : List (List (ℕ × X))) → AreRows low rows → (i : ℕ) (d : List (ℕ × X)) → i < length rows → low + row_width * i ≤ e
      → e < low + row_width * i + row_width → entries_of (set rows i (f (get_or rows i d))) ≡ f (entries_of rows)
  edit_in_row f e past front low [] r i d h a b = absurd (omega arith)
  edit_in_row f e past front low (row ∷ rows) r zero d h a b = sym (front row (entries_of rows) (rows_above (low + row_width) e rows r.1 (omega arith)))
  edit_in_row f e past front low (row ∷ rows) r (suc i) d h a b =
      ap (λ (ys : List (ℕ × X)). row ++ ys) (edit_in_row f e past front (low + row_width) rows r.1 i d (omega arith) (omega arith) (omega arith))
      ∙ sym (past row (entries_of rows) (row_below low (low + row_width) e row r.0 (omega arith)))

  pub changed_in_row : (e : ℕ) (x : X) (low : ℕ) (rows : List (List (ℕ × X))) → AreRows low rows → (i : ℕ) (d : List (ℕ × X))
      → i < length rows → low + row_width * i ≤ e → e < low + row_width * i + row_width
      → entries_of (set rows i (changed e x (get_or rows i d))) ≡ changed e x (entries_of rows)
  changed_in_row e x = edit_in_row (changed e x) e (changed_past e x) (changed_before e x)

  pub joined_in_row : (e : ℕ) (x : X) (low : ℕ) (rows : List (List (ℕ × X))) → AreRows low rows → (i : ℕ) (d : List (ℕ × X))
      → i < length rows → low + row_width * i ≤ e → e < low + row_width * i + row_width
      → entries_of (set rows i (joined e x (get_or rows i d))) ≡ joined e x (entries_of rows)
  joined_in_row e x = edit_in_row (joined e x) e (joined_past e x) (joined_before e x)

  pub without_in_row : (e : ℕ) (low : ℕ) (rows : List (List (ℕ × X))) → AreRows low rows → (i : ℕ) (d : List (ℕ × X)) → i < length rows
      → low + row_width * i ≤ e → e < low + row_width * i + row_width → entries_of (set rows i (without e (get_or rows i d))) ≡ without e (entries_of rows)
  without_in_row e = edit_in_row (without e) e (without_past e) (without_before e)

  -- rows stay rows
  pub still_rows : (low : ℕ) (rows : List (List (ℕ × X))) → AreRows low rows → (i : ℕ) (d row : List (ℕ × X)) → i < length rows
      → (IsWithin (low + row_width * i) (low + row_width * i + row_width) (get_or rows i d)
      → IsWithin (low + row_width * i) (low + row_width * i + row_width) row) → AreRows low (set rows i row)
  still_rows low [] r i d row h keeps = absurd (omega arith)
  still_rows low (here ∷ rows) r zero d row h keeps =
      let at : low + row_width * 0 ≡ low = omega arith in
      (subst (λ (n : ℕ). IsWithin n (n + row_width) here → IsWithin n (n + row_width) row) at keeps r.0, r.1)
  still_rows low (here ∷ rows) r (suc i) d row h keeps =
      let at : low + row_width * suc i ≡ low + row_width + row_width * i = omega arith in
      (r.0, still_rows (low + row_width) rows r.1 i d row (omega arith) (subst (λ (n : ℕ). IsWithin n (n + row_width) (get_or rows i d) → IsWithin n (n + row_width) row) at keeps))

  -- one more row, where no element stands
  pub one_more_row : (low : ℕ) (rows : List (List (ℕ × X))) → AreRows low rows → AreRows low (rows ++ [] ∷ [])
  one_more_row low [] r = (omega arith, tt)
  one_more_row low (row ∷ rows) r = (r.0, one_more_row (low + row_width) rows r.1)

  pub entries_of_more : (rows : List (List (ℕ × X))) → entries_of (rows ++ [] ∷ []) ≡ entries_of rows
  entries_of_more [] = refl
  entries_of_more (row ∷ rows) = ap (λ (ys : List (ℕ × X)). row ++ ys) (entries_of_more rows)
