-- Rows, and what is found, changed, joined and left in them, by places.
use Rattle.std.proofs.Common.{◌≡◌, ℕ, ◌+◌, ◌<◌, ◌≤◌, zero, suc, List, [], ◌∷◌, length, get_or, set, Option, Some, None, Result, Ok, Err, Bool, true, false, arith, refl, sym, ap, subst, ◌∙◌}
use Rattle.std.specs.Prelude.{cond, IfOk, IfErr, IsSome}
use Rattle.std.specs.List.{insert, remove}
use Rattle.std.specs.Ordering.{nat_cmp, is_eq, match_ordering}
use Rattle.std.specs.declared.cmp.Ordering.{Ordering}
use Rattle.std.specs.declared.cmp.Ordering.TheVariants.{Less, Equal, Greater}
use Rattle.std.proofs.lemmas.Bool.{false≢true}
use Rattle.std.proofs.lemmas.Bool.Decides.{nat_tests}
use Rattle.pe_state.specs.Rooms.{found, changed, joined, without}
use Rattle.pe_state.specs.Rows.{IsWithin, IsPlace, IsGap, StandsAt, BelongsAt}

pub less : (e k : ℕ) → e < k → nat_cmp e k ≡ Less
less e k h = grind (arith, nat_tests)

pub greater : (e k : ℕ) → k < e → nat_cmp e k ≡ Greater
greater e k h = grind (arith, nat_tests)

pub equal : (e k : ℕ) → k ≡ e → nat_cmp e k ≡ Equal
equal e k h = grind (arith, nat_tests)

module _ {X : Type 0} where
  -- an index of a row is not below its first, and below its end
  pub at_least : (low high : ℕ) (row : List (ℕ × X)) → IsWithin low high row → (i : ℕ) (d : ℕ × X) → i < length row → low ≤ (get_or row i d).0
  at_least low high [] w i d h = absurd (omega arith)
  at_least low high (p ∷ row) w zero d h = w.0
  at_least low high (p ∷ row) w (suc i) d h = let a = at_least (p.0 + 1) high row w.1 i d (omega arith) in let b = w.0 in omega arith

  -- what is below at a place is below before it, and what is above there is above behind it
  pub before : (low high : ℕ) (row : List (ℕ × X)) → IsWithin low high row → (m e : ℕ) → (z : ℕ × X) → m < length row
      → (get_or row m z).0 < e → (k : ℕ) (d : ℕ × X) → k < m + 1 → (get_or row k d).0 < e
  before low high [] w m e z h below k d b = absurd (omega arith)
  before low high (p ∷ row) w zero e z h below zero d b = below
  before low high (p ∷ row) w zero e z h below (suc k) d b = absurd (omega arith)
  before low high (p ∷ row) w (suc m) e z h below zero d b = let a = at_least (p.0 + 1) high row w.1 m z (omega arith) in omega arith
  before low high (p ∷ row) w (suc m) e z h below (suc k) d b = before (p.0 + 1) high row w.1 m e z (omega arith) below k d (omega arith)

  pub behind : (low high : ℕ) (row : List (ℕ × X)) → IsWithin low high row → (m e : ℕ) → (z : ℕ × X) → m < length row
      → e < (get_or row m z).0 → (k : ℕ) (d : ℕ × X) → m ≤ k → k < length row → e < (get_or row k d).0
  behind low high [] w m e z h above k d a b = absurd (omega arith)
  behind low high (p ∷ row) w zero e z h above zero d a b = above
  behind low high (p ∷ row) w zero e z h above (suc k) d a b = let c = at_least (p.0 + 1) high row w.1 k d (omega arith) in omega arith
  behind low high (p ∷ row) w (suc m) e z h above zero d a b = absurd (omega arith)
  behind low high (p ∷ row) w (suc m) e z h above (suc k) d a b = behind (p.0 + 1) high row w.1 m e z (omega arith) above k d (omega arith) (omega arith)

  -- at a place
  pub found_at : (low high : ℕ) (row : List (ℕ × X)) → IsWithin low high row → (i e : ℕ) (d : ℕ × X) → i < length row
      → (get_or row i d).0 ≡ e → found e row ≡ Some (get_or row i d).1
  found_at low high [] w i e d h at = absurd (omega arith)
  found_at low high (p ∷ row) w zero e d h at = rw (equal e p.0 at)
  found_at low high (p ∷ row) w (suc i) e d h at = let a = at_least (p.0 + 1) high row w.1 i d (omega arith) in let g : p.0 < e = omega
      arith in rw (greater e p.0 g) (found_at (p.0 + 1) high row w.1 i e d (omega arith) at)

  pub changed_at : (low high : ℕ) (row : List (ℕ × X)) → IsWithin low high row → (i e : ℕ) (x : X) → i < length row
      → ((d : ℕ × X) → (get_or row i d).0 ≡ e) → changed e x row ≡ set row i (e, x)
  changed_at low high [] w i e x h at = absurd (omega arith)
  changed_at low high (p ∷ row) w zero e x h at = let s : p.0 ≡ e = at p in rw (equal e p.0 s) (ap (λ (k : ℕ). (k, x) ∷ row) s)
  changed_at low high (p ∷ row) w (suc i) e x h at = let a = at_least (p.0 + 1) high row w.1 i p (omega arith) in let b = at
      p in let g : p.0 < e = omega arith in rw (greater e p.0 g) (ap (λ (r : List (ℕ × X)). p ∷ r) (changed_at (p.0 + 1) high row w.1 i e x (omega arith) at))

  pub without_at : (low high : ℕ) (row : List (ℕ × X)) → IsWithin low high row → (i e : ℕ) → i < length row → ((d : ℕ × X) → (get_or row i d).0 ≡ e) → without e row ≡ remove row i
  without_at low high [] w i e h at = absurd (omega arith)
  without_at low high (p ∷ row) w zero e h at = let s : p.0 ≡ e = at p in rw (equal e p.0 s)
  without_at low high (p ∷ row) w (suc i) e h at = let a = at_least (p.0 + 1) high row w.1 i p (omega arith) in let b = at
      p in let g : p.0 < e = omega arith in rw (greater e p.0 g) (ap (λ (r : List (ℕ × X)). p ∷ r) (without_at (p.0 + 1) high row w.1 i e (omega arith) at))

  -- at a gap
  pub tail_gap : (e i : ℕ) (p : ℕ × X) (row : List (ℕ × X)) → IsGap e (p ∷ row) (suc i) → IsGap e row i
  tail_gap e i p row g = (omega (arith, g.0), (λ k d h. g.1 (suc k) d (omega arith)), λ k d h b. g.2 (suc k) d (omega arith) (omega arith))

  pub found_gap : (row : List (ℕ × X)) (i e : ℕ) → IsGap e row i → found e row ≡ None
  found_gap [] i e g = refl
  found_gap (p ∷ row) zero e g = let h : e < p.0 = g.2 0 p (omega arith) (omega arith) in rw (less e p.0 h)
      (found_gap row zero e (omega arith, (λ k d b. absurd (omega arith)), λ k d b c. g.2 (suc k) d (omega arith) (omega arith)))
  found_gap (p ∷ row) (suc i) e g = let h : p.0 < e = g.1 0 p (omega arith) in rw (greater e p.0 h) (found_gap row i e (tail_gap e i p row g))

  pub joined_at : (row : List (ℕ × X)) (i e : ℕ) (x : X) → IsGap e row i → joined e x row ≡ insert row i (e, x)
  joined_at [] zero e x g = refl
  joined_at [] (suc i) e x g = absurd (omega (arith, g.0))
  joined_at (p ∷ row) zero e x g = let h : e < p.0 = g.2 0 p (omega arith) (omega arith) in rw (less e p.0 h)
  joined_at (p ∷ row) (suc i) e x g = let h : p.0 < e = g.1 0 p (omega arith) in rw (greater e p.0 h)
      (ap (λ (r : List (ℕ × X)). p ∷ r) (joined_at row i e x (tail_gap e i p row g)))

  -- a row stays one
  pub within_from_less : (low lower high : ℕ) (row : List (ℕ × X)) → lower ≤ low → IsWithin low high row → IsWithin lower high row
  within_from_less low lower high [] h w = omega arith
  within_from_less low lower high (p ∷ row) h w = (omega (arith, w.0), w.1)

  pub within_changed : (low high e : ℕ) (x : X) (row : List (ℕ × X)) → IsWithin low high row → IsWithin low high (changed e x row)
  within_changed low high e x [] w = w
  within_changed low high e x (p ∷ row) w = by (is_eq (nat_cmp e p.0)) (within_changed (p.0 + 1) high e x row w.1)
    where
      by : (b : Bool) → IsWithin (p.0 + 1) high (changed e x row) → IsWithin low high (cond b ((p.0, x) ∷ row) (p ∷ changed e x row))
      by true later = (w.0, w.1)
      by false later = (w.0, later)

  pub within_joined : (low high e : ℕ) (x : X) (row : List (ℕ × X)) → low ≤ e → e < high → IsWithin low high row → IsWithin low high (joined e x row)
  within_joined low high e x [] a b w = (a, omega arith)
  within_joined low high e x (p ∷ row) a b w = by (nat_cmp e p.0) refl (λ h. within_joined (p.0 + 1) high e x row h b w.1)
    where
      by : (r : Ordering) → nat_cmp e p.0 ≡ r → (p.0 + 1 ≤ e → IsWithin (p.0 + 1) high (joined e x row))
          → IsWithin low high (match_ordering r ((e, x) ∷ p ∷ row) ((p.0, x) ∷ row) (p ∷ joined e x row))
      by Less m later = (a, (grind (arith, nat_tests), w.1))
      by Equal m later = (w.0, w.1)
      by Greater m later = (w.0, later (grind (arith, nat_tests)))

  pub within_without : (low high e : ℕ) (row : List (ℕ × X)) → IsWithin low high row → IsWithin low high (without e row)
  within_without low high e [] w = w
  within_without low high e (p ∷ row) w = by (is_eq (nat_cmp e p.0)) (within_without (p.0 + 1) high e row w.1)
    where
      by : (b : Bool) → IsWithin (p.0 + 1) high (without e row) → IsWithin low high (cond b row (p ∷ without e row))
      by true later = within_from_less (p.0 + 1) low high row (omega (arith, w.0)) w.1
      by false later = (w.0, later)

  same_read : (row : List (ℕ × X)) (i : ℕ) (d z : ℕ × X) → i < length row → get_or row i d ≡ get_or row i z
  same_read [] i d z h = absurd (omega arith)
  same_read (p ∷ row) zero d z h = refl
  same_read (p ∷ row) (suc i) d z h = same_read row i d z (omega arith)

  -- what was read there tells its place
  pub read_at : (row : List (ℕ × X)) (i e : ℕ) (z : ℕ × X) → i < length row → z ≡ get_or row i z → z.0 ≡ e → IsPlace e row i
  read_at row i e z h read at = (h, λ d. ap (λ (y : ℕ × X). y.0) (same_read row i d z h ∙ sym read) ∙ at)

  is_found : (high : ℕ) (row : List (ℕ × X)) (i e : ℕ) → IsWithin 0 high row → IsPlace e row i → IsSome (found e row)
  is_found high [] i e w p = absurd (omega (arith, p.0))
  is_found high (q ∷ row) i e w p = subst (λ (o : Option X). IsSome o) (sym (found_at 0 high (q ∷ row) w i e q p.0 (p.1 q))) refl

  -- what is not found does not stand
  pub no_place : (o : Option X) → o ≡ None → IsSome o → ⊥
  no_place o none some = false≢true (subst (λ (o : Option X). IsSome o) none some)

  pub stands_at : (high : ℕ) (row : List (ℕ × X)) (i e : ℕ) → IsWithin 0 high row → IsPlace e row i → StandsAt e row i
  stands_at high row i e w p =
      record {
        inside = p.0;
        stands = is_found high row i e w p;
        index = p.1;
        here = λ d. found_at 0 high row w i e d p.0 (p.1 d);
        edited = λ x. sym (changed_at 0 high row w i e x p.0 p.1);
        removed = sym (without_at 0 high row w i e p.0 p.1);
      }

  pub belongs_at : (row : List (ℕ × X)) (i e : ℕ) → IsGap e row i → BelongsAt e row i
  belongs_at row i e g =
      record {
        inside = g.0;
        lacks = found_gap row i e g;
        inserted = λ x. sym (joined_at row i e x g);
      }

  -- what a search answers
  pub ok_stands : (high : ℕ) (row : List (ℕ × X)) (e : ℕ) (r : Result ℕ ℕ) → IsWithin 0 high row → IfOk r (λ i. IsPlace e row i) → IfOk r (λ i. StandsAt e row i)
  ok_stands high row e (Ok i) w p = stands_at high row i e w p
  ok_stands high row e (Err i) w p = tt

  pub err_belongs : (row : List (ℕ × X)) (e : ℕ) (r : Result ℕ ℕ) → IfErr r (λ i. IsGap e row i) → IfErr r (λ i. BelongsAt e row i)
  err_belongs row e (Ok i) g = tt
  err_belongs row e (Err i) g = belongs_at row i e g

  -- the entry that was read at that place, and an edit there
  pub here_is : {e i : ℕ} {row : List (ℕ × X)} {z : ℕ × X} → StandsAt e row i → z ≡ get_or row i z → found e row ≡ Some z.1
  here_is {e} {i} {row} {z} at read = at.here z ∙ ap (λ (y : ℕ × X). Some y.1) (sym read)

  pub edit_is : {e i : ℕ} {row : List (ℕ × X)} {z : ℕ × X} → StandsAt e row i → z ≡ get_or row i z → (items : List (ℕ × X)) → items ≡ row
      → (x : X) → set items i (z.0, x) ≡ changed e x row
  edit_is {e} {i} {row} {z} at read items same x =
      let key : z.0 ≡ e = ap (λ (y : ℕ × X). y.0) read ∙ at.index z in
      ap (λ (r : List (ℕ × X)). set r i (z.0, x)) same ∙ ap (λ (k : ℕ). set row i (k, x)) key ∙ at.edited x

  pub insert_is : {e i : ℕ} {row : List (ℕ × X)} → BelongsAt e row i → (items : List (ℕ × X)) → items ≡ row → (k : ℕ) → k ≡ e → (x y : X)
      → x ≡ y → insert items i (k, x) ≡ joined e y row
  insert_is {e} {i} {row} at items same k key x y is =
      ap (λ (r : List (ℕ × X)). insert r i (k, x)) same ∙ ap (λ (n : ℕ). insert row i (n, x)) key ∙ ap (λ (v : X). insert row i (e, v)) is ∙ at.inserted y
