-- What an edit of one row makes of its room.
use Rattle.std.proofs.Common.{◌≡◌, ℕ, ◌+◌, ◌*◌, ◌<◌, ◌≤◌, zero, suc, List, [], ◌∷◌, ◌++◌, length, get_or, set, drop, Option, Some, None, Result, Ok, Err, Bool, true, false, Bor, arith, refl, sym, ap, subst, ◌∙◌, length-append}
use Rattle.std.specs.Prelude.{cond, IfSome, IsSome, OnOk, OnErr}
use Rattle.std.specs.Option.{option_map_or, option_copied}
use Rattle.std.specs.Ordering.{nat_cmp, is_eq, match_ordering}
use Rattle.std.specs.declared.cmp.Ordering.{Ordering}
use Rattle.std.specs.declared.cmp.Ordering.TheVariants.{Less, Equal, Greater}
use Rattle.std.proofs.lemmas.Bool.Decides.{nat_tests}
use Rattle.std.proofs.lemmas.List.{drop_more}
use Rattle.std.proofs.lemmas.Map.Lookups.{exact_unsigned}
use Rattle.chares.specs.Elements.{ElementView, ran}
use Rattle.chares.specs.Letters.{Done}
use Rattle.chares.specs.Steps.{Step}
use Rattle.pe_state.specs.Rooms.{found, changed, joined, without, ran_in, IsKeyed}
use Rattle.pe_state.specs.Rows.{row_width, row_of, row_count, IsWithin, AreRows, entries_of, AreKeyed, IsRoom}
use Rattle.pe_state.proofs.Keyed.{equals, pick}
use Rattle.pe_state.proofs.Places.{no_place, within_changed, within_joined, within_without}
use Rattle.pe_state.proofs.Joined.{found_in_row, found_in_none, changed_in_row, joined_in_row, without_in_row, still_rows, one_more_row, entries_of_more}

-- by both of what a call says
pub either_way : {T E P Q R : Type 0} (r : Result T E) → (P → R) → (Q → R) → OnOk r P → OnErr r Q → R
either_way (Ok x) f g p q = f p
either_way (Err e) f g p q = g q

pub from_copied : {X : Type 0} (P : X → Type 0) (r : Option (Bor X)) → IfSome (option_copied r) P → IfSome r (λ x. P x.now)
from_copied P None h = tt
from_copied P (Some x) h = h

-- the range of the row of an index
pub low_of : (e i : ℕ) → i ≡ row_of e → 0 + row_width * i ≤ e
low_of e i at = omega arith

pub high_of : (e i : ℕ) → i ≡ row_of e → e < 0 + row_width * i + row_width
high_of e i at = omega arith

pub set_same : {X : Type 0} (xs : List X) (i : ℕ) (d : X) → i < length xs → set xs i (get_or xs i d) ≡ xs
set_same [] i d h = refl
set_same (x ∷ xs) zero d h = refl
set_same {X} (x ∷ xs) (suc i) d h = ap (λ (ys : List X). x ∷ ys) (set_same xs i d (omega arith))

pub length_set : {X : Type 0} (xs : List X) (i : ℕ) (x : X) → length (set xs i x) ≡ length xs
length_set [] i x = refl
length_set (y ∷ xs) zero x = refl
length_set (y ∷ xs) (suc i) x = let h = length_set xs i x in omega arith

-- how many elements are left from a row on
pub left_from : {X : Type 0} (rows : List (List (ℕ × X))) (i : ℕ) (z : List (ℕ × X)) → i < length rows → z ≡ get_or rows i z
    → length (entries_of (drop i rows)) ≡ length z + length (entries_of (drop (i + 1) rows))
left_from {X} rows i z h read =
    let first : drop i rows ≡ z ∷ drop (i + 1) rows = drop_more rows i z h ∙ ap (λ (y : List (ℕ × X)). y ∷ drop (i + 1) rows) (sym read) in
    ap (λ (rs : List (List (ℕ × X))). length (entries_of rs)) first ∙ length-append z (entries_of (drop (i + 1) rows))

-- the next row of a walk, where the one before it is at its end
pub next_row : {X : Type 0} (now z row all : List (ℕ × X)) (rows after : List (List (ℕ × X))) → now ++ entries_of rows ≡ all
    → length now ≡ 0 → rows ≡ z ∷ after → row ≡ z → row ++ entries_of after ≡ all
next_row {X} [] z row all rows after same none first is =
    ap (λ (y : List (ℕ × X)). y ++ entries_of after) is ∙ sym (ap (λ (rs : List (List (ℕ × X))). entries_of rs) first) ∙ same
next_row (x ∷ now) z row all rows after same none first is = absurd (omega arith)

within_long : {X : Type 0} (low high : ℕ) (row : List (ℕ × X)) → IsWithin low high row → low + length row ≤ high
within_long low high [] w = omega (arith, w)
within_long low high (p ∷ row) w = let h = within_long (p.0 + 1) high row w.1 in let a = w.0 in omega arith

pub rows_long : {X : Type 0} (low : ℕ) (rows : List (List (ℕ × X))) → AreRows low rows → length (entries_of rows) ≤ row_width * length rows
rows_long low [] r = omega arith
rows_long low (row ∷ rows) r =
    let a = within_long low (low + row_width) row r.0 in
    let b = rows_long (low + row_width) rows r.1 in
    let c = length-append row (entries_of rows) in
    omega arith

module _ {C : Type 0} where
  pub keyed_found : (room : List (ℕ × ElementView C)) → AreKeyed room → IsKeyed room
  keyed_found [] k q = tt
  keyed_found (p ∷ room) k q = pick (is_eq (nat_cmp q p.0)) (Some p.1) (found q room) (λ (el : ElementView C). el.index ≡ q)
      (λ t. k.0 ∙ sym (equals q p.0 t)) (λ t. keyed_found room k.1 q)

  keyed_changed : (e : ℕ) (x : ElementView C) (room : List (ℕ × ElementView C)) → x.index ≡ e → AreKeyed room → AreKeyed (changed e x room)
  keyed_changed e x [] i k = tt
  keyed_changed e x (p ∷ room) i k = by (is_eq (nat_cmp e p.0)) refl (keyed_changed e x room i k.1)
    where
      by : (b : Bool) → is_eq (nat_cmp e p.0) ≡ b → AreKeyed (changed e x room) → AreKeyed (cond b ((p.0, x) ∷ room) (p ∷ changed e x room))
      by true t later = (i ∙ equals e p.0 t, k.1)
      by false t later = (k.0, later)

  keyed_joined : (e : ℕ) (x : ElementView C) (room : List (ℕ × ElementView C)) → x.index ≡ e → AreKeyed room → AreKeyed (joined e x room)
  keyed_joined e x [] i k = (i, tt)
  keyed_joined e x (p ∷ room) i k = by (nat_cmp e p.0) refl (keyed_joined e x room i k.1)
    where
      by : (r : Ordering) → nat_cmp e p.0 ≡ r → AreKeyed (joined e x room) → AreKeyed (match_ordering r ((e, x) ∷ p ∷ room) ((p.0, x) ∷ room) (p ∷ joined e x room))
      by Less m later = (i, k)
      by Equal m later = (i ∙ exact_unsigned e p.0 m, k.1)
      by Greater m later = (k.0, later)

  keyed_without : (e : ℕ) (room : List (ℕ × ElementView C)) → AreKeyed room → AreKeyed (without e room)
  keyed_without e [] k = tt
  keyed_without e (p ∷ room) k = by (is_eq (nat_cmp e p.0)) (keyed_without e room k.1)
    where
      by : (b : Bool) → AreKeyed (without e room) → AreKeyed (cond b room (p ∷ without e room))
      by true later = k.1
      by false later = (k.0, later)

  -- the row of an index has what its room has at that index
  pub found_there : (rows : List (List (ℕ × ElementView C))) (i e : ℕ) (z : List (ℕ × ElementView C)) → IsRoom rows → i < length rows
      → i ≡ row_of e → z ≡ get_or rows i z → found e z ≡ found e (entries_of rows)
  found_there rows i e z room h at read =
      ap (λ (r : List (ℕ × ElementView C)). found e r) read ∙ sym (found_in_row 0 rows room.in_rows i e z h (low_of e i at) (high_of e i at))

  pub found_nowhere : (rows : List (List (ℕ × ElementView C))) (i e : ℕ) → IsRoom rows → length rows ≤ i → i ≡ row_of e → found e (entries_of rows) ≡ None
  found_nowhere rows i e room h at = let low = low_of e i at in found_in_none 0 rows room.in_rows e (omega arith)

  -- one more row, where no element stands
  pub pushed_row : (rows after : List (List (ℕ × ElementView C))) (z : List (ℕ × ElementView C)) → IsRoom rows → length rows < row_count
      → after ≡ rows ++ z ∷ [] → z ≡ [] → (entries_of after ≡ entries_of rows) × IsRoom after
  pushed_row rows after z room few is empty =
      let after_is : after ≡ rows ++ [] ∷ [] = is ∙ ap (λ (y : List (ℕ × ElementView C)). rows ++ y ∷ []) empty in
      let same : entries_of after ≡ entries_of rows = ap (λ (rs : List (List (ℕ × ElementView C))). entries_of rs) after_is ∙ entries_of_more rows in
      let long = length-append rows ([] ∷ []) in
      let long_after = ap length after_is in (
        same,
        record {
          keyed = subst (λ (r : List (ℕ × ElementView C)). AreKeyed r) (sym same) room.keyed;
          in_rows = subst (λ (rs : List (List (ℕ × ElementView C))). AreRows 0 rs) (sym after_is) (one_more_row 0 rows room.in_rows);
          few = omega arith;
        },
      )

  -- an element that stands there has a row
  pub has_row : (rows : List (List (ℕ × ElementView C))) (i e : ℕ) → IsRoom rows → i ≡ row_of e → IsSome (found e (entries_of rows)) → i < length rows
  has_row rows i e room at some = by (nat_cmp i (length rows)) refl
    where
      past : length rows ≤ i → i < length rows
      past h = absurd (no_place (found e (entries_of rows)) (found_nowhere rows i e room h at) some)

      by : (o : Ordering) → nat_cmp i (length rows) ≡ o → i < length rows
      by Less m = grind (arith, nat_tests)
      by Equal m = past (grind (arith, nat_tests))
      by Greater m = past (grind (arith, nat_tests))

  -- the rows after an edit of one of them are rows of a room
  as_room : (rows : List (List (ℕ × ElementView C))) (i : ℕ) (y : List (ℕ × ElementView C)) (after : List (ℕ × ElementView C))
      → length rows ≤ row_count → entries_of (set rows i y) ≡ after → AreKeyed after → AreRows 0 (set rows i y) → (entries_of (set rows i y) ≡ after) × IsRoom (set rows i y)
  as_room rows i y after few is keyed are =
      let long = length_set rows i y in
      (is, record { keyed = subst (λ (r : List (ℕ × ElementView C)). AreKeyed r) (sym is) keyed; in_rows = are; few = omega arith })

  module _ (rows : List (List (ℕ × ElementView C))) (i e : ℕ) (z y : List (ℕ × ElementView C)) (room : IsRoom rows) (h : i < length rows)
      (at : i ≡ row_of e) (read : z ≡ get_or rows i z) where
    pub same_row : y ≡ z → (entries_of (set rows i y) ≡ entries_of rows) × IsRoom (set rows i y)
    same_row is =
        let same : set rows i y ≡ rows = ap (λ (r : List (ℕ × ElementView C)). set rows i r) (is ∙ read) ∙ set_same rows i z h in
        (ap (λ (rs : List (List (ℕ × ElementView C))). entries_of rs) same, subst (λ (rs : List (List (ℕ × ElementView C))). IsRoom rs) (sym same) room)

    pub joined_row : (x : ElementView C) → x.index ≡ e → y ≡ joined e x z → (entries_of (set rows i y) ≡ joined e x (entries_of rows)) × IsRoom (set rows i y)
    joined_row x key is =
        let is_y : joined e x (get_or rows i z) ≡ y = ap (λ (r : List (ℕ × ElementView C)). joined e x r) (sym read) ∙ sym is in
        let low = low_of e i at in
        let high = high_of e i at in
        as_room rows i y (joined e x (entries_of rows)) room.few
        (subst (λ (r : List (ℕ × ElementView C)). entries_of (set rows i r) ≡ joined e x (entries_of rows)) is_y (joined_in_row e x 0 rows room.in_rows i z h low high))
        (keyed_joined e x (entries_of rows) key room.keyed)
        (subst (λ (r : List (ℕ × ElementView C)). AreRows 0 (set rows i r)) is_y
        (still_rows 0 rows room.in_rows i z (joined e x (get_or rows i z)) h
        (λ w. within_joined (0 + row_width * i) (0 + row_width * i + row_width) e x (get_or rows i z) low high w)))

    pub changed_row : (x : ElementView C) → x.index ≡ e → y ≡ changed e x z → (entries_of (set rows i y) ≡ changed e x (entries_of rows)) × IsRoom (set rows i y)
    changed_row x key is =
        let is_y : changed e x (get_or rows i z) ≡ y = ap (λ (r : List (ℕ × ElementView C)). changed e x r) (sym read) ∙ sym is in
        as_room rows i y (changed e x (entries_of rows)) room.few
        (subst (λ (r : List (ℕ × ElementView C)). entries_of (set rows i r) ≡ changed e x (entries_of rows)) is_y
        (changed_in_row e x 0 rows room.in_rows i z h (low_of e i at) (high_of e i at)))
        (keyed_changed e x (entries_of rows) key room.keyed)
        (subst (λ (r : List (ℕ × ElementView C)). AreRows 0 (set rows i r)) is_y
        (still_rows 0 rows room.in_rows i z (changed e x (get_or rows i z)) h
        (λ w. within_changed (0 + row_width * i) (0 + row_width * i + row_width) e x (get_or rows i z) w)))

    pub without_row : y ≡ without e z → (entries_of (set rows i y) ≡ without e (entries_of rows)) × IsRoom (set rows i y)
    without_row is =
        let is_y : without e (get_or rows i z) ≡ y = ap (λ (r : List (ℕ × ElementView C)). without e r) (sym read) ∙ sym is in
        as_room rows i y (without e (entries_of rows)) room.few
        (subst (λ (r : List (ℕ × ElementView C)). entries_of (set rows i r) ≡ without e (entries_of rows)) is_y
        (without_in_row e 0 rows room.in_rows i z h (low_of e i at) (high_of e i at)))
        (keyed_without e (entries_of rows) room.keyed)
        (subst (λ (r : List (ℕ × ElementView C)). AreRows 0 (set rows i r)) is_y
        (still_rows 0 rows room.in_rows i z (without e (get_or rows i z)) h
        (λ w. within_without (0 + row_width * i) (0 + row_width * i + row_width) e (get_or rows i z) w)))

    pub ran_row : (step : Step C) (pack : C → List ℕ) (n pe : ℕ) (done : Done) → y ≡ ran_in step pack z e n pe done
        → (entries_of (set rows i y) ≡ ran_in step pack (entries_of rows) e n pe done) × IsRoom (set rows i y)
    ran_row step pack n pe done is = by (found e z) refl is
      where
        there : found e z ≡ found e (entries_of rows)
        there = found_there rows i e z room h at read

        by : (o : Option (ElementView C)) → found e z ≡ o → y ≡ option_map_or (λ el. changed e (ran step pack el n pe done) z) o z
            → (entries_of (set rows i y) ≡ ran_in step pack (entries_of rows) e n pe done) × IsRoom (set rows i y)
        by None none k =
            let got = same_row k in
            let rest : ran_in step pack (entries_of rows) e n pe done ≡ entries_of rows = ap
            (λ (o : Option (ElementView C)). option_map_or (λ el. changed e (ran step pack el n pe done) (entries_of rows)) o
            (entries_of rows)) (sym there ∙ none) in
            (got.0 ∙ sym rest, got.1)
        by (Some el) some k =
            let flat : found e (entries_of rows) ≡ Some el = sym there ∙ some in
            let key : el.index ≡ e = subst (λ (o : Option (ElementView C)). IfSome o (λ el. el.index ≡ e)) flat (keyed_found (entries_of rows) room.keyed e) in
            let got = changed_row (ran step pack el n pe done) key k in
            let rest : ran_in step pack (entries_of rows) e n pe done ≡ changed e (ran step pack el n pe done) (entries_of rows) = ap
            (λ (o : Option (ElementView C)). option_map_or (λ el. changed e (ran step pack el n pe done) (entries_of rows)) o (entries_of rows)) flat in
            (got.0 ∙ sym rest, got.1)
