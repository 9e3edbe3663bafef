-- Elements taken out in the order of their indices.
use Rattle.std.proofs.Common.{◌≡◌, ◌≢◌, ℕ, zero, suc, ◌+◌, ◌-◌, ◌<◌, List, [], ◌∷◌, ◌++◌, length, get_or, set, drop, Option, Some, None, Bool, true, false, arith, refl, sym, ap, ◌∙◌}
use Rattle.std.specs.Prelude.{cond}
use Rattle.std.specs.List.{range_with_len}
use Rattle.std.specs.Option.{option_or, option_to_list}
use Rattle.std.specs.Ordering.{nat_cmp, is_eq}
use Rattle.chares.specs.Elements.{ElementView}
use Rattle.pe_state.specs.InOrder.{element_on, elements_at}
use Rattle.pe_state.specs.Pes.{PeView}
use Rattle.pe_state.specs.Rooms.{found, without}
use Rattle.pe_state.specs.Taking.{taken}
use Rattle.std.proofs.lemmas.List.{drop_more}
use Rattle.pe_state.proofs.Edits.{set_same}
use Rattle.pe_state.proofs.Keyed.{equals}
use Rattle.pe_state.proofs.Taking.{without_none}

-- another element is found as before
found_other : {X : Type 0} (i e : ℕ) (room : List (ℕ × X)) → i ≢ e → found i (without e room) ≡ found i room
found_other i e [] other = refl
found_other {X} i e (p ∷ room) other = by (is_eq (nat_cmp e p.0)) refl (found_other i e room other)
  where
    past : (b : Bool) → is_eq (nat_cmp i p.0) ≡ b → e ≡ p.0 → found i room ≡ cond b (Some p.1) (found i room)
    past true t here = absurd (other (equals i p.0 t ∙ sym here))
    past false t here = refl

    by : (b : Bool) → is_eq (nat_cmp e p.0) ≡ b → found i (without e room) ≡ found i room → found i (cond b room (p ∷ without e room)) ≡ found i (p ∷ room)
    by true t later = past (is_eq (nat_cmp i p.0)) refl (equals e p.0 t)
    by false t later = ap (λ (o : Option X). cond (is_eq (nat_cmp i p.0)) (Some p.1) o) later

module _ {C : Type 0} where
  -- a PE from which nothing was taken
  pub taken_none : (e : ℕ) (pe : PeView C) → found e pe.room ≡ None → taken e pe ≡ pe
  taken_none e pe none = ap (λ (room : List (ℕ × ElementView C)). record pe { room = room }) (without_none e pe.room none)

  -- the others, after one was taken out of the PE at this place
  pub others_after : (e place : ℕ) (pes : List (PeView C)) (d : PeView C) (i : ℕ) → i ≢ e → element_on i (set pes place (taken e (get_or pes place d))) ≡ element_on i pes
  others_after e place [] d i other = refl
  others_after e zero (pe ∷ pes) d i other = ap (λ (o : Option (ElementView C)). option_or o (element_on i pes)) (found_other i e pe.room other)
  others_after e (suc place) (pe ∷ pes) d i other = ap (λ (o : Option (ElementView C)). option_or (found i pe.room) o) (others_after e place pes d i other)

  -- a PE where the element does not stand stays as it is, and the element is looked for on the others
  pub missed : (e place : ℕ) (pes : List (PeView C)) (z y : PeView C) → place < length pes → z ≡ get_or pes place z → found e z.room ≡ None → y ≡ taken e z
      → (set pes place y ≡ pes) × (element_on e (drop place pes) ≡ element_on e (drop (place + 1) pes))
  missed e place pes z y h read none is =
      let same : set pes place y ≡ pes = ap (λ (pe : PeView C). set pes place pe) (is ∙ taken_none e z none ∙ read) ∙ set_same pes place z h in
      let first : drop place pes ≡ z ∷ drop (place + 1) pes = drop_more pes place z h ∙ ap (λ (pe : PeView C). pe ∷ drop (place + 1) pes) (sym read) in (
        same,
        ap (λ (rest : List (PeView C)). element_on e rest) first ∙ ap (λ (o : Option (ElementView C)). option_or o (element_on e (drop (place + 1) pes))) none,
      )

  -- and a PE where it stands gives it
  pub hit : (e place : ℕ) (pes : List (PeView C)) (z : PeView C) (el : ElementView C) → place < length pes → z ≡ get_or pes place z → found e z.room ≡ Some el
      → element_on e (drop place pes) ≡ Some el
  hit e place pes z el h read some =
      let first : drop place pes ≡ z ∷ drop (place + 1) pes = drop_more pes place z h ∙ ap (λ (pe : PeView C). pe ∷ drop (place + 1) pes) (sym read) in
      ap (λ (rest : List (PeView C)). element_on e rest) first ∙ ap (λ (o : Option (ElementView C)). option_or o (element_on e (drop (place + 1) pes))) some

  pub others_stay : (e place : ℕ) (pes : List (PeView C)) (z y : PeView C) → z ≡ get_or pes place z → y ≡ taken e z → (i : ℕ) → i ≢ e
      → element_on i (set pes place y) ≡ element_on i pes
  others_stay e place pes z y read is i other =
      ap (λ (pe : PeView C). element_on i (set pes place pe)) (is ∙ ap (taken e) read) ∙ others_after e place pes z i other

  -- the elements from this index on: the one with it, and those behind it
  pub next_of : (next n : ℕ) (pes : List (PeView C)) → next < n
      → elements_at (range_with_len next (n - next)) pes ≡ option_to_list (element_on next pes) ++ elements_at (range_with_len (next + 1) (n - (next + 1))) pes
  next_of next n pes h = ap (λ (k : ℕ). elements_at (range_with_len next k) pes) (one_more next n h)
    where
      one_more : (next n : ℕ) → next < n → n - next ≡ suc (n - (next + 1))
      one_more next n h = omega arith

  -- all of them, before any was taken
  pub none_passed : (n : ℕ) (pes : List (PeView C)) → elements_at (range_with_len 0 (n - 0)) pes ≡ elements_at (range_with_len 0 n) pes
  none_passed n pes = ap (λ (k : ℕ). elements_at (range_with_len 0 k) pes) (whole n)
    where
      whole : (n : ℕ) → n - 0 ≡ n
      whole n = omega arith

  -- those behind an index are the same after that one was taken
  pub still_behind : (e first count : ℕ) (before after : List (PeView C)) → e < first → ((i : ℕ) → i ≢ e → element_on i after ≡ element_on i before)
      → elements_at (range_with_len first count) after ≡ elements_at (range_with_len first count) before
  still_behind e first zero before after h others = refl
  still_behind e first (suc count) before after h others =
      ap (λ (o : Option (ElementView C)). option_to_list o ++ elements_at (range_with_len (first + 1) count) after) (others first (apart h))
      ∙ ap (λ (xs : List (ElementView C)). option_to_list (element_on first before) ++ xs) (still_behind e (first + 1) count before after (omega arith) others)
    where
      apart : e < first → first ≢ e
      apart h same = absurd (omega (arith, h, same))

  -- the elements from an index on, once the one with it was taken out of the PEs, and once none was found
  pub gave : (next n index : ℕ) (before after : List (PeView C)) (el : ElementView C) → next < n → index ≡ next
      → Some el ≡ element_on index before → ((i : ℕ) → i ≢ index → element_on i after ≡ element_on i before)
      → elements_at (range_with_len next (n - next)) before ≡ el ∷ elements_at (range_with_len (next + 1) (n - (next + 1))) after
  gave next n index before after el h same value others =
      let here : element_on next before ≡ Some el = ap (λ (i : ℕ). element_on i before) (sym same) ∙ sym value in
      next_of next n before h
      ∙ ap (λ (o : Option (ElementView C)). option_to_list o ++ elements_at (range_with_len (next + 1) (n - (next + 1))) before) here
      ∙ ap (λ (xs : List (ElementView C)). el ∷ xs) (sym (still_behind index (next + 1) (n - (next + 1)) before after (omega arith) others))

  pub passed : (next n index : ℕ) (before after : List (PeView C)) → next < n → index ≡ next → None ≡ element_on index before
      → ((i : ℕ) → i ≢ index → element_on i after ≡ element_on i before)
      → elements_at (range_with_len (next + 1) (n - (next + 1))) after ≡ elements_at (range_with_len next (n - next)) before
  passed next n index before after h same value others =
      let here : element_on next before ≡ None = ap (λ (i : ℕ). element_on i before) (sym same) ∙ sym value in
      still_behind index (next + 1) (n - (next + 1)) before after (omega arith) others
      ∙ sym (next_of next n before h ∙ ap (λ (o : Option (ElementView C)). option_to_list o ++ elements_at (range_with_len (next + 1) (n - (next + 1))) before) here)
