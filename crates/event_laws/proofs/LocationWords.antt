-- The location words, and where the elements are: an event keeps that each word names the PE in whose room its element
-- is, or for which it is bound.
use Rattle.std.proofs.Common.{◌≡◌, ◌≢◌, ℕ, ◌+◌, ◌≤◌, List, length, Option, Some, None, Bool, true, false, sum_by, arith, refl, sym, ◌∙◌, ap, subst, length-set}
use Rattle.std.specs.Prelude.{slice_get, slice_set, ◌==◌, ◌&&◌, if◌then◌else◌}
use Rattle.std.specs.Option.{option_map_or}
use Rattle.std.proofs.lemmas.Bool.Decides.{nat_tests}
use Rattle.std.proofs.lemmas.Bool.{and_parts}
use Rattle.chares.specs.Letters.{LetterView}
use Rattle.rts_core.specs.Worlds.{WorldView}
use Rattle.rts_core.proofs.Listings.{sum_zero}
use Rattle.rts_core.proofs.WorldSteps.{get_set_same, get_set_other}
use Rattle.event_laws.proofs.Moves.{Move, taken, put, words_after, ran_from}
use Rattle.event_laws.proofs.Moves.Move.{Still, Runs, Looks, Addresses, Forwards, Installs, Departs}
use Rattle.event_laws.proofs.Sites.{Site, ElementWeight, no_letters, world_at, world_zeros, letter_in}
use Rattle.event_laws.proofs.Sites.Site.{Fresh, Bound, Chasing, Waiting, Room}

-- whether the location word of an element is this PE
abbrev pub is_pe : ℕ → Option ℕ → Bool
is_pe p o = option_map_or (λ q. q == p) o false

abbrev pub is_word : List ℕ → ℕ → ℕ → Bool
is_word words e p = is_pe p (slice_get words e)

-- whether an element at a site is beside its index, or is bound, where its location word says
abbrev pub names : List ℕ → Site → ℕ → Bool
names words (Room p key) e = (key == e) && is_word words e p
names words (Bound p) e = is_word words e p
names words s e = false

abbrev pub misnamed : List ℕ → ElementWeight
misnamed words s e = if names words s e then 0 else 1

-- 1 at each element with an index
abbrev pub at_index : ℕ → ElementWeight
at_index i s e = if e == i then 1 else 0

pub word_is : (o : Option ℕ) (p : ℕ) → is_pe p o ≡ true → o ≡ Some p
word_is None p h = cc
word_is (Some q) p h = let e : q ≡ p = grind (arith, nat_tests) in ap (λ (v : ℕ). Some v) e

pub is_word_of : (o : Option ℕ) (p : ℕ) → o ≡ Some p → is_pe p o ≡ true
is_word_of o p h = let a : is_pe p o ≡ is_pe p (Some p) = ap (is_pe p) h in let b : is_pe p (Some p) ≡ true = grind (arith, nat_tests) in a ∙ b

pub right_zero : (b : Bool) → ◌≡◌ {A = ℕ} (if b then 0 else 1) 0 → b ≡ true
right_zero true h = refl
right_zero false h = absurd (omega (arith, h))

pub zero_right : (b : Bool) → b ≡ true → ◌≡◌ {A = ℕ} (if b then 0 else 1) 0
zero_right b h = ap (λ (v : Bool). if v then 0 else 1) h

pub room_named : (words : List ℕ) (p key e : ℕ) → misnamed words (Room p key) e ≡ 0 → (key ≡ e) × (slice_get words e ≡ Some p)
room_named words p key e h =
    let b = and_parts (key == e) (is_word words e p) (right_zero (names words (Room p key) e) h) in
    let same : (key == e) ≡ true = b.0 in
    let k : key ≡ e = grind (arith, nat_tests) in
    (k, word_is (slice_get words e) p b.1)

pub bound_named : (words : List ℕ) (p e : ℕ) → misnamed words (Bound p) e ≡ 0 → slice_get words e ≡ Some p
bound_named words p e h = word_is (slice_get words e) p (right_zero (is_word words e p) h)

pub bound_by_word : (words : List ℕ) (p e : ℕ) → slice_get words e ≡ Some p → misnamed words (Bound p) e ≡ 0
bound_by_word words p e h = zero_right (is_word words e p) (is_word_of (slice_get words e) p h)

pub room_by_word : (words : List ℕ) (p e : ℕ) → slice_get words e ≡ Some p → misnamed words (Room p e) e ≡ 0
room_by_word words p e h =
    let a : (e == e) ≡ true = grind (arith, nat_tests) in
    let b : is_word words e p ≡ true = is_word_of (slice_get words e) p h in
    let c : names words (Room p e) e ≡ true = ap (λ (v : Bool). v && is_word words e p) a ∙ b in
    zero_right (names words (Room p e) e) c

-- only the location word of the element matters
same_word : (words words' : List ℕ) (s : Site) (e : ℕ) → slice_get words' e ≡ slice_get words e → misnamed words' s e ≡ misnamed words s e
same_word words words' Fresh e h = refl
same_word words words' (Bound p) e h = ap (λ (o : Option ℕ). if is_pe p o then 0 else 1) h
same_word words words' (Chasing p) e h = refl
same_word words words' (Waiting p) e h = refl
same_word words words' (Room p key) e h = ap (λ (o : Option ℕ). if (key == e) && is_pe p o then 0 else 1) h

other_index : (i j : ℕ) (s : Site) → at_index i s j ≡ 0 → j ≢ i
other_index i j s h = grind (arith, nat_tests)

own_index : (i : ℕ) (s : Site) → at_index i s i ≡ 1
own_index i s = grind (arith, nat_tests)

no_posts : (k : ElementWeight) (s : Site) (ls : List LetterView) → sum_by (letter_in no_letters k s) ls ≡ 0
no_posts k s ls = sum_zero ls

module _ {C A : Type 0} (w w' stays : WorldView C A) where
  -- the location words are right after a move
  pub named_after : (m : Move)
      → ((k : ElementWeight) → world_at no_letters k w ≡ taken no_letters k m + world_at no_letters k stays)
      → ((k : ElementWeight) → world_at no_letters k w' ≡ put no_letters k m + world_at no_letters k stays)
      → world_at no_letters (misnamed w.words) w ≡ 0
      → ((i : ℕ) → world_at no_letters (at_index i) w ≤ 1)
      → world_at no_letters (misnamed (words_after m w.words)) w' ≡ 0
  named_after Still takes puts named most =
      let a = takes (misnamed w.words) in
      let b = puts (misnamed w.words) in
      omega (arith, a, b, named)
  named_after (Runs ran new) takes puts named most =
      let a = takes (misnamed w.words) in
      let b = puts (misnamed w.words) in
      let c = no_posts (misnamed w.words) Fresh new in
      omega (arith, a, b, c, named)
  named_after (Looks p q l) takes puts named most =
      let a = takes (misnamed w.words) in
      let b = puts (misnamed w.words) in
      omega (arith, a, b, named)
  named_after (Addresses q l) takes puts named most =
      let a = takes (misnamed w.words) in
      let b = puts (misnamed w.words) in
      omega (arith, a, b, named)
  named_after (Forwards q l) takes puts named most =
      let a = takes (misnamed w.words) in
      let b = puts (misnamed w.words) in
      omega (arith, a, b, named)
  named_after (Installs p e letters) takes puts named most =
      let a = takes (misnamed w.words) in
      let b = puts (misnamed w.words) in
      let c = no_posts (misnamed w.words) (Bound p) letters in
      let bound : misnamed w.words (Bound p) e ≡ 0 = omega (arith, a, named) in
      let d : misnamed w.words (Room p e) e ≡ 0 = room_by_word w.words p e (bound_named w.words p e bound) in
      omega (arith, a, b, c, d, named)
  named_after (Departs p e i q) takes puts named most =
      let words : List ℕ = slice_set w.words e q in
      let a = takes (misnamed w.words) in
      let b = puts (misnamed words) in
      let stood : misnamed w.words (Room p e) i ≡ 0 = omega (arith, a, named) in
      let r = room_named w.words p e i stood in
      let same : e ≡ i = r.0 in
      let one = takes (at_index i) in
      let own : at_index i (Room p e) i ≡ 1 = own_index i (Room p e) in
      let gone : world_at no_letters (at_index i) stays ≡ 0 = omega (arith, one, own, most i) in
      let kept : world_at no_letters (misnamed w.words) stays ≡ 0 = omega (arith, a, named) in
      let still : world_at no_letters (misnamed words) stays ≡ 0 =
      world_zeros no_letters (misnamed w.words) no_letters (at_index i) no_letters (misnamed words) (λ s id to x y. refl)
      (λ s j x y. same_word w.words words s j (get_set_other w.words e j q (λ h. other_index i j s y (h ∙ same))) ∙ x)
      stays kept gone in
      let there : slice_get w.words e ≡ Some p = subst (λ (v : ℕ). slice_get w.words v ≡ Some p) (sym same) r.1 in
      let word : slice_get words i ≡ Some q = subst (λ (v : ℕ). slice_get words v ≡ Some q) same (get_set_same w.words e p q there) in
      let c : misnamed words (Bound q) i ≡ 0 = bound_by_word words q i word in
      omega (arith, b, c, still)

-- elements are neither made nor lost
pub index_kept : (i : ℕ) (m : Move) → taken no_letters (at_index i) m ≡ put no_letters (at_index i) m
index_kept i Still = refl
index_kept i (Runs ran new) =
    let a : sum_by (letter_in no_letters (at_index i) Fresh) new ≡ 0 = no_posts (at_index i) Fresh new in
    by ran ∙ sym a
  where
    by : (o : Option (Site × LetterView)) → ran_from no_letters o ≡ 0
    by None = refl
    by (Some x) = refl
index_kept i (Looks p q l) = refl
index_kept i (Addresses q l) = refl
index_kept i (Forwards q l) = refl
index_kept i (Installs p e letters) = refl
index_kept i (Departs p e j q) = refl

pub words_kept : (m : Move) (words : List ℕ) → length (words_after m words) ≡ length words
words_kept Still words = refl
words_kept (Runs ran new) words = refl
words_kept (Looks p q l) words = refl
words_kept (Addresses q l) words = refl
words_kept (Forwards q l) words = refl
words_kept (Installs p e letters) words = refl
words_kept (Departs p e j q) words = length-set words e q
