-- The letters that were posted before a run began and those that were posted since, as one list in the order of their numbers.
use Rattle.std.proofs.Common.{◌≡◌, ℕ, ◌+◌, ◌-◌, ◌≤◌, List, [], ◌∷◌, ◌++◌, length, map, drop, Some, sum_by, arith, refl, sym, ◌∙◌, ap}
use Rattle.std.specs.Prelude.{All, slice_get}
use Rattle.std.specs.List.{flat_map, range_with_len}
use Rattle.std.specs.Option.{option_map_or}
use Rattle.std.proofs.lemmas.List.{map-append}
use Rattle.std.proofs.lemmas.List.Elements.{All-head, All-tail}
use Rattle.std.proofs.lemmas.List.Sums.{sum_by-append}
use Rattle.chares.specs.Letters.{LetterView}
use Rattle.pe_state.specs.Pes.{PeView}
use Rattle.rts_core.proofs.LocalBalance.{range_split}
use Rattle.rts_core.proofs.Openings.{drop_next}
use Rattle.run_account.specs.Gathering.{count_before, numbers_of, numbers_since}
use Rattle.run_account.proofs.Numbers.{InOrder, first_of, rest_of}

-- a list whose image is two lists, one after the other, is two lists
record Split {X Y : Type 0} (f : X → Y) (xs : List X) (ys zs : List Y) : Type 0 where
  pub first : List X
  pub rest : List X
  pub both : xs ≡ first ++ rest
  pub first_is : map f first ≡ ys
  pub rest_is : map f rest ≡ zs

split : {X Y : Type 0} (f : X → Y) (xs : List X) (ys zs : List Y) → map f xs ≡ ys ++ zs → Split f xs ys zs
split f xs [] zs is = record { first = []; rest = xs; both = refl; first_is = refl; rest_is = is }
split f [] (y ∷ ys) zs is = absurd (cc)
split {X} f (x ∷ xs) (y ∷ ys) zs is =
    let head : f x ≡ y = cc in
    let tail : map f xs ≡ ys ++ zs = cc in
    let s = split f xs ys zs tail in
    record {
      first = x ∷ s.first;
      rest = s.rest;
      both = ap (λ (v : List X). x ∷ v) s.both;
      first_is = ap (λ v. f x ∷ v) s.first_is ∙ ap (λ v. v ∷ ys) head;
      rest_is = s.rest_is;
    }

abbrev id_of : LetterView → ℕ × ℕ
id_of l = l.id

-- a list that weighs what two others weigh, and whose numbers are all that these PEs have posted
pub record Merged {C : Type 0} (ends : List (PeView C)) (old new : List LetterView) : Type 0 where
  pub posts : List LetterView
  pub numbered : map (λ l. l.id) posts ≡ flat_map numbers_of ends
  pub whole : (f : LetterView → ℕ) → sum_by f posts ≡ sum_by f old + sum_by f new

abbrev number_by : ℕ → ℕ → ℕ × ℕ
number_by me k = (me, k)

-- the numbers of one PE, those before and those since
numbers_joined : (me a n count : ℕ) → a ≤ count → n ≡ count - a
    → map (number_by me) (range_with_len 0 a) ++ map (number_by me) (range_with_len a n) ≡ map (number_by me) (range_with_len 0 count)
numbers_joined me a n count le is =
    let e : count ≡ a + n = omega (arith, le, is) in
    let z : 0 + a ≡ a = omega arith in
    let r : range_with_len 0 (a + n) ≡ range_with_len 0 a ++ range_with_len a n = range_split 0 a n ∙ ap (λ (v : ℕ). range_with_len 0 a ++ range_with_len v n) z in
    sym (map-append (number_by me) (range_with_len 0 a) (range_with_len a n)) ∙ ap (map (number_by me)) (sym r ∙ ap (range_with_len 0) (sym e))

module _ {C : Type 0} (whole : List (PeView C)) where
  -- the posts of one PE
  one_pe : (a : ℕ) (start end : PeView C) → start.me ≡ a → end.me ≡ a → slice_get whole a ≡ Some start → count_before whole end.me ≤ end.count
      → (old new : List LetterView) → map (λ l. l.id) old ≡ numbers_of start → map (λ l. l.id) new ≡ numbers_since whole end
      → map (λ l. l.id) (old ++ new) ≡ numbers_of end
  one_pe a start end s e at grown old new olds news =
      let c : count_before whole end.me ≡ start.count = ap (count_before whole) e ∙ ap (λ o. option_map_or (λ (pe : PeView C). pe.count) o 0) at in
      let m : start.me ≡ end.me = s ∙ sym e in
      let f : map (λ l. l.id) old ≡ map (number_by end.me) (range_with_len 0 start.count) = olds ∙ ap (λ (v : ℕ). map (number_by v) (range_with_len 0 start.count)) m in
      let g : map (λ l. l.id) new ≡ map (number_by end.me) (range_with_len start.count (end.count - start.count)) = news
      ∙ ap (λ (v : ℕ). map (number_by end.me) (range_with_len v (end.count - v))) c in
      let le : start.count ≤ end.count = omega (arith, c, grown) in
      map-append (λ (l : LetterView). l.id) old new
      ∙ (ap (λ v. v ++ map (λ (l : LetterView). l.id) new) f
      ∙ (ap (λ v. map (number_by end.me) (range_with_len 0 start.count) ++ v) g
      ∙ numbers_joined end.me start.count (end.count - start.count) end.count le refl))

  -- the weights of four lists, taken in pairs
  four_lists : (f : LetterView → ℕ) (a b c d posts : List LetterView) → sum_by f posts ≡ sum_by f b + sum_by f d
      → sum_by f ((a ++ c) ++ posts) ≡ sum_by f (a ++ b) + sum_by f (c ++ d)
  four_lists f a b c d posts is =
      let p = sum_by-append f (a ++ c) posts in
      let q = sum_by-append f a c in
      let r = sum_by-append f a b in
      let s = sum_by-append f c d in
      omega (arith, p, q, r, s, is)

  pub merged : (a : ℕ) (starts ends : List (PeView C)) (old new : List LetterView) → starts ≡ drop a whole → InOrder a starts → InOrder a ends → length ends ≡ length starts
      → All (λ pe. count_before whole pe.me ≤ pe.count) ends
      → map (λ l. l.id) old ≡ flat_map numbers_of starts → map (λ l. l.id) new ≡ flat_map (numbers_since whole) ends → Merged ends old new
  merged a [] [] [] [] at s e same grown olds news = record { posts = []; numbered = refl; whole = λ f. refl }
  merged a [] [] (x ∷ old) new at s e same grown olds news = absurd (cc)
  merged a [] [] [] (x ∷ new) at s e same grown olds news = absurd (cc)
  merged a [] (e1 ∷ es) old new at s e same grown olds news = absurd (omega (arith, same))
  merged a (s1 ∷ ss) [] old new at s e same grown olds news = absurd (omega (arith, same))
  merged a (s1 ∷ ss) (e1 ∷ es) old new at s e same grown olds news =
      let next = drop_next whole a s1 ss at in
      let o : Split (λ (l : LetterView). l.id) old (numbers_of s1) (flat_map numbers_of ss) = split (λ l. l.id) old (numbers_of s1) (flat_map numbers_of ss) olds in
      let n : Split (λ (l : LetterView). l.id) new (numbers_since whole e1) (flat_map (numbers_since whole) es) = split (λ l. l.id) new
      (numbers_since whole e1) (flat_map (numbers_since whole) es) news in
      let P : PeView C → Type 0 = λ pe. count_before whole pe.me ≤ pe.count in
      let m : Merged es o.rest n.rest = merged (a + 1) ss es o.rest n.rest next.0 (rest_of a s1 ss s) (rest_of a e1 es e)
      (omega (arith, same)) (All-tail P e1 es grown) o.rest_is n.rest_is in
      let here : map (λ (l : LetterView). l.id) (o.first ++ n.first) ≡ numbers_of e1 = one_pe a s1 e1 (first_of a s1 ss s)
      (first_of a e1 es e) next.1 (All-head P e1 es grown) o.first n.first o.first_is n.first_is in
      record {
        posts = (o.first ++ n.first) ++ m.posts;
        numbered =
            map-append (λ (l : LetterView). l.id) (o.first ++ n.first) m.posts
            ∙ (ap (λ v. v ++ map (λ (l : LetterView). l.id) m.posts) here ∙ ap (λ v. numbers_of e1 ++ v) m.numbered);
        whole = λ f.
            let w = four_lists f o.first o.rest n.first n.rest m.posts (m.whole f) in
            let x = ap (sum_by f) o.both in
            let y = ap (sum_by f) n.both in
            omega (arith, w, x, y);
      }
