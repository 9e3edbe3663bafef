-- Where a reader is in its text: which fields are left after the parts that are whole, and what is found in the text so far.
use Rattle.std.proofs.Common.{◌≡◌, ◌⊎◌, inl, inr, ℕ, ◌+◌, ◌-◌, ◌<◌, ◌≤◌, List, [], ◌++◌, length, Option, Some, None, refl, ap, sym, ◌∙◌, subst, append_assoc, arith}
use Rattle.std.specs.Prelude.{Bool, true, false, MatchBool, nat_le}
use Rattle.std.proofs.lemmas.Bool.{cases_lt, le-leb, lt-leb}
use Rattle.std.proofs.lemmas.List.{append-nil}
use Rattle.std.specs.Int.{Width, w8}
use Rattle.dump_format.specs.Faults.{IsGood}
use Rattle.dump_format.specs.Fields.{dump, elements, moves}
use Rattle.dump_format.specs.Layout.{Layout, End, Whole, Unfinished, judge}
use Rattle.dump_format.specs.Text.{word}
use Rattle.dump_format.proofs.Judging.{field_short}
use Rattle.dump_format.specs.declared.recorded.Recorded.{Recorded}
use Rattle.lb_dump.specs.Elements.{behind, elements_of}
use Rattle.lb_dump.specs.Heads.{head_text, load_width}
use Rattle.lb_dump.specs.Moves.{moves_text}
use Rattle.lb_dump.specs.declared.head.Format.{Format}
use Rattle.lb_dump.specs.declared.head.Format.TheVariants.{Lbd1, Lbd2}
use Rattle.lb_dump.specs.declared.head.Head.{Head}
use Rattle.lb_dump.specs.Plans.{IsMade, plan_bytes}
use Rattle.lb_dump.specs.declared.plan.DecisionPart.{DecisionPart}
use Rattle.lb_dump.specs.declared.plan.DecisionPart.TheVariants.{Begun, Nothing, Made}
use Rattle.lb_dump.specs.Held.{AreSome, HasBegunElement, HasBegunMove, HasBegunPlan, IsAt, IsAtElements, front_text}
use Rattle.lb_dump.proofs.Heads.{head_read}
use Rattle.lb_dump.proofs.ElementTexts.{elements_read, next_element}
use Rattle.lb_dump.proofs.MoveTexts.{moves_read, next_move}
use Rattle.lb_dump.proofs.Partial.{element_unfinished, move_unfinished}
use Rattle.lb_dump.proofs.MadePlans.{made_judged, none_judged}

-- the fields that are left after the parts that are whole
abbrev pub left : {A : Type 0} → Option Head → ℕ → DecisionPart A → ℕ → Layout
left None j plan k = dump
left (Some h) j Begun k = elements (load_width h.format) h.procs j (h.count - j) (behind h.format h.count)
left (Some h) j Nothing k = End
left (Some h) j (Made r all) k = moves h.count k (all - k)

-- no element is left, or no move
pub no_element : (w : Width) (procs i n : ℕ) (next : Layout) → n ≡ 0 → elements w procs i n next ≡ next
unfolding elements
no_element w procs i n next none = rw none refl

pub no_move : (count k n : ℕ) → n ≡ 0 → moves count k n ≡ End
unfolding moves
no_move count k n none = rw none refl

-- the bytes of the head and of the elements
pub front_none : (A : Type 0) (loads : List ℕ) (sizes : List (ℕ × ℕ)) → front_text {A = A} None loads sizes Begun [] ≡ []
unfolding front_text
front_none A loads sizes = refl

pub front_elements : (A : Type 0) (h : Head) (loads : List ℕ) (sizes : List (ℕ × ℕ)) → front_text {A = A} (Some h) loads sizes Begun [] ≡ head_text h ++ elements_of h loads sizes
unfolding front_text
front_elements A h loads sizes = ap (λ (t : List ℕ). head_text h ++ t) (append-nil (elements_of h loads sizes))

-- the fields after the elements of this head, once all are whole
pub behind_all : (h : Head) (loads : List ℕ) (sizes : List (ℕ × ℕ)) (more : List ℕ) → AreSome h loads sizes → length loads ≡ h.count
    → judge dump (head_text h ++ (elements_of h loads sizes ++ more)) ≡ judge (behind h.format h.count) more
behind_all h loads sizes more some all =
    head_read h some.head (elements_of h loads sizes ++ more)
    ∙ elements_read h loads sizes some.head some.kept more some.few
    ∙ ap (λ l. judge l more) (no_element (load_width h.format) h.procs (length loads) (h.count - length loads) (behind h.format h.count) (omega arith))

-- the fields that are left are the ones to judge what follows by
pub front_judged : {A : Type 0} (head : Option Head) (loads : List ℕ) (sizes : List (ℕ × ℕ)) (plan : DecisionPart A) (list : List (ℕ × ℕ × ℕ))
    (begun more : List ℕ) → IsAt head loads sizes plan list begun
    → judge dump (front_text head loads sizes plan list ++ more) ≡ judge (left head (length loads) plan (length list)) more
unfolding front_text
front_judged None loads sizes Begun list begun more at = rw at.no_moves refl
front_judged None loads sizes Nothing list begun more at = absurd at
front_judged None loads sizes (Made r all) list begun more at = absurd at
front_judged (Some h) loads sizes Begun list begun more at =
    rw (at.no_moves, append-nil (elements_of h loads sizes), append_assoc (head_text h) (elements_of h loads sizes) more)
    (head_read h at.some.head (elements_of h loads sizes ++ more) ∙ elements_read h loads sizes at.some.head at.some.kept more at.some.few)
front_judged (Some h) loads sizes Nothing list begun more at =
    rw (at.no_moves, append-nil (word 0), append_assoc (head_text h) (elements_of h loads sizes ++ word 0) more, append_assoc (elements_of h loads sizes) (word 0) more)
    (behind_all h loads sizes (word 0 ++ more) at.some at.all ∙ ap (λ f. judge (behind f h.count) (word 0 ++ more)) at.wide ∙ none_judged h.count more)
front_judged (Some h) loads sizes (Made r all) list begun more at =
    let plan : List ℕ = word 1 ++ plan_bytes r all in
    let text : List ℕ = moves_text list in
    let made : IsMade plan h.count r all = record { spelled = refl; recorded = at.recorded; fields = at.fields; no_moves = at.plan_moves; few_moves = at.few_told } in
    rw (append_assoc (head_text h) (elements_of h loads sizes ++ (plan ++ text)) more, append_assoc (elements_of h loads sizes) (plan ++ text) more, append_assoc plan text more)
    (behind_all h loads sizes (plan ++ (text ++ more)) at.some at.all ∙ ap (λ f. judge (behind f h.count) (plan ++ (text ++ more))) at.wide
    ∙ made_judged h.count r all plan (text ++ more) at.some.head.few made
    ∙ moves_read h.count all list at.some.head.few at.kept more at.few_moves)

-- nothing is wrong with an element, a plan or a move that has begun, whatever may follow it
pub element_left : (h : Head) (loads : List ℕ) (begun : List ℕ) → length loads < h.count → HasBegunElement h.format begun
    → judge (elements (load_width h.format) h.procs (length loads) (h.count - length loads) (behind h.format h.count)) begun ≡ Unfinished
element_left h loads begun missing is =
    rw (next_element (load_width h.format) h.procs (length loads) (h.count - length loads) (behind h.format h.count) (omega arith))
    (element_unfinished h.format h.procs (length loads)
    (elements (load_width h.format) h.procs (length loads + 1) (h.count - length loads - 1) (behind h.format h.count)) begun is.short is.load is.size)

pub move_left : (count all k : ℕ) (begun : List ℕ) → k < all → HasBegunMove count begun → judge (moves count k (all - k)) begun ≡ Unfinished
move_left count all k begun missing is =
    rw (next_move count k (all - k) (omega arith)) (move_unfinished count k (moves count (k + 1) (all - k - 1)) begun is.short is.index is.present)

pub no_move_left : (count all k : ℕ) (begun : List ℕ) → k ≡ all → begun ≡ [] → judge (moves count k (all - k)) begun ≡ Whole
unfolding judge
no_move_left count all k begun none no_bytes = rw (no_move count k (all - k) (omega arith), no_bytes) refl

-- what is found after the last element
pub narrow_end : (format : Format) (count : ℕ) (begun : List ℕ) → format ≡ Lbd1 → HasBegunPlan format count begun → judge (behind format count) begun ≡ Whole
unfolding judge
narrow_end Lbd1 count begun narrow is = rw is refl
narrow_end Lbd2 count begun narrow is = cc

pub plan_left : (format : Format) (count : ℕ) (begun : List ℕ) → format ≡ Lbd2 → HasBegunPlan format count begun → judge (behind format count) begun ≡ Unfinished
plan_left Lbd1 count begun wide is = cc
plan_left Lbd2 count begun wide is = is.1

-- What is found in the text so far, by where the reader is in it.
module _ (A : Type 0) where
  pub head_found : (loads : List ℕ) (sizes : List (ℕ × ℕ)) (plan : DecisionPart A) (list : List (ℕ × ℕ × ℕ)) (begun : List ℕ) → IsAt None loads sizes plan list begun
      → judge dump (front_text None loads sizes plan list ++ begun) ≡ Unfinished
  head_found loads sizes Begun list begun at = front_judged None loads sizes Begun list begun begun at ∙ at.unfinished
  head_found loads sizes Nothing list begun at = absurd at
  head_found loads sizes (Made r all) list begun at = absurd at

  pub element_found : (h : Head) (loads : List ℕ) (sizes : List (ℕ × ℕ)) (plan : DecisionPart A) (list : List (ℕ × ℕ × ℕ)) (begun : List ℕ)
      → IsAt (Some h) loads sizes plan list begun → length loads < h.count
      → judge dump (front_text (Some h) loads sizes plan list ++ begun) ≡ Unfinished
  element_found h loads sizes Begun list begun at missing = front_judged (Some h) loads sizes Begun list begun begun at ∙ element_left h loads begun missing (at.element missing)
  element_found h loads sizes Nothing list begun at missing = absurd (omega (arith, at.all))
  element_found h loads sizes (Made r all) list begun at missing = absurd (omega (arith, at.all))

  -- all elements are whole, and what follows them is a plan that has begun
  plan_at : (h : Head) (loads : List ℕ) (sizes : List (ℕ × ℕ)) (list : List (ℕ × ℕ × ℕ)) (begun : List ℕ) → IsAtElements h loads sizes list begun → length loads ≡ h.count
      → judge dump (front_text {A = A} (Some h) loads sizes Begun list ++ begun) ≡ judge (behind h.format h.count) begun
  plan_at h loads sizes list begun at all =
      front_judged {A = A} (Some h) loads sizes Begun list begun begun at
      ∙ ap (λ l. judge l begun) (no_element (load_width h.format) h.procs (length loads) (h.count - length loads) (behind h.format h.count) (omega arith))

  pub narrow_found : (h : Head) (loads : List ℕ) (sizes : List (ℕ × ℕ)) (list : List (ℕ × ℕ × ℕ)) (begun : List ℕ)
      → IsAt {A = A} (Some h) loads sizes Begun list begun → length loads ≡ h.count → h.format ≡ Lbd1
      → judge dump (front_text {A = A} (Some h) loads sizes Begun list ++ begun) ≡ Whole
  narrow_found h loads sizes list begun at all narrow = plan_at h loads sizes list begun at all ∙ narrow_end h.format h.count begun narrow (at.plan all)

  pub plan_found : (h : Head) (loads : List ℕ) (sizes : List (ℕ × ℕ)) (list : List (ℕ × ℕ × ℕ)) (begun : List ℕ)
      → IsAt {A = A} (Some h) loads sizes Begun list begun → length loads ≡ h.count → h.format ≡ Lbd2
      → judge dump (front_text {A = A} (Some h) loads sizes Begun list ++ begun) ≡ Unfinished
  plan_found h loads sizes list begun at all wide = plan_at h loads sizes list begun at all ∙ plan_left h.format h.count begun wide (at.plan all)

  pub nothing_found : (h : Head) (loads : List ℕ) (sizes : List (ℕ × ℕ)) (list : List (ℕ × ℕ × ℕ)) (begun : List ℕ) → IsAt {A = A} (Some h) loads sizes Nothing list begun
      → judge dump (front_text {A = A} (Some h) loads sizes Nothing list ++ begun) ≡ Whole
  unfolding judge
  nothing_found h loads sizes list begun at = front_judged {A = A} (Some h) loads sizes Nothing list begun begun at ∙ ap (judge End) at.no_bytes

  pub move_found : (h : Head) (loads : List ℕ) (sizes : List (ℕ × ℕ)) (r : Recorded A) (all : ℕ) (list : List (ℕ × ℕ × ℕ)) (begun : List ℕ)
      → IsAt (Some h) loads sizes (Made r all) list begun → length list < all
      → judge dump (front_text (Some h) loads sizes (Made r all) list ++ begun) ≡ Unfinished
  move_found h loads sizes r all list begun at missing = front_judged (Some h) loads sizes (Made r all) list begun begun at
      ∙ move_left h.count all (length list) begun missing (at.move missing)

  pub all_found : (h : Head) (loads : List ℕ) (sizes : List (ℕ × ℕ)) (r : Recorded A) (all : ℕ) (list : List (ℕ × ℕ × ℕ)) (begun : List ℕ)
      → IsAt (Some h) loads sizes (Made r all) list begun → length list ≡ all
      → judge dump (front_text (Some h) loads sizes (Made r all) list ++ begun) ≡ Whole
  all_found h loads sizes r all list begun at none = front_judged (Some h) loads sizes (Made r all) list begun begun at
      ∙ no_move_left h.count all (length list) begun none (at.no_bytes none)

-- These facts where equations say what the reader holds.
module _ (A : Type 0) where
  pub found_head : (head : Option Head) (loads : List ℕ) (sizes : List (ℕ × ℕ)) (plan : DecisionPart A) (list : List (ℕ × ℕ × ℕ)) (begun : List ℕ)
      → IsAt head loads sizes plan list begun → head ≡ None
      → judge dump (front_text head loads sizes plan list ++ begun) ≡ Unfinished
  found_head None loads sizes plan list begun at none = head_found A loads sizes plan list begun at
  found_head (Some h) loads sizes plan list begun at none = absurd (let e = none in cc)

  pub found_element : (head : Option Head) (loads : List ℕ) (sizes : List (ℕ × ℕ)) (plan : DecisionPart A) (list : List (ℕ × ℕ × ℕ))
      (begun : List ℕ) (h : Head) → IsAt head loads sizes plan list begun → head ≡ Some h → length loads < h.count
      → judge dump (front_text head loads sizes plan list ++ begun) ≡ Unfinished
  found_element None loads sizes plan list begun h at is missing = absurd (let e = is in cc)
  found_element (Some k) loads sizes plan list begun h at is missing =
      let same : h ≡ k = cc in
      element_found A k loads sizes plan list begun at (subst (λ (x : Head). length loads < x.count) same missing)

  pub found_narrow : (head : Option Head) (loads : List ℕ) (sizes : List (ℕ × ℕ)) (plan : DecisionPart A) (list : List (ℕ × ℕ × ℕ)) (begun : List ℕ)
      (h : Head) → IsAt head loads sizes plan list begun → head ≡ Some h → h.count ≤ length loads → plan ≡ Begun → h.format ≡ Lbd1
      → judge dump (front_text head loads sizes plan list ++ begun) ≡ Whole
  found_narrow None loads sizes plan list begun h at is enough fresh narrow = absurd (let e = is in cc)
  found_narrow (Some k) loads sizes Begun list begun h at is enough fresh narrow =
      let same : h ≡ k = cc in
      narrow_found A k loads sizes list begun at (omega (arith, ap (λ (x : Head). x.count) same, at.some.few)) (sym (ap (λ (x : Head). x.format) same) ∙ narrow)
  found_narrow (Some k) loads sizes Nothing list begun h at is enough fresh narrow = absurd (let e = fresh in cc)
  found_narrow (Some k) loads sizes (Made r all) list begun h at is enough fresh narrow = absurd (let e = fresh in cc)

  pub found_plan : (head : Option Head) (loads : List ℕ) (sizes : List (ℕ × ℕ)) (plan : DecisionPart A) (list : List (ℕ × ℕ × ℕ)) (begun : List ℕ)
      (h : Head) → IsAt head loads sizes plan list begun → head ≡ Some h → h.count ≤ length loads → plan ≡ Begun → h.format ≡ Lbd2
      → judge dump (front_text head loads sizes plan list ++ begun) ≡ Unfinished
  found_plan None loads sizes plan list begun h at is enough fresh wide = absurd (let e = is in cc)
  found_plan (Some k) loads sizes Begun list begun h at is enough fresh wide =
      let same : h ≡ k = cc in
      plan_found A k loads sizes list begun at (omega (arith, ap (λ (x : Head). x.count) same, at.some.few)) (sym (ap (λ (x : Head). x.format) same) ∙ wide)
  found_plan (Some k) loads sizes Nothing list begun h at is enough fresh wide = absurd (let e = fresh in cc)
  found_plan (Some k) loads sizes (Made r all) list begun h at is enough fresh wide = absurd (let e = fresh in cc)

  pub found_nothing : (head : Option Head) (loads : List ℕ) (sizes : List (ℕ × ℕ)) (plan : DecisionPart A) (list : List (ℕ × ℕ × ℕ))
      (begun : List ℕ) → IsAt head loads sizes plan list begun → plan ≡ Nothing
      → judge dump (front_text head loads sizes plan list ++ begun) ≡ Whole
  found_nothing head loads sizes Begun list begun at none = absurd (let e = none in cc)
  found_nothing None loads sizes Nothing list begun at none = absurd at
  found_nothing (Some h) loads sizes Nothing list begun at none = nothing_found A h loads sizes list begun at
  found_nothing head loads sizes (Made r all) list begun at none = absurd (let e = none in cc)

  pub found_moves : (head : Option Head) (loads : List ℕ) (sizes : List (ℕ × ℕ)) (plan : DecisionPart A) (list : List (ℕ × ℕ × ℕ)) (begun : List ℕ)
      (r : Recorded A) (all : ℕ) → IsAt head loads sizes plan list begun → plan ≡ Made r all
      → MatchBool (nat_le all (length list)) (judge dump (front_text head loads sizes plan list ++ begun) ≡ Whole)
      (judge dump (front_text head loads sizes plan list ++ begun) ≡ Unfinished)
  found_moves head loads sizes Begun list begun r all at made = absurd (let e = made in cc)
  found_moves head loads sizes Nothing list begun r all at made = absurd (let e = made in cc)
  found_moves None loads sizes (Made q n) list begun r all at made = absurd at
  found_moves (Some h) loads sizes (Made q n) list begun r all at made =
      let same : all ≡ n = cc in
      subst (λ m. MatchBool (nat_le m (length list)) (judge dump (front_text (Some h) loads sizes (Made q n) list ++ begun) ≡ Whole)
      (judge dump (front_text (Some h) loads sizes (Made q n) list ++ begun) ≡ Unfinished)) (sym same)
      (elim (cases_lt (length list) n) [
        | inl missing ↦ rw (lt-leb n (length list) missing) (move_found A h loads sizes q n list begun at missing)
        | inr enough ↦ rw (le-leb n (length list) enough) (all_found A h loads sizes q n list begun at (omega (arith, at.few_moves)))
      ])

  -- a text that is not whole lacks a move, or a plan
  pub move_missing : (head : Option Head) (loads : List ℕ) (sizes : List (ℕ × ℕ)) (plan : DecisionPart A) (list : List (ℕ × ℕ × ℕ)) (begun : List ℕ)
      (r : Recorded A) (all : ℕ) → IsAt head loads sizes plan list begun → plan ≡ Made r all
      → judge dump (front_text head loads sizes plan list ++ begun) ≡ Unfinished → length list < all
  move_missing head loads sizes Begun list begun r all at made unfinished = absurd (let e = made in cc)
  move_missing head loads sizes Nothing list begun r all at made unfinished = absurd (let e = made in cc)
  move_missing None loads sizes (Made q n) list begun r all at made unfinished = absurd at
  move_missing (Some h) loads sizes (Made q n) list begun r all at made unfinished =
      let same : all ≡ n = cc in
      elim (cases_lt (length list) n) [
        | inl missing ↦ omega (arith, missing, same)
        | inr enough ↦ absurd (let found = all_found A h loads sizes q n list begun at (omega (arith, at.few_moves, enough)) in cc)
      ]

  pub all_elements : (head : Option Head) (loads : List ℕ) (sizes : List (ℕ × ℕ)) (plan : DecisionPart A) (list : List (ℕ × ℕ × ℕ)) (begun : List ℕ)
      (h : Head) → IsAt head loads sizes plan list begun → head ≡ Some h → h.count ≤ length loads → length loads ≡ h.count
  all_elements None loads sizes plan list begun h at is enough = absurd (let e = is in cc)
  all_elements (Some k) loads sizes Begun list begun h at is enough =
      let same : h ≡ k = cc in
      omega (arith, ap (λ (x : Head). x.count) same, at.some.few)
  all_elements (Some k) loads sizes Nothing list begun h at is enough =
      let same : h ≡ k = cc in
      omega (arith, ap (λ (x : Head). x.count) same, at.all)
  all_elements (Some k) loads sizes (Made r n) list begun h at is enough =
      let same : h ≡ k = cc in
      omega (arith, ap (λ (x : Head). x.count) same, at.all)

  pub plan_missing : (head : Option Head) (loads : List ℕ) (sizes : List (ℕ × ℕ)) (plan : DecisionPart A) (list : List (ℕ × ℕ × ℕ)) (begun : List ℕ)
      (h : Head) → IsAt head loads sizes plan list begun → head ≡ Some h → h.count ≤ length loads → plan ≡ Begun
      → judge dump (front_text head loads sizes plan list ++ begun) ≡ Unfinished → h.format ≡ Lbd2
  plan_missing head loads sizes plan list begun h at is enough fresh unfinished = by_format h.format refl
    where
      by_format : (f : Format) → h.format ≡ f → h.format ≡ Lbd2
      by_format Lbd1 narrow = absurd (let found = found_narrow head loads sizes plan list begun h at is enough fresh narrow in cc)
      by_format Lbd2 wide = wide

  pub plan_begun : (head : Option Head) (loads : List ℕ) (sizes : List (ℕ × ℕ)) (plan : DecisionPart A) (list : List (ℕ × ℕ × ℕ)) (begun : List ℕ)
      → IsAt head loads sizes plan list begun → (plan ≡ Begun) ⊎ (plan ≡ Nothing)
      → judge dump (front_text head loads sizes plan list ++ begun) ≡ Unfinished → plan ≡ Begun
  plan_begun head loads sizes plan list begun at (inl fresh) unfinished = fresh
  plan_begun head loads sizes plan list begun at (inr none) unfinished = absurd (let found = found_nothing head loads sizes plan list begun at none in cc)

-- a test of the format decides what is found
pub told_by : (b : Bool) (P Q R S : Type 0) → MatchBool b P Q → (P → R) → (Q → S) → MatchBool b R S
told_by true P Q R S told if_so if_not = if_so told
told_by false P Q R S told if_so if_not = if_not told

-- nothing is wrong with the text so far
pub held_good : (A : Type 0) (head : Option Head) (loads : List ℕ) (sizes : List (ℕ × ℕ)) (plan : DecisionPart A) (list : List (ℕ × ℕ × ℕ))
    (begun : List ℕ) → IsAt head loads sizes plan list begun → IsGood (front_text head loads sizes plan list ++ begun)
held_good A None loads sizes plan list begun at = inr (head_found A loads sizes plan list begun at)
held_good A (Some h) loads sizes Begun list begun at =
    elim (cases_lt (length loads) h.count) [
      | inl missing ↦ inr (element_found A h loads sizes Begun list begun at missing)
      | inr enough ↦ by_format h.format refl (omega (arith, enough, at.some.few))
    ]
  where
    by_format : (f : Format) → h.format ≡ f → length loads ≡ h.count → IsGood (front_text {A = A} (Some h) loads sizes Begun list ++ begun)
    by_format Lbd1 narrow all = inl (narrow_found A h loads sizes list begun at all narrow)
    by_format Lbd2 wide all = inr (plan_found A h loads sizes list begun at all wide)
held_good A (Some h) loads sizes Nothing list begun at = inl (nothing_found A h loads sizes list begun at)
held_good A (Some h) loads sizes (Made r all) list begun at =
    elim (cases_lt (length list) all) [
      | inl missing ↦ inr (move_found A h loads sizes r all list begun at missing)
      | inr enough ↦ inl (all_found A h loads sizes r all list begun at (omega (arith, enough, at.few_moves)))
    ]

-- nothing is wrong with an empty text
pub none_good : IsGood []
none_good = inr (field_short w8 _ _ [] (omega arith))
