-- How a part that follows extends the text so far, and where the reader is after it.
use Rattle.std.proofs.Common.{◌≡◌, inl, inr, ℕ, ◌+◌, ◌<◌, ◌≤◌, List, [], ◌∷◌, ◌++◌, length, drop, take, Option, Some, None, refl, ap, sym, ◌∙◌, subst, append_assoc, arith}
use Rattle.std.proofs.Math.Seq.{take-append-add, take-append_seam}
use Rattle.std.proofs.lemmas.List.{append-nil}
use Rattle.std.proofs.lemmas.List.Elements.{All-nil}
use Rattle.std.specs.Int.{Width, byte_len, from_be_bytes, w8, w32}
use Rattle.std.proofs.lemmas.Bool.{cases_lt}
use Rattle.dump_format.specs.Faults.{IsBroken}
use Rattle.dump_format.specs.Fields.{dump, moves}
use Rattle.dump_format.specs.Layout.{Layout, End, Field, Whole, Broken, judge}
use Rattle.dump_format.specs.Text.{elements_text}
use Rattle.dump_format.proofs.Judging.{broken_stays, field_broken, field_short, field_taken, front_taken}
use Rattle.dump_format.specs.declared.error.DumpError.{DumpError}
use Rattle.dump_format.specs.declared.error.DumpError.TheVariants.{Trailing}
use Rattle.dump_format.specs.declared.recorded.Recorded.{Recorded}
use Rattle.lb_dump.specs.Elements.{body_of, elements_of}
use Rattle.lb_dump.specs.Heads.{IsHead, head_text}
use Rattle.lb_dump.specs.Moves.{moves_text}
use Rattle.lb_dump.specs.declared.head.Format.{Format}
use Rattle.lb_dump.specs.declared.head.Format.TheVariants.{Lbd1, Lbd2}
use Rattle.lb_dump.specs.declared.head.Head.{Head}
use Rattle.lb_dump.specs.declared.plan.DecisionPart.{DecisionPart}
use Rattle.lb_dump.specs.declared.plan.DecisionPart.TheVariants.{Begun, Made}
use Rattle.lb_dump.specs.Held.{AreSome, HasBegunElement, HasBegunMove, HasBegunPlan, IsAt, IsAtElements, IsAtMoves, elements_part, front_text, head_part, plan_part}
use Rattle.lb_dump.proofs.Heads.{head_read}
use Rattle.lb_dump.proofs.BegunPlans.{none_begun}
use Rattle.lb_dump.proofs.Standing.{front_elements, front_judged, left}

-- no element has begun, and no plan
pub no_element_begun : (format : Format) → HasBegunElement format []
no_element_begun Lbd1 = record { short = omega arith; load = λ h. absurd (omega (arith, h)); size = λ h. absurd (omega (arith, h)) }
no_element_begun Lbd2 = record { short = omega arith; load = λ h. absurd (omega (arith, h)); size = λ h. absurd (omega (arith, h)) }

pub no_plan_begun : (format : Format) (count : ℕ) → HasBegunPlan format count []
no_plan_begun Lbd1 count = refl
no_plan_begun Lbd2 count = (none_begun, field_short w32 _ _ [] (omega arith))

pub no_move_begun : (count : ℕ) → HasBegunMove count []
no_move_begun count = record { short = omega arith; index = λ h. absurd (omega (arith, h)); present = λ h. absurd (omega (arith, h)) }

-- after a head there is no element yet
pub none_yet : (h : Head) → IsHead h → AreSome h [] []
none_yet h is =
    record {
      head = is;
      kept = record { paired = refl; loads_fit = All-nil _; loads_spelled = All-nil _; sizes_fit = All-nil _; places_fit = All-nil _ };
      few = omega arith;
    }

-- where no part has begun, the reader is at the next element or after the last
pub fresh_elements : (h : Head) (loads : List ℕ) (sizes : List (ℕ × ℕ)) → AreSome h loads sizes → IsAtElements h loads sizes [] []
fresh_elements h loads sizes some =
    record { some = some; no_moves = refl; element = λ missing. no_element_begun h.format; plan = λ all. no_plan_begun h.format h.count }

-- nothing follows the elements of LBD1
pub narrow_bytes : (format : Format) (count : ℕ) (begun : List ℕ) → format ≡ Lbd1 → HasBegunPlan format count begun → begun ≡ []
narrow_bytes Lbd1 count begun narrow is = is
narrow_bytes Lbd2 count begun narrow is = cc

behind_front : (a b c d e : List ℕ) → (a ++ (b ++ (c ++ d))) ++ e ≡ a ++ (b ++ (c ++ (d ++ e)))
behind_front a b c d e = simp append_assoc

-- Bytes that follow come after those of the part that has begun.
pub comes_behind : (front begun start rest bytes : List ℕ) → bytes ≡ start ++ rest → (front ++ (begun ++ start)) ++ rest ≡ (front ++ begun) ++ bytes
comes_behind front begun start rest bytes e =
    rw (e, append_assoc front (begun ++ start) rest, append_assoc begun start rest, append_assoc front begun (start ++ rest)) refl

-- a fault that they bring is the fault of all bytes
pub broken_behind : (front begun start rest bytes : List ℕ) (e : DumpError) → bytes ≡ start ++ rest → IsBroken (front ++ (begun ++ start)) e
    → IsBroken ((front ++ begun) ++ bytes) e
broken_behind front begun start rest bytes e parts broken =
    subst (λ t. IsBroken t e) (comes_behind front begun start rest bytes parts) (broken_stays dump (front ++ (begun ++ start)) rest e broken)

module _ (A : Type 0) where
  -- the text once the head is whole
  pub head_comes : (h : Head) (start : List ℕ) → start ≡ head_text h → front_text {A = A} (Some h) [] [] Begun [] ++ [] ≡ front_text {A = A} None [] [] Begun [] ++ start
  unfolding front_text elements_text
  head_comes h start e = append-nil _ ∙ front_elements A h [] [] ∙ append-nil (head_text h) ∙ sym e

  -- the text once more elements are whole
  pub elements_come : (h : Head) (loads next_loads : List ℕ) (sizes next_sizes : List (ℕ × ℕ)) (rest bytes : List ℕ)
      → elements_of h next_loads next_sizes ++ rest ≡ elements_of h loads sizes ++ bytes
      → front_text {A = A} (Some h) next_loads next_sizes Begun [] ++ rest ≡ front_text {A = A} (Some h) loads sizes Begun [] ++ bytes
  elements_come h loads next_loads sizes next_sizes rest bytes joined =
      rw (
        front_elements A h next_loads next_sizes,
        front_elements A h loads sizes,
        append_assoc (head_text h) (elements_of h next_loads next_sizes) rest,
        append_assoc (head_text h) (elements_of h loads sizes) bytes,
      )
      (ap (λ (t : List ℕ). head_text h ++ t) joined)

  -- a fault among the elements is the fault of the text
  pub elements_break : (h : Head) (loads : List ℕ) (sizes : List (ℕ × ℕ)) (bytes : List ℕ) (e : DumpError) → IsHead h
      → judge (body_of h) (elements_of h loads sizes ++ bytes) ≡ Broken e
      → IsBroken (front_text {A = A} (Some h) loads sizes Begun [] ++ bytes) e
  elements_break h loads sizes bytes e is broken =
      rw (front_elements A h loads sizes, append_assoc (head_text h) (elements_of h loads sizes) bytes) (head_read h is (elements_of h loads sizes ++ bytes) ∙ broken)

  -- a fault of what has begun, judged by the fields that are left, is the fault of the text
  pub left_breaks : (head : Option Head) (loads : List ℕ) (sizes : List (ℕ × ℕ)) (plan : DecisionPart A) (list : List (ℕ × ℕ × ℕ))
      (begun bytes : List ℕ) (e : DumpError) → IsAt head loads sizes plan list begun
      → judge (left head (length loads) plan (length list)) bytes ≡ Broken e → IsBroken (front_text head loads sizes plan list ++ bytes) e
  left_breaks head loads sizes plan list begun bytes e at broken = front_judged head loads sizes plan list begun bytes at ∙ broken

  -- the text once the plan is whole
  pub plan_comes : (h : Head) (loads : List ℕ) (sizes : List (ℕ × ℕ)) (plan : DecisionPart A) (bytes : List ℕ) → plan_part plan ≡ bytes
      → front_text (Some h) loads sizes plan [] ++ [] ≡ front_text {A = A} (Some h) loads sizes Begun [] ++ bytes
  unfolding front_text
  plan_comes h loads sizes plan bytes e =
      rw (
        append-nil (head_text h ++ (elements_of h loads sizes ++ (plan_part plan ++ []))),
        append-nil (plan_part plan),
        append-nil (elements_of h loads sizes),
        append_assoc (head_text h) (elements_of h loads sizes) bytes,
        e,
      ) refl

  -- the text once more moves are whole
  pub moves_come : (head : Option Head) (loads : List ℕ) (sizes : List (ℕ × ℕ)) (plan : DecisionPart A) (list next : List (ℕ × ℕ × ℕ))
      (rest bytes : List ℕ) → moves_text next ++ rest ≡ moves_text list ++ bytes
      → front_text head loads sizes plan next ++ rest ≡ front_text head loads sizes plan list ++ bytes
  unfolding front_text
  moves_come head loads sizes plan list next rest bytes joined =
      rw (
        behind_front (head_part head) (elements_part head loads sizes) (plan_part plan) (moves_text next) rest,
        behind_front (head_part head) (elements_part head loads sizes) (plan_part plan) (moves_text list) bytes,
        joined,
      ) refl

  -- a fault among the moves is the fault of the text
  pub moves_break : (h : Head) (loads : List ℕ) (sizes : List (ℕ × ℕ)) (r : Recorded A) (all : ℕ) (list : List (ℕ × ℕ × ℕ))
      (begun bytes : List ℕ) (e : DumpError) → IsAtMoves h loads sizes r all list begun
      → judge (moves h.count 0 all) (moves_text list ++ bytes) ≡ Broken e → IsBroken (front_text (Some h) loads sizes (Made r all) list ++ bytes) e
  moves_break h loads sizes r all list begun bytes e at broken =
      let none : IsAtMoves h loads sizes r all [] [] = record {
        some = at.some;
        all = at.all;
        wide = at.wide;
        recorded = at.recorded;
        fields = at.fields;
        plan_moves = at.plan_moves;
        few_told = at.few_told;
        kept = record { elements = All-nil _; present = All-nil _; planned = All-nil _ };
        few_moves = omega arith;
        move = λ missing. no_move_begun h.count;
        no_bytes = λ whole. refl;
      } in
      subst (λ t. IsBroken t e) (moves_come (Some h) loads sizes (Made r all) list [] (moves_text list ++ bytes) bytes refl)
      (left_breaks (Some h) loads sizes (Made r all) [] [] (moves_text list ++ bytes) e none
      (ap (λ n. judge (moves h.count 0 n) (moves_text list ++ bytes)) (omega arith) ∙ broken))

-- two lists, taken from the start of what begins with them
pub take_two : (n : ℕ) (first second rest : List ℕ) → n ≡ length first + length second → take n (first ++ (second ++ rest)) ≡ first ++ second
take_two n first second rest both =
    ap (λ m. take m (first ++ (second ++ rest))) both ∙ take-append-add first (second ++ rest) (length second) ∙ ap (λ l. first ++ l) (take-append_seam second rest)

-- a reader that was given no piece
pub none_held : (A : Type 0) → (front_text {A = A} None [] [] Begun [] ++ [] ≡ []) × IsAt {A = A} None [] [] Begun [] []
unfolding front_text
none_held A = (refl, record { no_loads = refl; no_sizes = refl; no_moves = refl; short = omega arith; unfinished = field_short w8 _ _ [] (omega arith) })

-- nothing may follow a text that is whole
field_trails : (w : Width) (fault : ℕ → Option DumpError) (next : ℕ → Layout) (text more : List ℕ)
    → ((n : ℕ) (rest : List ℕ) → judge (next n) rest ≡ Whole → judge (next n) (rest ++ more) ≡ Broken Trailing)
    → judge (Field w fault next) text ≡ Whole → judge (Field w fault next) (text ++ more) ≡ Broken Trailing
field_trails w fault next text more trails whole =
    elim (cases_lt (length text) (byte_len w)) [
      | inl short ↦ absurd (let h = field_short w fault next text short in cc)
      | inr long ↦ by_fault (fault (from_be_bytes w text)) refl long
    ]
  where
    by_fault : (o : Option DumpError) → fault (from_be_bytes w text) ≡ o → byte_len w ≤ length text → judge (Field w fault next) (text ++ more) ≡ Broken Trailing
    by_fault None good long =
        front_taken w fault next text more long good
        ∙ trails (from_be_bytes w text) (drop (byte_len w) text) (sym (field_taken w fault next text long good) ∙ whole)
    by_fault (Some e) bad long = absurd (let h = field_broken w fault next text e long bad in cc)

pub whole_trails : (l : Layout) (text more : List ℕ) → 0 < length more → judge l text ≡ Whole → judge l (text ++ more) ≡ Broken Trailing
unfolding judge
whole_trails End [] [] some whole = absurd (omega (arith, some))
whole_trails End [] (byte ∷ more) some whole = refl
whole_trails End (byte ∷ bytes) more some whole = absurd (let h : Broken Trailing ≡ Whole = whole in cc)
whole_trails (Field w fault next) text more some whole = field_trails w fault next text more (λ n rest. whole_trails (next n) rest more some) whole
