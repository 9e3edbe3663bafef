-- How bytes of the head and of a plan move a reader forward in its text.
use Rattle.std.proofs.Common.{◌≡◌, ℕ, ◌-◌, ◌<◌, ◌≤◌, List, [], ◌++◌, length, Option, Some, None, refl, ap, sym, ◌∙◌, subst, arith}
use Rattle.std.specs.Prelude.{◌≢◌}
use Rattle.chare_index.specs.declared.limits.TheConstants.Limits.{ELEMENTS}
use Rattle.std.proofs.lemmas.List.Elements.{All-nil}
use Rattle.dump_format.specs.Faults.{IsBroken}
use Rattle.dump_format.specs.Fields.{dump, ending}
use Rattle.dump_format.specs.Layout.{Broken, Unfinished, judge}
use Rattle.dump_format.specs.declared.error.DumpError.{DumpError}
use Rattle.lb_dump.specs.Elements.{behind}
use Rattle.lb_dump.specs.Heads.{IsHead, head_text, load_width}
use Rattle.lb_dump.specs.declared.head.Format.{Format}
use Rattle.lb_dump.specs.declared.head.Format.TheVariants.{Lbd1, Lbd2}
use Rattle.lb_dump.specs.declared.head.Head.{Head}
use Rattle.lb_dump.specs.Plans.{IsBegun, IsPlan}
use Rattle.lb_dump.specs.declared.plan.DecisionPart.{DecisionPart}
use Rattle.lb_dump.specs.declared.plan.DecisionPart.TheVariants.{Begun, Nothing, Made}
use Rattle.lb_dump.specs.Held.{HasBegunPlan, IsAt, IsAtElements, IsAtHead, front_text, plan_part}
use Rattle.lb_dump.proofs.Standing.{left, no_element}
use Rattle.lb_dump.proofs.Steps.{broken_behind, comes_behind, fresh_elements, head_comes, left_breaks, no_move_begun, none_yet, plan_comes}

-- before the head is whole there is no other part
pub at_head : {A : Type 0} (head : Option Head) (loads : List ℕ) (sizes : List (ℕ × ℕ)) (plan : DecisionPart A) (list : List (ℕ × ℕ × ℕ))
    (begun : List ℕ) → IsAt head loads sizes plan list begun → head ≡ None
    → (plan ≡ Begun) × IsAtHead loads sizes list begun
at_head None loads sizes Begun list begun at none = (refl, at)
at_head None loads sizes Nothing list begun at none = absurd at
at_head None loads sizes (Made r all) list begun at none = absurd at
at_head (Some h) loads sizes plan list begun at none = absurd (let e = none in cc)

module _ (A : Type 0) (head : Option Head) (loads : List ℕ) (sizes : List (ℕ × ℕ)) (plan : DecisionPart A) (list : List (ℕ × ℕ × ℕ)) (begun bytes : List ℕ)
    (held : IsAt head loads sizes plan list begun) (headless : head ≡ None) where
  old : IsAtHead loads sizes list begun
  old = (at_head head loads sizes plan list begun held headless).1

  fresh : plan ≡ Begun
  fresh = (at_head head loads sizes plan list begun held headless).0

  pub head_short : length begun < 16
  head_short = old.short

  -- more bytes of the head
  pub head_goes_on : (start rest next_begun : List ℕ) → bytes ≡ start ++ rest → next_begun ≡ begun ++ start → length (begun ++ start) < 16
      → judge dump (begun ++ start) ≡ Unfinished
      → ((front_text head loads sizes plan list ++ next_begun) ++ rest ≡ (front_text head loads sizes plan list ++ begun) ++ bytes) × IsAt head loads sizes plan list next_begun
  head_goes_on start rest next_begun parts grown short unfinished = (
    ap (λ (t : List ℕ). (front_text head loads sizes plan list ++ t) ++ rest) grown ∙ comes_behind (front_text head loads sizes plan list) begun start rest bytes parts,
    subst (λ (x : Option Head). IsAt x loads sizes plan list next_begun) (sym headless)
        (subst (λ (p : DecisionPart A). IsAt None loads sizes p list next_begun) (sym fresh)
        (record {
          no_loads = old.no_loads;
          no_sizes = old.no_sizes;
          no_moves = old.no_moves;
          short = subst (λ (t : List ℕ). length t < 16) (sym grown) short;
          unfinished = subst (λ (t : List ℕ). judge dump t ≡ Unfinished) (sym grown) unfinished;
        })),
  )

  -- the head is whole
  pub head_ends : (h : Head) (start rest : List ℕ) → bytes ≡ start ++ rest → IsHead h → begun ++ start ≡ head_text h
      → ((front_text (Some h) loads sizes plan list ++ []) ++ rest ≡ (front_text head loads sizes plan list ++ begun) ++ bytes) × IsAt (Some h) loads sizes plan list []
  head_ends h start rest parts is spelled = (
    rw (old.no_loads, old.no_sizes, old.no_moves)
        (subst (λ (x : Option Head). (front_text (Some h) [] [] plan [] ++ []) ++ rest ≡ (front_text x [] [] plan [] ++ begun) ++ bytes) (sym headless)
        (subst (λ (p : DecisionPart A). (front_text (Some h) [] [] p [] ++ []) ++ rest ≡ (front_text None [] [] p [] ++ begun) ++ bytes) (sym fresh)
        (ap (λ (t : List ℕ). t ++ rest) (head_comes A h (begun ++ start) spelled) ∙ comes_behind (front_text {A = A} None [] [] Begun []) begun start rest bytes parts))),
    subst (λ (p : DecisionPart A). IsAt (Some h) loads sizes p list []) (sym fresh)
        (rw (old.no_loads, old.no_sizes, old.no_moves) (fresh_elements h [] [] (none_yet h is))),
  )

  -- a fault of the head
  pub head_breaks : (start rest : List ℕ) (e : DumpError) → bytes ≡ start ++ rest → IsBroken (begun ++ start) e
      → IsBroken ((front_text head loads sizes plan list ++ begun) ++ bytes) e
  head_breaks start rest e parts broken =
      broken_behind (front_text head loads sizes plan list) begun start rest bytes e parts
      (left_breaks A head loads sizes plan list begun (begun ++ start) e held
      (subst (λ (x : Option Head). judge (left x (length loads) plan (length list)) (begun ++ start) ≡ Broken e) (sym headless) broken))

-- after all elements of LBD2 a plan has begun
pub at_plan : {A : Type 0} (head : Option Head) (loads : List ℕ) (sizes : List (ℕ × ℕ)) (plan : DecisionPart A) (list : List (ℕ × ℕ × ℕ))
    (begun : List ℕ) (h : Head) → IsAt head loads sizes plan list begun → head ≡ Some h → plan ≡ Begun
    → IsAtElements h loads sizes list begun
at_plan None loads sizes plan list begun h at headed none = absurd (let e = headed in cc)
at_plan (Some k) loads sizes Begun list begun h at headed none =
    let same : k ≡ h = cc in
    subst (λ x. IsAtElements x loads sizes list begun) same at
at_plan (Some k) loads sizes Nothing list begun h at headed none = absurd (let e = none in cc)
at_plan (Some k) loads sizes (Made r all) list begun h at headed none = absurd (let e = none in cc)

wide_plan : (format : Format) (count : ℕ) (begun : List ℕ) → format ≡ Lbd2 → HasBegunPlan format count begun → IsBegun begun
wide_plan Lbd1 count begun wide is = cc
wide_plan Lbd2 count begun wide is = is.0

plan_of_wide : (format : Format) (count : ℕ) (begun : List ℕ) → format ≡ Lbd2 → IsBegun begun → judge (ending count) begun ≡ Unfinished → HasBegunPlan format count begun
plan_of_wide Lbd1 count begun wide is unfinished = cc
plan_of_wide Lbd2 count begun wide is unfinished = (is, unfinished)

module _ (A : Type 0) (head : Option Head) (loads : List ℕ) (sizes : List (ℕ × ℕ)) (plan : DecisionPart A) (list : List (ℕ × ℕ × ℕ)) (begun bytes : List ℕ) (h : Head)
    (held : IsAt head loads sizes plan list begun) (headed : head ≡ Some h) (all : length loads ≡ h.count) (wide : h.format ≡ Lbd2) (none : plan ≡ Begun) where
  at : IsAtElements h loads sizes list begun
  at = at_plan head loads sizes plan list begun h held headed none

  pub plan_has_begun : IsBegun begun
  plan_has_begun = wide_plan h.format h.count begun wide (at.plan all)

  pub few_elements : h.count ≤ ELEMENTS
  few_elements = at.some.head.few

  -- more bytes of the plan
  pub plan_goes_on : (next : DecisionPart A) (start rest next_begun : List ℕ) → bytes ≡ start ++ rest → next_begun ≡ begun ++ start → next ≡ Begun → IsPlan next_begun h.count next
      → ((front_text head loads sizes next list ++ next_begun) ++ rest ≡ (front_text head loads sizes plan list ++ begun) ++ bytes) × IsAt head loads sizes next list next_begun
  plan_goes_on next start rest next_begun parts grown more is =
      let same : next ≡ plan = more ∙ sym none in
      let begins : IsPlan {A = A} next_begun h.count Begun = subst (λ (p : DecisionPart A). IsPlan next_begun h.count p) more is in (
        ap (λ (p : DecisionPart A). (front_text head loads sizes p list ++ next_begun) ++ rest) same
            ∙ ap (λ (t : List ℕ). (front_text head loads sizes plan list ++ t) ++ rest) grown ∙ comes_behind (front_text head loads sizes plan list) begun start rest bytes parts,
        subst (λ (x : Option Head). IsAt x loads sizes next list next_begun) (sym headed)
            (subst (λ (p : DecisionPart A). IsAt (Some h) loads sizes p list next_begun) (sym more)
            (record {
              some = at.some;
              no_moves = at.no_moves;
              element = λ missing. absurd (omega (arith, missing, all));
              plan = λ _. plan_of_wide h.format h.count next_begun wide begins.0 begins.1;
            })),
      )

  -- a fault of the plan
  pub plan_breaks : (start rest next_begun : List ℕ) (e : DumpError) → bytes ≡ start ++ rest → next_begun ≡ begun ++ start
      → judge (ending h.count) next_begun ≡ Broken e → IsBroken ((front_text head loads sizes plan list ++ begun) ++ bytes) e
  plan_breaks start rest next_begun e parts grown broken =
      broken_behind (front_text head loads sizes plan list) begun start rest bytes e parts
      (left_breaks A head loads sizes plan list begun (begun ++ start) e held
      (subst (λ (x : Option Head). judge (left x (length loads) plan (length list)) (begun ++ start) ≡ Broken e) (sym headed)
      (subst (λ (p : DecisionPart A). judge (left (Some h) (length loads) p (length list)) (begun ++ start) ≡ Broken e) (sym none)
      (ap (λ l. judge l (begun ++ start)) (no_element (load_width h.format) h.procs (length loads) (h.count - length loads) (behind h.format h.count) (omega (arith, all)))
      ∙ ap (λ f. judge (behind f h.count) (begun ++ start)) wide
      ∙ subst (λ (t : List ℕ). judge (ending h.count) t ≡ Broken e) grown broken))))

  -- the plan is whole
  pub plan_ends : (next : DecisionPart A) (start rest whole : List ℕ) → bytes ≡ start ++ rest → whole ≡ begun ++ start → (next ≢ Begun) → IsPlan whole h.count next
      → ((front_text head loads sizes next list ++ []) ++ rest ≡ (front_text head loads sizes plan list ++ begun) ++ bytes) × IsAt head loads sizes next list []
  plan_ends next start rest whole parts grown made is = (
    subst (λ (x : Option Head). (front_text x loads sizes next list ++ []) ++ rest ≡ (front_text x loads sizes plan list ++ begun) ++ bytes) (sym headed)
        (subst (λ (p : DecisionPart A). (front_text (Some h) loads sizes next list ++ []) ++ rest ≡ (front_text (Some h) loads sizes p list ++ begun) ++ bytes) (sym none)
        (rw at.no_moves
        (ap (λ (t : List ℕ). t ++ rest) (plan_comes A h loads sizes next (begun ++ start) (spells next is made ∙ grown))
        ∙ comes_behind (front_text {A = A} (Some h) loads sizes Begun []) begun start rest bytes parts))),
    subst (λ (x : Option Head). IsAt x loads sizes next list []) (sym headed) (stands next is made),
  )
    where
      spells : (p : DecisionPart A) → IsPlan whole h.count p → (p ≢ Begun) → plan_part p ≡ whole
      spells Begun is made = absurd (made refl)
      spells Nothing is made = sym is
      spells (Made r n) is made = sym is.spelled

      stands : (p : DecisionPart A) → IsPlan whole h.count p → (p ≢ Begun) → IsAt (Some h) loads sizes p list []
      stands Begun is made = absurd (made refl)
      stands Nothing is made = record { some = at.some; all = all; wide = wide; no_moves = at.no_moves; no_bytes = refl }
      stands (Made r n) is made =
          record {
            some = at.some;
            all = all;
            wide = wide;
            recorded = is.recorded;
            fields = is.fields;
            plan_moves = is.no_moves;
            few_told = is.few_moves;
            kept = rw at.no_moves (record { elements = All-nil _; present = All-nil _; planned = All-nil _ });
            few_moves = rw at.no_moves (omega arith);
            move = λ _. no_move_begun h.count;
            no_bytes = λ _. refl;
          }
