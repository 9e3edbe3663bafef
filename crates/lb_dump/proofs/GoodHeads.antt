-- Where memory is refused, nothing is wrong with the head of the text.
use Rattle.std.proofs.Common.{◌≡◌, ◌∙◌, ℕ, ◌+◌, ◌-◌, ◌<◌, ◌≤◌, min, List, [], ◌++◌, length, length-append, take, Option, Some, None, refl, ap, sym, subst, append_assoc, arith}
use Rattle.std.proofs.Math.Seq.{take-append_seam}
use Rattle.std.proofs.lemmas.List.{append-nil, nil_from_length, take_all}
use Rattle.dump_format.specs.Faults.{IsGood}
use Rattle.dump_format.specs.Fields.{dump}
use Rattle.dump_format.specs.Layout.{Unfinished, judge}
use Rattle.dump_format.specs.Text.{elements_text}
use Rattle.lb_dump.specs.Heads.{IsHead, head_text}
use Rattle.lb_dump.specs.declared.head.Head.{Head}
use Rattle.lb_dump.specs.declared.plan.DecisionPart.{DecisionPart}
use Rattle.lb_dump.specs.declared.plan.DecisionPart.TheVariants.{Begun, Nothing, Made}
use Rattle.lb_dump.specs.Held.{IsAt, elements_part, front_text, plan_part}
use Rattle.lb_dump.specs.Reading.{HasGoodHead}
use Rattle.lb_dump.specs.Moves.{moves_text}
use Rattle.lb_dump.proofs.Lengths.{magic_length}
use Rattle.lb_dump.proofs.PlanSteps.{head_goes_on}
use Rattle.lb_dump.proofs.Standing.{front_elements, front_none, held_good}
use Rattle.lb_dump.proofs.Steps.{fresh_elements, none_yet}

-- nothing is wrong with a head alone
good_head : (A : Type 0) (h : Head) → IsHead h → IsGood (head_text h)
unfolding elements_text
good_head A h is =
    let alone : front_text {A = A} (Some h) [] [] Begun [] ++ [] ≡ head_text h = append-nil _ ∙ front_elements A h [] [] ∙ append-nil (head_text h) in
    subst IsGood alone (held_good A (Some h) [] [] Begun [] [] (fresh_elements h [] [] (none_yet h is)))

-- a text with its head begins with it
starts_with_head : (A : Type 0) (h : Head) (loads : List ℕ) (sizes : List (ℕ × ℕ)) (plan : DecisionPart A) (list : List (ℕ × ℕ × ℕ)) (begun bytes : List ℕ)
    → take 16 ((front_text (Some h) loads sizes plan list ++ begun) ++ bytes) ≡ head_text h
unfolding front_text
starts_with_head A h loads sizes plan list begun bytes =
    let behind : List ℕ = elements_part (Some h) loads sizes ++ (plan_part plan ++ moves_text list) in
    rw (append_assoc (head_text h ++ behind) begun bytes, append_assoc (head_text h) behind (begun ++ bytes))
    (ap (λ n. take n (head_text h ++ (behind ++ (begun ++ bytes)))) (sym (magic_length h.format h.step h.procs h.count))
    ∙ take-append_seam (head_text h) (behind ++ (begun ++ bytes)))

-- the numbers of a head that is whole keep their rules
head_kept : {A : Type 0} (h : Head) (loads : List ℕ) (sizes : List (ℕ × ℕ)) (plan : DecisionPart A) (list : List (ℕ × ℕ × ℕ)) (begun : List ℕ)
    → IsAt (Some h) loads sizes plan list begun → IsHead h
head_kept h loads sizes Begun list begun at = at.some.head
head_kept h loads sizes Nothing list begun at = at.some.head
head_kept h loads sizes (Made r all) list begun at = at.some.head

-- once the head is whole
pub good_behind_head : (A : Type 0) (head : Option Head) (loads : List ℕ) (sizes : List (ℕ × ℕ)) (plan : DecisionPart A) (list : List (ℕ × ℕ × ℕ))
    (begun bytes : List ℕ) (h : Head) → IsAt head loads sizes plan list begun → head ≡ Some h
    → HasGoodHead ((front_text head loads sizes plan list ++ begun) ++ bytes)
good_behind_head A None loads sizes plan list begun bytes h at headed = absurd (let e = headed in cc)
good_behind_head A (Some k) loads sizes plan list begun bytes h at headed =
    subst IsGood (sym (starts_with_head A k loads sizes plan list begun bytes)) (good_head A k (head_kept k loads sizes plan list begun at))

-- before the head is whole there are only its bytes
no_front : {A : Type 0} (head : Option Head) (loads : List ℕ) (sizes : List (ℕ × ℕ)) (plan : DecisionPart A) (list : List (ℕ × ℕ × ℕ))
    (begun : List ℕ) → IsAt head loads sizes plan list begun → head ≡ None → front_text head loads sizes plan list ≡ []
no_front {A} None loads sizes Begun list begun at none = rw at.no_moves (front_none A loads sizes)
no_front None loads sizes Nothing list begun at none = absurd at
no_front None loads sizes (Made r all) list begun at none = absurd at
no_front (Some h) loads sizes plan list begun at none = absurd (let e = none in cc)

-- before the head is whole
pub good_in_head : (A : Type 0) (head : Option Head) (loads : List ℕ) (sizes : List (ℕ × ℕ)) (plan : DecisionPart A) (list : List (ℕ × ℕ × ℕ))
    (begun bytes start rest : List ℕ) → IsAt head loads sizes plan list begun → head ≡ None
    → bytes ≡ start ++ rest → length start ≡ min (length bytes) (16 - length begun) → length (begun ++ start) < 16
    → judge dump (begun ++ start) ≡ Unfinished → HasGoodHead ((front_text head loads sizes plan list ++ begun) ++ bytes)
good_in_head A head loads sizes plan list begun bytes start rest held headless parts most short unfinished =
    let front : List ℕ = front_text head loads sizes plan list in
    let next = head_goes_on A head loads sizes plan list begun bytes held headless start rest (begun ++ start) parts refl short unfinished in
    let good : IsGood (front ++ (begun ++ start)) = held_good A head loads sizes plan list (begun ++ start) next.1 in
    let counted : length bytes ≡ length start + length rest = ap length parts ∙ length-append start rest in
    let none : rest ≡ [] = nil_from_length rest (omega (arith, counted, most, short, length-append begun start)) in
    let whole : front ++ (begun ++ start) ≡ (front ++ begun) ++ bytes = sym (append-nil (front ++ (begun ++ start)))
    ∙ ap (λ (t : List ℕ). (front ++ (begun ++ start)) ++ t) (sym none) ∙ next.0 in
    let brief : length (front ++ (begun ++ start)) ≤ 16 = omega
    (arith, short, length-append front (begun ++ start), ap length (no_front head loads sizes plan list begun held headless)) in
    subst HasGoodHead whole (subst IsGood (sym (take_all 16 (front ++ (begun ++ start)) brief)) good)
