-- The length of the text so far.
use Rattle.std.proofs.Common.{◌≡◌, ℕ, ◌+◌, ◌*◌, ◌≤◌, List, ◌++◌, length, length-append, Option, Some, None, refl, ap, sym, subst, arith}
use Rattle.chare_index.specs.declared.limits.TheConstants.Limits.{ELEMENTS}
use Rattle.dump_format.specs.Text.{elements_text, word}
use Rattle.dump_format.proofs.Spelling.{elements_length_long, elements_length_word, moves_length}
use Rattle.lb_dump.specs.Elements.{elements_of}
use Rattle.lb_dump.specs.Heads.{element_len, head_text, magic_of, load_width}
use Rattle.lb_dump.specs.Moves.{moves_text}
use Rattle.lb_dump.specs.declared.head.Format.{Format}
use Rattle.lb_dump.specs.declared.head.Format.TheVariants.{Lbd1, Lbd2}
use Rattle.lb_dump.specs.declared.head.Head.{Head}
use Rattle.lb_dump.specs.Plans.{IsMade, plan_bytes}
use Rattle.lb_dump.proofs.MadePlans.{made_length}
use Rattle.lb_dump.specs.declared.plan.DecisionPart.{DecisionPart}
use Rattle.lb_dump.specs.declared.plan.DecisionPart.TheVariants.{Begun, Nothing, Made}
use Rattle.lb_dump.specs.Held.{IsAt, front_text, plan_part}
use Rattle.lb_dump.specs.Made.{plan_size}

pub magic_length : (format : Format) (a b c : ℕ) → length (magic_of format ++ (word a ++ (word b ++ word c))) ≡ 16
magic_length Lbd1 a b c = refl
magic_length Lbd2 a b c = refl

lengths_of : (format : Format) (loads : List ℕ) (sizes : List (ℕ × ℕ)) → length sizes ≡ length loads
    → length (elements_text (load_width format) loads sizes) ≡ element_len format * length loads
lengths_of Lbd1 loads sizes paired = elements_length_word loads sizes (sym paired)
lengths_of Lbd2 loads sizes paired = elements_length_long loads sizes (sym paired)

plan_length : {A : Type 0} (h : Head) (loads : List ℕ) (sizes : List (ℕ × ℕ)) (plan : DecisionPart A) (list : List (ℕ × ℕ × ℕ)) (begun : List ℕ)
    → IsAt (Some h) loads sizes plan list begun → length (plan_part plan) ≡ plan_size plan
plan_length h loads sizes Begun list begun at = refl
plan_length h loads sizes Nothing list begun at = refl
plan_length h loads sizes (Made r all) list begun at =
    let made : IsMade (word 1 ++ plan_bytes r all) h.count r all = record
    { spelled = refl; recorded = at.recorded; fields = at.fields; no_moves = at.plan_moves; few_moves = at.few_told } in
    made_length (word 1 ++ plan_bytes r all) h.count r all made

-- in each stage after the head some elements are whole
some_kept : {A : Type 0} (h : Head) (loads : List ℕ) (sizes : List (ℕ × ℕ)) (plan : DecisionPart A) (list : List (ℕ × ℕ × ℕ)) (begun : List ℕ)
    → IsAt (Some h) loads sizes plan list begun → (length sizes ≡ length loads) × (length loads ≤ ELEMENTS) × (length list ≤ ELEMENTS)
some_kept h loads sizes Begun list begun at = (at.some.kept.paired, omega (arith, at.some.few, at.some.head.few), omega (arith, ap length at.no_moves))
some_kept h loads sizes Nothing list begun at = (at.some.kept.paired, omega (arith, at.some.few, at.some.head.few), omega (arith, ap length at.no_moves))
some_kept h loads sizes (Made r all) list begun at = (at.some.kept.paired, omega (arith, at.some.few, at.some.head.few), omega (arith, at.few_moves, at.few_told, at.some.head.few))

pub front_length : (A : Type 0) (head : Option Head) (loads : List ℕ) (sizes : List (ℕ × ℕ)) (plan : DecisionPart A) (list : List (ℕ × ℕ × ℕ))
    (begun : List ℕ) (h : Head) → IsAt head loads sizes plan list begun → head ≡ Some h
    → length (front_text head loads sizes plan list) ≡ 16 + element_len h.format * length loads + plan_size plan + 12 * length list
unfolding front_text
front_length A None loads sizes plan list begun h at is = absurd (let e = is in cc)
front_length A (Some k) loads sizes plan list begun h at is =
    let same : k ≡ h = cc in
    let len : length (head_text k ++ (elements_of k loads sizes ++ (plan_part plan ++ moves_text list))) ≡ 16 + element_len
    k.format * length loads + plan_size plan + 12 * length list =
    omega (
      arith,
      length-append (head_text k) (elements_of k loads sizes ++ (plan_part plan ++ moves_text list)),
      length-append (elements_of k loads sizes) (plan_part plan ++ moves_text list),
      length-append (plan_part plan) (moves_text list),
      magic_length k.format k.step k.procs k.count,
      lengths_of k.format loads sizes (some_kept k loads sizes plan list begun at).0,
      plan_length k loads sizes plan list begun at,
      moves_length list,
    ) in
    subst (λ (x : Head). length (head_text k ++ (elements_of k loads sizes ++ (plan_part plan ++ moves_text list))) ≡ 16 + element_len
    x.format * length loads + plan_size plan + 12 * length list) same len

-- before the head is whole, the text is what has begun
pub none_length : (A : Type 0) (head : Option Head) (loads : List ℕ) (sizes : List (ℕ × ℕ)) (plan : DecisionPart A) (list : List (ℕ × ℕ × ℕ))
    (begun : List ℕ) → IsAt head loads sizes plan list begun → head ≡ None
    → length (front_text head loads sizes plan list ++ begun) ≡ length begun
unfolding front_text
none_length A None loads sizes Begun list begun at none = rw at.no_moves refl
none_length A None loads sizes Nothing list begun at none = absurd at
none_length A None loads sizes (Made r all) list begun at none = absurd at
none_length A (Some h) loads sizes plan list begun at none = absurd (let e = none in cc)
