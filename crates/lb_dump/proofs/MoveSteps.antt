-- How bytes of moves move a reader forward in its text.
use Rattle.std.proofs.Common.{◌≡◌, inl, inr, ℕ, ◌+◌, ◌*◌, ◌-◌, ◌<◌, ◌≤◌, List, [], ◌++◌, length, length-append, Option, Some, None, refl, ap, sym, ◌∙◌, subst, arith}
use Rattle.std.proofs.lemmas.Bool.{cases_lt}
use Rattle.std.proofs.lemmas.List.{append-nil}
use Rattle.std.specs.Prelude.{IfSome}
use Rattle.dump_format.specs.Faults.{IsBroken}
use Rattle.dump_format.specs.Fields.{moves}
use Rattle.dump_format.specs.Layout.{Broken, judge}
use Rattle.chare_index.specs.declared.limits.TheConstants.Limits.{ELEMENTS}
use Rattle.dump_format.proofs.Spelling.{moves_length}
use Rattle.dump_format.specs.declared.error.DumpError.{DumpError}
use Rattle.dump_format.specs.declared.recorded.Recorded.{Recorded}
use Rattle.lb_dump.specs.Moves.{AreMoves, BreaksMove, moves_text}
use Rattle.lb_dump.specs.declared.head.Head.{Head}
use Rattle.lb_dump.specs.declared.plan.DecisionPart.{DecisionPart}
use Rattle.lb_dump.specs.declared.plan.DecisionPart.TheVariants.{Begun, Nothing, Made}
use Rattle.lb_dump.specs.Held.{HasBegunMove, HasMoves, IsAt, IsAtMoves, front_text}
use Rattle.lb_dump.proofs.ElementSteps.{no_bytes}
use Rattle.lb_dump.proofs.MoveTexts.{next_move_read}
use Rattle.lb_dump.proofs.Steps.{broken_behind, comes_behind, moves_break, moves_come, no_move_begun}

-- after a plan with moves
pub record AtMoves (A : Type 0) (head : Option Head) (loads : List ℕ) (sizes : List (ℕ × ℕ)) (plan : DecisionPart A) (list : List (ℕ × ℕ × ℕ))
    (begun : List ℕ) (count all : ℕ) : Type 0 where
  pub h : Head
  pub r : Recorded A
  pub headed : head ≡ Some h
  pub planned : plan ≡ Made r all
  pub counted : h.count ≡ count
  pub stands : IsAtMoves h loads sizes r all list begun

pub at_moves : {A : Type 0} (head : Option Head) (loads : List ℕ) (sizes : List (ℕ × ℕ)) (plan : DecisionPart A) (list : List (ℕ × ℕ × ℕ))
    (begun : List ℕ) (count all : ℕ) → IsAt head loads sizes plan list begun
    → IfSome head (λ h. h.count ≡ count) → HasMoves plan all → AtMoves A head loads sizes plan list begun count all
at_moves None loads sizes Begun list begun count all at counted told = absurd told
at_moves None loads sizes Nothing list begun count all at counted told = absurd told
at_moves None loads sizes (Made r n) list begun count all at counted told = absurd at
at_moves (Some h) loads sizes Begun list begun count all at counted told = absurd told
at_moves (Some h) loads sizes Nothing list begun count all at counted told = absurd told
at_moves (Some h) loads sizes (Made r n) list begun count all at counted told =
    record { h = h; r = r; headed = refl; planned = ap (Made r) told; counted = counted; stands = subst (λ n. IsAtMoves h loads sizes r n list begun) told at }

pub few_elements : {A : Type 0} {head : Option Head} {loads : List ℕ} {sizes : List (ℕ × ℕ)} {plan : DecisionPart A} {list : List (ℕ × ℕ × ℕ)}
    {begun : List ℕ} {count all : ℕ} → AtMoves A head loads sizes plan list begun count all → count ≤ ELEMENTS
few_elements at = omega (arith, at.counted, at.stands.some.head.few)

pub kept_moves : {A : Type 0} {head : Option Head} {loads : List ℕ} {sizes : List (ℕ × ℕ)} {plan : DecisionPart A} {list : List (ℕ × ℕ × ℕ)}
    {begun : List ℕ} {count all : ℕ} → AtMoves A head loads sizes plan list begun count all → AreMoves count list
kept_moves {list = list} at = subst (λ n. AreMoves n list) at.counted at.stands.kept

-- a fault among the moves is the fault of the text
break_at : (A : Type 0) (head : Option Head) (loads : List ℕ) (sizes : List (ℕ × ℕ)) (plan : DecisionPart A) (list : List (ℕ × ℕ × ℕ))
    (begun bytes : List ℕ) (count all : ℕ) (e : DumpError) → AtMoves A head loads sizes plan list begun count all
    → judge (moves count 0 all) (moves_text list ++ bytes) ≡ Broken e → IsBroken (front_text head loads sizes plan list ++ bytes) e
break_at A head loads sizes plan list begun bytes count all e at broken =
    subst (λ (p : DecisionPart A). IsBroken (front_text head loads sizes p list ++ bytes) e) (sym at.planned)
    (subst (λ (x : Option Head). IsBroken (front_text x loads sizes (Made at.r all) list ++ bytes) e) (sym at.headed)
    (moves_break A at.h loads sizes at.r all list begun bytes e at.stands (subst (λ n. judge (moves n 0 all) (moves_text list ++ bytes) ≡ Broken e) (sym at.counted) broken)))

-- bytes of the length of a move are one more move
one_more : (list next : List (ℕ × ℕ × ℕ)) (all : ℕ) (rest step : List ℕ) → moves_text next ++ rest ≡ moves_text list ++ step
    → length step ≡ 12 → (length next < all → length rest < 12) → length list < all → length next ≤ all → length rest ≡ 0
one_more list next all rest step joined full short missing few =
    let same : length (moves_text next) + length rest ≡ length (moves_text list) + length step = sym (length-append (moves_text next) rest)
    ∙ ap length joined ∙ length-append (moves_text list) step in
    let new : length (moves_text next) ≡ 12 * length next = moves_length next in
    let old : length (moves_text list) ≡ 12 * length list = moves_length list in
    elim (cases_lt (length next) all) [
      | inl more ↦ omega (arith, short more, same, new, old, full)
      | inr enough ↦ omega (arith, same, new, old, full)
    ]

-- once more moves are whole, fewer bytes are left
pub run_shorter : (list next : List (ℕ × ℕ × ℕ)) (rest bytes : List ℕ) → moves_text next ++ rest ≡ moves_text list ++ bytes → length list < length next → length rest < length bytes
run_shorter list next rest bytes joined more =
    let same : length (moves_text next) + length rest ≡ length (moves_text list) + length bytes = sym (length-append (moves_text next) rest)
    ∙ ap length joined ∙ length-append (moves_text list) bytes in
    omega (arith, same, moves_length next, moves_length list)

module _ (A : Type 0) (head : Option Head) (loads : List ℕ) (sizes : List (ℕ × ℕ)) (plan : DecisionPart A) (list : List (ℕ × ℕ × ℕ)) (begun bytes : List ℕ) (count all : ℕ)
    (held : IsAt head loads sizes plan list begun) (counted : IfSome head (λ h. h.count ≡ count)) (told : HasMoves plan all) (missing : length list < all) where
  pub at : AtMoves A head loads sizes plan list begun count all
  at = at_moves head loads sizes plan list begun count all held counted told

  stands_with : (next : List (ℕ × ℕ × ℕ)) (next_begun : List ℕ) → AreMoves count next → length next ≤ all
      → (length next < all → HasBegunMove count next_begun) → (length next ≡ all → next_begun ≡ []) → IsAt head loads sizes plan next next_begun
  stands_with next next_begun kept few more whole =
      let s = at.stands in
      let stands : IsAtMoves at.h loads sizes at.r all next next_begun = record {
        some = s.some;
        all = s.all;
        wide = s.wide;
        recorded = s.recorded;
        fields = s.fields;
        plan_moves = s.plan_moves;
        few_told = s.few_told;
        kept = subst (λ n. AreMoves n next) (sym at.counted) kept;
        few_moves = few;
        move = λ missing. subst (λ n. HasBegunMove n next_begun) (sym at.counted) (more missing);
        no_bytes = whole;
      } in
      subst (λ (x : Option Head). IsAt x loads sizes plan next next_begun) (sym at.headed)
      (subst (λ (p : DecisionPart A). IsAt (Some at.h) loads sizes p next next_begun) (sym at.planned) stands)

  -- all moves are whole
  pub all_come : (next : List (ℕ × ℕ × ℕ)) (rest : List ℕ) → begun ≡ [] → moves_text next ++ rest ≡ moves_text list ++ bytes → AreMoves count next → length next ≡ all
      → ((front_text head loads sizes plan next ++ begun) ++ rest ≡ (front_text head loads sizes plan list ++ begun) ++ bytes) × IsAt head loads sizes plan next begun
  all_come next rest none joined kept whole = (
    rw (none, append-nil (front_text head loads sizes plan next), append-nil (front_text head loads sizes plan list))
        (moves_come A head loads sizes plan list next rest bytes joined),
    stands_with next begun kept (omega (arith, whole)) (λ more. absurd (omega (arith, more, whole))) (λ _. none),
  )

  -- a move has begun after those that are whole
  pub one_begins : (next : List (ℕ × ℕ × ℕ)) (rest next_begun : List ℕ) → begun ≡ [] → moves_text next ++ rest ≡ moves_text list ++ bytes
      → AreMoves count next → length next < all → HasBegunMove count rest → next_begun ≡ begun ++ rest
      → ((front_text head loads sizes plan next ++ next_begun) ++ [] ≡ (front_text head loads sizes plan list ++ begun) ++ bytes) × IsAt head loads sizes plan next next_begun
  one_begins next rest next_begun none joined kept few has grown =
      let is : next_begun ≡ rest = grown ∙ ap (λ (t : List ℕ). t ++ rest) none in (
        rw (is, none, append-nil (front_text head loads sizes plan next ++ rest), append-nil (front_text head loads sizes plan list))
            (moves_come A head loads sizes plan list next rest bytes joined),
        stands_with next next_begun kept (omega (arith, few)) (λ _. subst (λ (t : List ℕ). HasBegunMove count t) (sym is) has) (λ whole. absurd (omega (arith, few, whole))),
      )

  -- the move that had begun is whole
  pub one_ends : (next : List (ℕ × ℕ × ℕ)) (start behind_start rest whole : List ℕ) → bytes ≡ start ++ rest → whole ≡ begun ++ start
      → length whole ≡ 12 → moves_text next ++ behind_start ≡ moves_text list ++ whole
      → AreMoves count next → length next ≤ all → (length next < all → length behind_start < 12)
      → ((front_text head loads sizes plan next ++ []) ++ rest ≡ (front_text head loads sizes plan list ++ begun) ++ bytes) × IsAt head loads sizes plan next []
  one_ends next start behind_start rest whole parts grown full joined kept few short =
      let none : behind_start ≡ [] = no_bytes behind_start (one_more list next all behind_start whole joined full short missing few) in
      let whole_joined : moves_text next ++ [] ≡ moves_text list
      ++ (begun ++ start) = subst (λ (t : List ℕ). moves_text next ++ [] ≡ moves_text list ++ t) grown
      (subst (λ (t : List ℕ). moves_text next ++ t ≡ moves_text list ++ whole) none joined) in (
        ap (λ (t : List ℕ). t ++ rest) (moves_come A head loads sizes plan list next [] (begun ++ start) whole_joined)
            ∙ comes_behind (front_text head loads sizes plan list) begun start rest bytes parts,
        stands_with next [] kept few (λ _. no_move_begun count) (λ _. refl),
      )

  -- more bytes of the move that had begun
  pub one_goes_on : (start rest next_begun : List ℕ) → bytes ≡ start ++ rest → next_begun ≡ begun ++ start → HasBegunMove count next_begun
      → ((front_text head loads sizes plan list ++ next_begun) ++ rest ≡ (front_text head loads sizes plan list ++ begun) ++ bytes) × IsAt head loads sizes plan list next_begun
  one_goes_on start rest next_begun parts grown has = (
    ap (λ (t : List ℕ). (front_text head loads sizes plan list ++ t) ++ rest) grown ∙ comes_behind (front_text head loads sizes plan list) begun start rest bytes parts,
    stands_with list next_begun (subst (λ n. AreMoves n list) at.counted at.stands.kept) at.stands.few_moves (λ _. has) (λ whole. absurd (omega (arith, missing, whole))),
  )

  -- a fault among whole moves
  pub run_breaks : (e : DumpError) → begun ≡ [] → judge (moves count 0 all) (moves_text list ++ bytes) ≡ Broken e
      → IsBroken ((front_text head loads sizes plan list ++ begun) ++ bytes) e
  run_breaks e none broken =
      rw (none, append-nil (front_text head loads sizes plan list)) (break_at A head loads sizes plan list begun bytes count all e at broken)

  -- a fault of the move that had begun
  pub one_breaks : (start rest next_begun : List ℕ) (e : DumpError) → bytes ≡ start ++ rest → next_begun ≡ begun ++ start
      → judge (moves count 0 all) (moves_text list ++ next_begun) ≡ Broken e
      → IsBroken ((front_text head loads sizes plan list ++ begun) ++ bytes) e
  one_breaks start rest next_begun e parts grown broken =
      broken_behind (front_text head loads sizes plan list) begun start rest bytes e parts
      (break_at A head loads sizes plan list begun (begun ++ start) count all e at
      (subst (λ (t : List ℕ). judge (moves count 0 all) (moves_text list ++ t) ≡ Broken e) grown broken))

-- a fault of a move that has begun after moves that are whole
pub begun_breaks : (count all : ℕ) (list : List (ℕ × ℕ × ℕ)) (begun : List ℕ) (e : DumpError) → count ≤ ELEMENTS → AreMoves count list
    → length list < all → BreaksMove count (length list) begun e
    → judge (moves count 0 all) (moves_text list ++ begun) ≡ Broken e
begun_breaks count all list begun e few kept missing breaks =
    next_move_read count all list few kept begun missing ∙ breaks (moves count (length list + 1) (all - length list - 1))
