-- How bytes of elements move a reader forward in its text.
use Rattle.std.proofs.Common.{◌≡◌, inl, inr, ℕ, ◌+◌, ◌*◌, ◌-◌, ◌<◌, ◌≤◌, List, [], ◌∷◌, ◌++◌, length, length-append, Option, Some, None, refl, ap, sym, ◌∙◌, subst, arith}
use Rattle.std.proofs.lemmas.Bool.{cases_lt}
use Rattle.std.proofs.lemmas.List.{append-nil}
use Rattle.std.specs.Int.{w32, w64}
use Rattle.dump_format.specs.Faults.{IsBroken}
use Rattle.dump_format.specs.Fields.{elements}
use Rattle.dump_format.specs.Layout.{Broken, judge}
use Rattle.dump_format.proofs.Spelling.{elements_length_long, elements_length_word}
use Rattle.dump_format.specs.declared.error.DumpError.{DumpError}
use Rattle.dump_format.specs.Text.{elements_text}
use Rattle.lb_dump.proofs.ElementTexts.{next_read}
use Rattle.lb_dump.specs.Elements.{AreOf, BreaksElement, behind, body_of, elements_of}
use Rattle.lb_dump.specs.Heads.{element_len, load_width}
use Rattle.lb_dump.specs.declared.head.Format.{Format}
use Rattle.lb_dump.specs.declared.head.Format.TheVariants.{Lbd1, Lbd2}
use Rattle.lb_dump.specs.declared.head.Head.{Head}
use Rattle.lb_dump.specs.declared.plan.DecisionPart.{DecisionPart}
use Rattle.lb_dump.specs.declared.plan.DecisionPart.TheVariants.{Begun, Nothing, Made}
use Rattle.lb_dump.specs.Held.{AreSome, HasBegunElement, IsAt, IsAtElements, front_text}
use Rattle.lb_dump.proofs.Steps.{broken_behind, comes_behind, elements_break, elements_come, fresh_elements}

-- where an element is missing, one may have begun, and no plan has
pub at_elements : {A : Type 0} (head : Option Head) (loads : List ℕ) (sizes : List (ℕ × ℕ)) (plan : DecisionPart A) (list : List (ℕ × ℕ × ℕ))
    (begun : List ℕ) (h : Head) → IsAt head loads sizes plan list begun → head ≡ Some h → length loads < h.count
    → (plan ≡ Begun) × IsAtElements h loads sizes list begun
at_elements None loads sizes plan list begun h at is missing = absurd (let e = is in cc)
at_elements (Some k) loads sizes Begun list begun h at is missing =
    let same : k ≡ h = cc in
    (refl, subst (λ x. IsAtElements x loads sizes list begun) same at)
at_elements (Some k) loads sizes Nothing list begun h at is missing =
    let same : k ≡ h = cc in
    absurd (omega (arith, at.all, ap (λ (x : Head). x.count) same))
at_elements (Some k) loads sizes (Made r all) list begun h at is missing =
    let same : k ≡ h = cc in
    absurd (omega (arith, at.all, ap (λ (x : Head). x.count) same))

-- bytes of the length of an element are one more element
one_of : (format : Format) (loads next : List ℕ) (sizes next_sizes : List (ℕ × ℕ)) (count : ℕ) (rest element : List ℕ)
    → length sizes ≡ length loads → length next_sizes ≡ length next
    → elements_text (load_width format) next next_sizes ++ rest ≡ elements_text (load_width format) loads sizes ++ element → length element ≡ element_len format
    → (length next < count → length rest < element_len format) → length loads < count → length next ≤ count → length rest ≡ 0
one_of Lbd1 loads next sizes next_sizes count rest element paired next_paired joined full short missing few =
    let same : length (elements_text w32 next next_sizes) + length rest ≡ length (elements_text w32 loads sizes) + length element = sym
    (length-append (elements_text w32 next next_sizes) rest) ∙ ap length joined ∙ length-append (elements_text w32 loads sizes) element in
    let new : length (elements_text w32 next next_sizes) ≡ 12 * length next = elements_length_word next next_sizes (sym next_paired) in
    let old : length (elements_text w32 loads sizes) ≡ 12 * length loads = elements_length_word loads sizes (sym paired) in
    elim (cases_lt (length next) count) [
      | inl more ↦ omega (arith, short more, same, new, old, full)
      | inr all ↦ omega (arith, same, new, old, full)
    ]
one_of Lbd2 loads next sizes next_sizes count rest element paired next_paired joined full short missing few =
    let same : length (elements_text w64 next next_sizes) + length rest ≡ length (elements_text w64 loads sizes) + length element = sym
    (length-append (elements_text w64 next next_sizes) rest) ∙ ap length joined ∙ length-append (elements_text w64 loads sizes) element in
    let new : length (elements_text w64 next next_sizes) ≡ 16 * length next = elements_length_long next next_sizes (sym next_paired) in
    let old : length (elements_text w64 loads sizes) ≡ 16 * length loads = elements_length_long loads sizes (sym paired) in
    elim (cases_lt (length next) count) [
      | inl more ↦ omega (arith, short more, same, new, old, full)
      | inr all ↦ omega (arith, same, new, old, full)
    ]

one_more : (h : Head) (loads next : List ℕ) (sizes next_sizes : List (ℕ × ℕ)) (rest element : List ℕ) → length sizes ≡ length loads → length next_sizes ≡ length next
    → elements_of h next next_sizes ++ rest ≡ elements_of h loads sizes ++ element → length element ≡ element_len h.format
    → (length next < h.count → length rest < element_len h.format) → length loads < h.count → length next ≤ h.count → length rest ≡ 0
one_more h loads next sizes next_sizes rest element = one_of h.format loads next sizes next_sizes h.count rest element

-- once more elements are whole, fewer bytes are left
shorter_of : (format : Format) (loads next : List ℕ) (sizes next_sizes : List (ℕ × ℕ)) (rest bytes : List ℕ) → length sizes ≡ length loads → length next_sizes ≡ length next
    → elements_text (load_width format) next next_sizes ++ rest ≡ elements_text (load_width format) loads sizes ++ bytes → length loads < length next → length rest < length bytes
shorter_of Lbd1 loads next sizes next_sizes rest bytes paired next_paired joined more =
    let same : length (elements_text w32 next next_sizes) + length rest ≡ length (elements_text w32 loads sizes) + length bytes = sym
    (length-append (elements_text w32 next next_sizes) rest) ∙ ap length joined ∙ length-append (elements_text w32 loads sizes) bytes in
    omega (arith, same, elements_length_word next next_sizes (sym next_paired), elements_length_word loads sizes (sym paired))
shorter_of Lbd2 loads next sizes next_sizes rest bytes paired next_paired joined more =
    let same : length (elements_text w64 next next_sizes) + length rest ≡ length (elements_text w64 loads sizes) + length bytes = sym
    (length-append (elements_text w64 next next_sizes) rest) ∙ ap length joined ∙ length-append (elements_text w64 loads sizes) bytes in
    omega (arith, same, elements_length_long next next_sizes (sym next_paired), elements_length_long loads sizes (sym paired))

pub run_shorter : (h : Head) (loads next : List ℕ) (sizes next_sizes : List (ℕ × ℕ)) (rest bytes : List ℕ) → AreOf h loads sizes → AreOf h next next_sizes
    → elements_of h next next_sizes ++ rest ≡ elements_of h loads sizes ++ bytes → length loads < length next → length rest < length bytes
run_shorter h loads next sizes next_sizes rest bytes kept next_kept = shorter_of h.format loads next sizes next_sizes rest bytes kept.paired next_kept.paired

pub no_bytes : (bytes : List ℕ) → length bytes ≡ 0 → bytes ≡ []
no_bytes [] none = refl
no_bytes (byte ∷ bytes) none = absurd (omega (arith, none))

module _ (A : Type 0) (head : Option Head) (loads : List ℕ) (sizes : List (ℕ × ℕ)) (plan : DecisionPart A) (list : List (ℕ × ℕ × ℕ)) (begun bytes : List ℕ) (h : Head)
    (at : IsAt head loads sizes plan list begun) (headed : head ≡ Some h) (missing : length loads < h.count) where
  pub old : IsAtElements h loads sizes list begun
  old = (at_elements head loads sizes plan list begun h at headed missing).1

  fresh : plan ≡ Begun
  fresh = (at_elements head loads sizes plan list begun h at headed missing).0

  -- all elements are whole
  pub all_come : (next : List ℕ) (next_sizes : List (ℕ × ℕ)) (rest : List ℕ) → begun ≡ [] → elements_of h next next_sizes
      ++ rest ≡ elements_of h loads sizes ++ bytes → AreOf h next next_sizes → length next ≡ h.count
      → ((front_text head next next_sizes plan list ++ begun) ++ rest ≡ (front_text head loads sizes plan list ++ begun) ++ bytes) × IsAt head next next_sizes plan list begun
  all_come next next_sizes rest none joined kept all =
      rw (headed, fresh, none, old.no_moves) (
        rw (
          append-nil (front_text {A = A} (Some h) next next_sizes Begun []),
          append-nil (front_text {A = A} (Some h) loads sizes Begun []),
        ) (elements_come A h loads next sizes next_sizes rest bytes joined),
        fresh_elements h next next_sizes (record { head = old.some.head; kept = kept; few = omega (arith, all) }),
      )

  -- an element has begun after those that are whole
  pub one_begins : (next : List ℕ) (next_sizes : List (ℕ × ℕ)) (rest next_begun : List ℕ) → begun ≡ [] → elements_of h next next_sizes
      ++ rest ≡ elements_of h loads sizes ++ bytes → AreOf h next next_sizes → length next < h.count
      → HasBegunElement h.format rest → next_begun ≡ begun ++ rest
      → ((front_text head next next_sizes plan list ++ next_begun) ++ [] ≡ (front_text head loads sizes plan list ++ begun) ++ bytes)
      × IsAt head next next_sizes plan list next_begun
  one_begins next next_sizes rest next_begun none joined kept few has grown =
      rw (headed, fresh, grown, none, old.no_moves) (
        rw (
          append-nil (front_text {A = A} (Some h) next next_sizes Begun [] ++ rest),
          append-nil (front_text {A = A} (Some h) loads sizes Begun []),
        ) (elements_come A h loads next sizes next_sizes rest bytes joined),
        record {
          some = record { head = old.some.head; kept = kept; few = omega (arith, few) };
          no_moves = refl;
          element = λ _. has;
          plan = λ all. absurd (omega (arith, all, few));
        },
      )

  -- a fault among whole elements
  pub run_breaks : (e : DumpError) → begun ≡ [] → judge (body_of h) (elements_of h loads sizes ++ bytes) ≡ Broken e
      → IsBroken ((front_text head loads sizes plan list ++ begun) ++ bytes) e
  run_breaks e none broken =
      rw (headed, fresh, none, old.no_moves, append-nil (front_text {A = A} (Some h) loads sizes Begun [])) (elements_break A h loads sizes bytes e old.some.head broken)

  -- the element that had begun is whole
  pub one_ends : (next : List ℕ) (next_sizes : List (ℕ × ℕ)) (start behind_start rest whole : List ℕ) → bytes ≡ start ++ rest
      → whole ≡ begun ++ start → length whole ≡ element_len h.format
      → elements_of h next next_sizes ++ behind_start ≡ elements_of h loads sizes ++ whole → AreOf h next next_sizes → length next ≤ h.count
      → (length next < h.count → length behind_start < element_len h.format)
      → ((front_text head next next_sizes plan list ++ []) ++ rest ≡ (front_text head loads sizes plan list ++ begun) ++ bytes) × IsAt head next next_sizes plan list []
  one_ends next next_sizes start behind_start rest whole parts grown full joined kept few short =
      let none : behind_start ≡ [] = no_bytes behind_start
      (one_more h loads next sizes next_sizes behind_start whole old.some.kept.paired kept.paired joined full short missing few) in
      let whole_joined : elements_of h next next_sizes ++ [] ≡ elements_of h loads sizes
      ++ (begun ++ start) = subst (λ (t : List ℕ). elements_of h next next_sizes ++ [] ≡ elements_of h loads sizes ++ t) grown
      (subst (λ (t : List ℕ). elements_of h next next_sizes ++ t ≡ elements_of h loads sizes ++ whole) none joined) in
      rw (headed, fresh, old.no_moves) (
        ap (λ (t : List ℕ). t ++ rest) (elements_come A h loads next sizes next_sizes [] (begun ++ start) whole_joined)
            ∙ comes_behind (front_text {A = A} (Some h) loads sizes Begun []) begun start rest bytes parts,
        fresh_elements h next next_sizes (record { head = old.some.head; kept = kept; few = few }),
      )

  -- more bytes of the element that had begun
  pub one_goes_on : (start rest next_begun : List ℕ) → bytes ≡ start ++ rest → next_begun ≡ begun ++ start → HasBegunElement h.format next_begun
      → ((front_text head loads sizes plan list ++ next_begun) ++ rest ≡ (front_text head loads sizes plan list ++ begun) ++ bytes) × IsAt head loads sizes plan list next_begun
  one_goes_on start rest next_begun parts grown has = (
    ap (λ (t : List ℕ). (front_text head loads sizes plan list ++ t) ++ rest) grown ∙ comes_behind (front_text head loads sizes plan list) begun start rest bytes parts,
    rw (headed, fresh) (record { some = old.some; no_moves = old.no_moves; element = λ _. has; plan = λ all. absurd (omega (arith, all, missing)) }),
  )

  -- a fault of the element that had begun
  pub one_breaks : (start rest next_begun : List ℕ) (e : DumpError) → bytes ≡ start ++ rest → next_begun ≡ begun ++ start
      → judge (body_of h) (elements_of h loads sizes ++ next_begun) ≡ Broken e
      → IsBroken ((front_text head loads sizes plan list ++ begun) ++ bytes) e
  one_breaks start rest next_begun e parts grown broken =
      rw (headed, fresh, old.no_moves)
      (broken_behind (front_text {A = A} (Some h) loads sizes Begun []) begun start rest bytes e parts
      (elements_break A h loads sizes (begun ++ start) e old.some.head (subst (λ (t : List ℕ). judge (body_of h) (elements_of h loads sizes ++ t) ≡ Broken e) grown broken)))

-- A fault of an element that has begun after elements that are whole.
pub begun_breaks : (h : Head) (loads : List ℕ) (sizes : List (ℕ × ℕ)) (begun : List ℕ) (e : DumpError) → AreSome h loads sizes
    → length loads < h.count → BreaksElement h.format h.procs (length loads) begun e
    → judge (body_of h) (elements_of h loads sizes ++ begun) ≡ Broken e
begun_breaks h loads sizes begun e some missing breaks =
    next_read h loads sizes some.head some.kept begun missing
    ∙ breaks (elements (load_width h.format) h.procs (length loads + 1) (h.count - length loads - 1) (behind h.format h.count))
