-- The text of the elements of a head, as it grows and as it is judged.
use Rattle.std.proofs.Common.{◌≡◌, ℕ, zero, suc, ◌+◌, ◌-◌, ◌^◌, ◌<◌, ◌≤◌, List, [], ◌∷◌, ◌++◌, length, append_assoc, ap, sym, subst, ◌∙◌, arith}
use Rattle.std.specs.Prelude.{All}
use Rattle.std.specs.Int.{Width, w32, w64}
use Rattle.std.proofs.lemmas.List.{length-append}
use Rattle.std.proofs.lemmas.List.Elements.{All-append}
use mir.Val.{bits}
use Rattle.chare_index.specs.declared.limits.TheConstants.Limits.{LOAD, PES, STATE_BYTES}
use Rattle.dump_format.specs.Layout.{Layout, End, Broken, judge}
use Rattle.dump_format.specs.Fields.{element, elements, ending}
use Rattle.dump_format.specs.Kept.{AreKept}
use Rattle.dump_format.specs.Text.{element_text, elements_text}
use Rattle.dump_format.specs.declared.error.DumpError.{DumpError}
use Rattle.dump_format.proofs.Judging.{broken_stays, elements_taken_long, elements_taken_word}
use Rattle.dump_format.proofs.Spelling.{elements_text_more}
use Rattle.lb_dump.specs.declared.head.Format.{Format}
use Rattle.lb_dump.specs.declared.head.Format.TheVariants.{Lbd1, Lbd2}
use Rattle.lb_dump.specs.declared.head.Head.{Head}
use Rattle.lb_dump.specs.Heads.{IsHead, load_width}
use Rattle.lb_dump.specs.Elements.{AreOf, BreaksElement, behind, body_of, elements_of}

read_in : (format : Format) (procs count : ℕ) (loads : List ℕ) (sizes : List (ℕ × ℕ)) (more : List ℕ) → procs ≤ PES
    → AreKept (load_width format) procs loads sizes → length loads ≤ count
    → judge (elements (load_width format) procs 0 count (behind format count)) (elements_text (load_width format) loads sizes ++ more)
    ≡ judge (elements (load_width format) procs (length loads) (count - length loads) (behind format count)) more
read_in Lbd1 procs count loads sizes more few kept within =
    let left : count ≡ length loads + (count - length loads) = omega arith in
    let at : 0 + length loads ≡ length loads = omega arith in
    ap (λ n. judge (elements w32 procs 0 n End) (elements_text w32 loads sizes ++ more)) left
    ∙ elements_taken_word procs 0 (count - length loads) End loads sizes more few kept
    ∙ ap (λ i. judge (elements w32 procs i (count - length loads) End) more) at
read_in Lbd2 procs count loads sizes more few kept within =
    let left : count ≡ length loads + (count - length loads) = omega arith in
    let at : 0 + length loads ≡ length loads = omega arith in
    ap (λ n. judge (elements w64 procs 0 n (ending count)) (elements_text w64 loads sizes ++ more)) left
    ∙ elements_taken_long procs 0 (count - length loads) (ending count) loads sizes more few kept
    ∙ ap (λ i. judge (elements w64 procs i (count - length loads) (ending count)) more) at

-- where more elements have to follow, the next one comes first
pub next_element : (w : Width) (procs i n : ℕ) (next : Layout) → 0 < n → elements w procs i n next ≡ element w procs i (elements w procs (i + 1) (n - 1) next)
unfolding elements
next_element w procs i n next some =
    let one_more : n ≡ suc (n - 1) = omega arith in
    ap (λ m. elements w procs i m next) one_more

module _ (h : Head) (loads : List ℕ) (sizes : List (ℕ × ℕ)) (is : IsHead h) (kept : AreOf h loads sizes) where
  -- these elements, and then more
  pub elements_read : (more : List ℕ) → length loads ≤ h.count
      → judge (body_of h) (elements_of h loads sizes ++ more) ≡ judge
      (elements (load_width h.format) h.procs (length loads) (h.count - length loads) (behind h.format h.count)) more
  elements_read more within = read_in h.format h.procs h.count loads sizes more is.few_pes kept within

  -- these elements, and the next one
  pub next_read : (more : List ℕ) → length loads < h.count
      → judge (body_of h) (elements_of h loads sizes ++ more) ≡ judge
      (element (load_width h.format) h.procs (length loads)
      (elements (load_width h.format) h.procs (length loads + 1) (h.count - length loads - 1) (behind h.format h.count))) more
  next_read more inside =
      elements_read more (omega arith)
      ∙ ap (λ l. judge l more) (next_element (load_width h.format) h.procs (length loads) (h.count - length loads) (behind h.format h.count) (omega arith))

  -- the fault of the next element, whatever follows
  pub next_breaks : (front after : List ℕ) (e : DumpError) → length loads < h.count → BreaksElement h.format h.procs (length loads) front e
      → judge (body_of h) (elements_of h loads sizes ++ (front ++ after)) ≡ Broken e
  next_breaks front after e inside breaks =
      let rest : Layout = elements (load_width h.format) h.procs (length loads + 1) (h.count - length loads - 1) (behind h.format h.count) in
      next_read (front ++ after) inside ∙ broken_stays (element (load_width h.format) h.procs (length loads) rest) front after e (breaks rest)

-- one item more
pub grown : {X : Type 0} (xs more : List X) (x : X) → more ≡ xs ++ x ∷ [] → length more ≡ length xs + 1
grown xs more x is = ap length is ∙ length-append xs (x ∷ [])

pub only : {X : Type 0} (P : X → Type 0) (x : X) → P x → All P (x ∷ [])
only P x holds zero d inside = holds
only P x holds (suc k) d inside = absurd (omega arith)

-- one element more
module _ (w : Width) (procs : ℕ) (loads more : List ℕ) (sizes pairs : List (ℕ × ℕ)) (load size place : ℕ)
    (kept : AreKept w procs loads sizes) (loads_are : more ≡ loads ++ load ∷ []) (sizes_are : pairs ≡ sizes ++ (size, place) ∷ []) where
  pub kept_next : load ≤ LOAD → load < 2 ^ bits w → size ≤ STATE_BYTES → place < procs → AreKept w procs more pairs
  kept_next light fits small placed =
      record {
        paired = rw (loads_are, sizes_are) (omega (arith, length-append loads (load ∷ []), length-append sizes ((size, place) ∷ []), kept.paired));
        loads_fit = rw loads_are (All-append (λ (n : ℕ). n ≤ LOAD) loads (load ∷ []) kept.loads_fit (only (λ (n : ℕ). n ≤ LOAD) load light));
        loads_spelled = rw loads_are (All-append (λ (n : ℕ). n < 2 ^ bits w) loads (load ∷ []) kept.loads_spelled (only (λ (n : ℕ). n < 2 ^ bits w) load fits));
        sizes_fit = rw sizes_are (All-append (λ (s : ℕ × ℕ). s.0 ≤ STATE_BYTES) sizes ((size, place) ∷ []) kept.sizes_fit
            (only (λ (s : ℕ × ℕ). s.0 ≤ STATE_BYTES) (size, place) small));
        places_fit = rw sizes_are (All-append (λ (s : ℕ × ℕ). s.1 < procs) sizes ((size, place) ∷ []) kept.places_fit (only (λ (s : ℕ × ℕ). s.1 < procs) (size, place) placed));
      }

  pub joined_next : (element after rest text : List ℕ) → element ≡ element_text w load (size, place) → rest ≡ element ++ after
      → elements_text w loads sizes ++ rest ≡ text → elements_text w more pairs ++ after ≡ text
  joined_next element after rest text spelled parts joined =
      let longer : elements_text w more pairs ≡ elements_text w loads sizes ++ element =
      rw (loads_are, sizes_are) (elements_text_more w loads sizes load (size, place) (sym kept.paired)) ∙ ap (λ t. elements_text w loads sizes ++ t) (sym spelled) in
      ap (λ t. t ++ after) longer ∙ append_assoc (elements_text w loads sizes) element after ∙ ap (λ t. elements_text w loads sizes ++ t) (sym parts) ∙ joined

-- The fault of the element after those that were taken is that of the text.
pub fault_behind : (h : Head) (loads old : List ℕ) (sizes olds : List (ℕ × ℕ)) (n : ℕ) (element after rest bytes : List ℕ) (e : DumpError)
    → IsHead h → AreOf h loads sizes → length loads < h.count → n ≡ length loads
    → BreaksElement h.format h.procs n element e → rest ≡ element ++ after → elements_of h loads sizes ++ rest ≡ elements_of h old olds
    ++ bytes → judge (body_of h) (elements_of h old olds ++ bytes) ≡ Broken e
fault_behind h loads old sizes olds n element after rest bytes e is kept inside at breaks parts joined =
    ap (judge (body_of h)) (sym joined ∙ ap (λ t. elements_of h loads sizes ++ t) parts)
    ∙ next_breaks h loads sizes is kept element after e inside (subst (λ i. BreaksElement h.format h.procs i element e) at breaks)
