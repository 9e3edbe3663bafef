-- How a text is judged, field by field.
use Rattle.std.proofs.Common.{◌≡◌, ℕ, zero, suc, ◌+◌, ◌-◌, ◌*◌, ◌^◌, ◌<◌, ◌≤◌, List, [], ◌∷◌, ◌++◌, length, drop, append_assoc, ℤ, refl, ap, sym, ◌∙◌, Option, Some, None, Bool, true, false, ltb, inl, inr, lit<, arith}
use Rattle.std.specs.Prelude.{◌&&◌, All, flat_map, nat_le, nat_lt, slice_index}
use Rattle.std.specs.Int.{Width, w8, w16, w32, w64, w128, byte_len, byte_worth, sum_through, from_be_bytes, to_be_bytes}
use mir.Val.{bits}
use Rattle.std.proofs.lemmas.Bool.{and_from, cases_lt, le-leb, le-ltb, lt-ltb}
use Rattle.std.proofs.lemmas.List.{drop-append-le, drop_all, get_or_append_left, length-append, length-drop, nil_from_length}
use Rattle.std.proofs.lemmas.List.Elements.{All-head, All-tail}
use Rattle.std.proofs.lemmas.Nat.{from_be_bytes-to_be_bytes_4, from_be_bytes-to_be_bytes_8}
use Rattle.std.proofs.Math.Nat.{suc-add, suc-mul, zero-mul}
use Rattle.chare_index.specs.declared.limits.TheConstants.Limits.{ELEMENTS, LOAD, PES, STATE_BYTES}
use Rattle.lb_certificates.specs.declared.division.Floor.{Floor}
use Rattle.lb_certificates.specs.declared.division.Floor.TheVariants.{Zero, Fence}
use Rattle.lb_certificates.specs.Certificate.{MatchFloor}
use Rattle.dump_format.specs.Dumps.{AreFields, IsRecorded}
use Rattle.dump_format.specs.Fields.{after_floor, body, decision, dump, element, elements, ending, move, moves, numbers, pes, unless}
use Rattle.dump_format.specs.Kept.{AreKept}
use Rattle.dump_format.specs.Layout.{Layout, End, Field, Verdict, Whole, Unfinished, Broken, judge}
use Rattle.dump_format.specs.Text.{word, long, price, magic_1, magic_2, element_text, elements_text, floor_text, move_text, plan_text}
use Rattle.dump_format.specs.declared.error.DumpError.{DumpError}
use Rattle.dump_format.specs.declared.error.DumpError.TheVariants.{Count, Floor as BadFloor, Load, Move, MoveCount, Place, Size}
use Rattle.dump_format.specs.declared.recorded.Recorded.{Recorded}
use Rattle.dump_format.proofs.Spelling.{nine_grouped, number_length, prices_length, words_length}

some_bytes : (w : Width) → 0 < byte_len w
some_bytes w8 = lit< tt
some_bytes w16 = lit< tt
some_bytes w32 = lit< tt
some_bytes w64 = lit< tt
some_bytes w128 = lit< tt

same_sums : (f g : ℕ → ℕ) (k : ℕ) → ((i : ℕ) → i ≤ k → f i ≡ g i) → sum_through f k ≡ sum_through g k
same_sums f g zero same = same 0 (omega arith)
same_sums f g (suc k) same = rw (same_sums f g k (λ i within. same i (omega arith)), same (suc k) (omega arith)) refl

-- the number at the front of a text does not depend on what follows it
pub front_number : (w : Width) (text more : List ℕ) → byte_len w ≤ length text → from_be_bytes w (text ++ more) ≡ from_be_bytes w text
front_number w text more fits =
    same_sums (λ i. byte_worth (byte_len w - 1 - i) (slice_index (text ++ more) i)) (λ i. byte_worth (byte_len w - 1 - i) (slice_index text i)) (byte_len w - 1)
    (λ i within. ap (byte_worth (byte_len w - 1 - i)) (get_or_append_left text more 0 i (omega (arith, some_bytes w))))

-- a rule that is kept gives no fault, and one that is broken gives its own
pub gives_none : (b : Bool) (e : DumpError) → b ≡ true → unless b e ≡ None
gives_none b e is = ap (λ it. unless it e) is

pub gives_fault : (b : Bool) (e : DumpError) → b ≡ false → unless b e ≡ Some e
gives_fault b e is = ap (λ it. unless it e) is

-- what is found where the text ends within a field or does not, with the fault of its number and what is found after it
abbrev found : Bool → Option DumpError → Verdict → Verdict
found short fault rest =
    elim short as (λ _. Verdict) [
      | true ↦ Unfinished
      | false ↦ elim fault as (λ _. Verdict) [ None ↦ rest | Some e ↦ Broken e ]
    ]

module _ (w : Width) (fault : ℕ → Option DumpError) (next : ℕ → Layout) (text : List ℕ) where
  judge_field : judge (Field w fault next) text ≡ found (ltb (length text) (byte_len w)) (fault (from_be_bytes w text))
      (judge (next (from_be_bytes w text)) (drop (byte_len w) text))
  unfolding judge
  judge_field = refl

  pub field_short : length text < byte_len w → judge (Field w fault next) text ≡ Unfinished
  field_short short = judge_field ∙ ap (λ b. found b (fault (from_be_bytes w text))
      (judge (next (from_be_bytes w text)) (drop (byte_len w) text))) (lt-ltb (length text) (byte_len w) short)

  field_long : byte_len w ≤ length text → judge (Field w fault next) text ≡ found false (fault (from_be_bytes w text))
      (judge (next (from_be_bytes w text)) (drop (byte_len w) text))
  field_long long = judge_field ∙ ap (λ b. found b (fault (from_be_bytes w text))
      (judge (next (from_be_bytes w text)) (drop (byte_len w) text))) (le-ltb (length text) (byte_len w) long)

  pub field_taken : byte_len w ≤ length text → fault (from_be_bytes w text) ≡ None → judge (Field w fault next) text ≡ judge (next (from_be_bytes w text)) (drop (byte_len w) text)
  field_taken long good = field_long long ∙ ap (λ o. found false o (judge (next (from_be_bytes w text)) (drop (byte_len w) text))) good

  pub field_broken : (e : DumpError) → byte_len w ≤ length text → fault (from_be_bytes w text) ≡ Some e → judge (Field w fault next) text ≡ Broken e
  field_broken e long bad = field_long long ∙ ap (λ o. found false o (judge (next (from_be_bytes w text)) (drop (byte_len w) text))) bad

-- a field whose number is good, where more text follows
pub front_taken : (w : Width) (fault : ℕ → Option DumpError) (next : ℕ → Layout) (text more : List ℕ) → byte_len w ≤ length text → fault (from_be_bytes w text) ≡ None
    → judge (Field w fault next) (text ++ more) ≡ judge (next (from_be_bytes w text)) (drop (byte_len w) text ++ more)
front_taken w fault next text more long good =
    let number = front_number w text more long in
    let enough : byte_len w ≤ length (text ++ more) = omega (arith, length-append text more) in
    field_taken w fault next (text ++ more) enough (ap fault number ∙ good)
    ∙ ap (λ n. judge (next n) (drop (byte_len w) (text ++ more))) number
    ∙ ap (judge (next (from_be_bytes w text))) (drop-append-le (byte_len w) text more long)

pub front_broken : (w : Width) (fault : ℕ → Option DumpError) (next : ℕ → Layout) (text more : List ℕ) (e : DumpError)
    → byte_len w ≤ length text → fault (from_be_bytes w text) ≡ Some e
    → judge (Field w fault next) (text ++ more) ≡ Broken e
front_broken w fault next text more e long bad =
    let enough : byte_len w ≤ length (text ++ more) = omega (arith, length-append text more) in
    field_broken w fault next (text ++ more) e enough (ap fault (front_number w text more long) ∙ bad)

field_stays : (w : Width) (fault : ℕ → Option DumpError) (next : ℕ → Layout) (text more : List ℕ) (e : DumpError)
    → ((n : ℕ) (rest : List ℕ) → judge (next n) rest ≡ Broken e → judge (next n) (rest ++ more) ≡ Broken e)
    → judge (Field w fault next) text ≡ Broken e → judge (Field w fault next) (text ++ more) ≡ Broken e
field_stays w fault next text more e stays broken =
    elim (cases_lt (length text) (byte_len w)) [
      | inl short ↦ absurd (let h = field_short w fault next text short in cc)
      | inr long ↦ by_fault (fault (from_be_bytes w text)) refl long
    ]
  where
    by_fault : (o : Option DumpError) → fault (from_be_bytes w text) ≡ o → byte_len w ≤ length text → judge (Field w fault next) (text ++ more) ≡ Broken e
    by_fault None good long =
        front_taken w fault next text more long good
        ∙ stays (from_be_bytes w text) (drop (byte_len w) text) (sym (field_taken w fault next text long good) ∙ broken)
    by_fault (Some f) bad long =
        let other = field_broken w fault next text f long bad in
        let same : f ≡ e = cc in
        front_broken w fault next text more e long (bad ∙ ap Some same)

-- a byte that is added to a broken text does not mend it
pub broken_stays : (l : Layout) (text more : List ℕ) (e : DumpError) → judge l text ≡ Broken e → judge l (text ++ more) ≡ Broken e
unfolding judge
broken_stays End [] more e broken = absurd (let h : Whole ≡ Broken e = broken in cc)
broken_stays End (byte ∷ bytes) more e broken = broken
broken_stays (Field w fault next) text more e broken = field_stays w fault next text more e (λ n rest. broken_stays (next n) rest more e) broken

-- a number, and then more
number_taken : (w : Width) (fault : ℕ → Option DumpError) (next : ℕ → Layout) (n : ℕ) (number more : List ℕ) → length number ≡ byte_len w
    → from_be_bytes w number ≡ n → fault n ≡ None
    → judge (Field w fault next) (number ++ more) ≡ judge (next n) more
number_taken w fault next n number more len is good =
    front_taken w fault next number more (omega arith) (ap fault is ∙ good)
    ∙ ap (λ m. judge (next m) (drop (byte_len w) number ++ more)) is
    ∙ ap (λ rest. judge (next n) (rest ++ more)) (drop_all (byte_len w) number (omega arith))

number_broken : (w : Width) (fault : ℕ → Option DumpError) (next : ℕ → Layout) (n : ℕ) (number more : List ℕ) (e : DumpError)
    → length number ≡ byte_len w → from_be_bytes w number ≡ n → fault n ≡ Some e
    → judge (Field w fault next) (number ++ more) ≡ Broken e
number_broken w fault next n number more e len is bad = front_broken w fault next number more e (omega arith) (ap fault is ∙ bad)

module _ (fault : ℕ → Option DumpError) (next : ℕ → Layout) where
  pub byte_taken : (b : ℕ) (more : List ℕ) → fault b ≡ None → judge (Field w8 fault next) (b ∷ more) ≡ judge (next b) more
  byte_taken b more good = number_taken w8 fault next b (b ∷ []) more refl refl good

  pub byte_broken : (b : ℕ) (more : List ℕ) (e : DumpError) → fault b ≡ Some e → judge (Field w8 fault next) (b ∷ more) ≡ Broken e
  byte_broken b more e bad = number_broken w8 fault next b (b ∷ []) more e refl refl bad

  pub word_taken : (n : ℕ) (more : List ℕ) → n < 2 ^ 32 → fault n ≡ None → judge (Field w32 fault next) (to_be_bytes w32 n ++ more) ≡ judge (next n) more
  word_taken n more fits good = number_taken w32 fault next n (to_be_bytes w32 n) more refl (from_be_bytes-to_be_bytes_4 n fits) good

  pub long_taken : (n : ℕ) (more : List ℕ) → n < 2 ^ 64 → fault n ≡ None → judge (Field w64 fault next) (to_be_bytes w64 n ++ more) ≡ judge (next n) more
  long_taken n more fits good = number_taken w64 fault next n (to_be_bytes w64 n) more refl (from_be_bytes-to_be_bytes_8 n fits) good

-- numbers without a rule
pub numbers_taken : (w : Width) (n : ℕ) (next : Layout) (bytes more : List ℕ) → length bytes ≡ n * byte_len w → judge (numbers w n next) (bytes ++ more) ≡ judge next more
unfolding numbers
numbers_taken w zero next bytes more len = ap (λ front. judge next (front ++ more)) (nil_from_length bytes (len ∙ zero-mul (byte_len w)))
numbers_taken w (suc n) next bytes more len =
    let len' : length bytes ≡ n * byte_len w + byte_len w = len ∙ suc-mul n (byte_len w) in
    front_taken w (λ _. None) (λ _. numbers w n next) bytes more (omega arith) refl
    ∙ numbers_taken w n next (drop (byte_len w) bytes) more (length-drop (byte_len w) bytes ∙ omega arith)

pub numbers_short : (w : Width) (n : ℕ) (next : Layout) (bytes : List ℕ) → length bytes < n * byte_len w → judge (numbers w n next) bytes ≡ Unfinished
unfolding numbers
numbers_short w zero next bytes short = absurd (omega (arith, zero-mul (byte_len w)))
numbers_short w (suc n) next bytes short =
    let short' : length bytes < n * byte_len w + byte_len w = omega (arith, suc-mul n (byte_len w)) in
    elim (cases_lt (length bytes) (byte_len w)) [
      | inl less ↦ field_short w (λ _. None) (λ _. numbers w n next) bytes less
      | inr long ↦
          field_taken w (λ _. None) (λ _. numbers w n next) bytes long refl
          ∙ numbers_short w n next (drop (byte_len w) bytes) (omega (arith, length-drop (byte_len w) bytes))
    ]

-- an element, and then more
element_taken : (w : Width) (procs i : ℕ) (next : Layout) (load : ℕ) (size : ℕ × ℕ) (more : List ℕ) → from_be_bytes w (to_be_bytes w load) ≡ load → procs ≤ PES
    → load ≤ LOAD → size.0 ≤ STATE_BYTES → size.1 < procs → judge (element w procs i next) (element_text w load size ++ more) ≡ judge next more
element_taken w procs i next load size more spelled few light small placed =
    ap (judge (element w procs i next)) (append_assoc (to_be_bytes w load) (word size.0 ++ word size.1) more)
    ∙ number_taken w _ _ load (to_be_bytes w load) ((word size.0 ++ word size.1) ++ more) (number_length w load) spelled
    (gives_none (nat_le load LOAD) (Load i) (le-leb load LOAD light))
    ∙ ap (judge _) (append_assoc (word size.0) (word size.1) more)
    ∙ word_taken _ _ size.0 (word size.1 ++ more) (omega arith) (gives_none (nat_le size.0 STATE_BYTES) (Size i) (le-leb size.0 STATE_BYTES small))
    ∙ word_taken _ _ size.1 more (omega arith) (gives_none (nat_lt size.1 procs) (Place i) (lt-ltb size.1 procs placed))

kept_tail : (w : Width) (procs load : ℕ) (loads : List ℕ) (size : ℕ × ℕ) (sizes : List (ℕ × ℕ)) → AreKept w procs (load ∷ loads) (size ∷ sizes) → AreKept w procs loads sizes
kept_tail w procs load loads size sizes kept =
    record {
      paired = omega (arith, kept.paired);
      loads_fit = All-tail (λ (load : ℕ). load ≤ LOAD) load loads kept.loads_fit;
      loads_spelled = All-tail (λ (load : ℕ). load < 2 ^ bits w) load loads kept.loads_spelled;
      sizes_fit = All-tail (λ (size : ℕ × ℕ). size.0 ≤ STATE_BYTES) size sizes kept.sizes_fit;
      places_fit = All-tail (λ (size : ℕ × ℕ). size.1 < procs) size sizes kept.places_fit;
    }

-- some elements, and then more, where each number of this width is determined by its bytes
elements_taken : (w : Width) → ((n : ℕ) → n < 2 ^ bits w → from_be_bytes w (to_be_bytes w n) ≡ n)
    → (procs i n : ℕ) (next : Layout) (loads : List ℕ) (sizes : List (ℕ × ℕ)) (more : List ℕ) → procs ≤ PES → AreKept w procs loads sizes
    → judge (elements w procs i (length loads + n) next) (elements_text w loads sizes ++ more) ≡ judge (elements w procs (i + length loads) n next) more
unfolding elements_text elements
elements_taken w spells procs i n next [] sizes more few kept =
    let at : i ≡ i + 0 = omega arith in
    let left : 0 + n ≡ n = omega arith in
    ap (λ m. judge (elements w procs i m next) more) left ∙ ap (λ j. judge (elements w procs j n next) more) at
elements_taken w spells procs i n next (load ∷ loads) [] more few kept = absurd (omega (arith, kept.paired))
elements_taken w spells procs i n next (load ∷ loads) (size ∷ sizes) more few kept =
    let rest : Layout = elements w procs (i + 1) (length loads + n) next in
    let at : i + 1 + length loads ≡ i + suc (length loads) = omega arith in
    ap (λ m. judge (elements w procs i m next) ((element_text w load size ++ elements_text w loads sizes) ++ more)) (suc-add (length loads) n)
    ∙ ap (judge (element w procs i rest)) (append_assoc (element_text w load size) (elements_text w loads sizes) more)
    ∙ element_taken w procs i rest load size (elements_text w loads sizes ++ more)
    (spells load (All-head (λ (load : ℕ). load < 2 ^ bits w) load loads kept.loads_spelled))
    few
    (All-head (λ (load : ℕ). load ≤ LOAD) load loads kept.loads_fit)
    (All-head (λ (size : ℕ × ℕ). size.0 ≤ STATE_BYTES) size sizes kept.sizes_fit)
    (All-head (λ (size : ℕ × ℕ). size.1 < procs) size sizes kept.places_fit)
    ∙ elements_taken w spells procs (i + 1) n next loads sizes more few (kept_tail w procs load loads size sizes kept)
    ∙ ap (λ j. judge (elements w procs j n next) more) at

pub elements_taken_word : (procs i n : ℕ) (next : Layout) (loads : List ℕ) (sizes : List (ℕ × ℕ)) (more : List ℕ) → procs ≤ PES → AreKept w32 procs loads sizes
    → judge (elements w32 procs i (length loads + n) next) (elements_text w32 loads sizes ++ more) ≡ judge (elements w32 procs (i + length loads) n next) more
elements_taken_word procs i n next loads sizes more few kept = elements_taken w32 from_be_bytes-to_be_bytes_4 procs i n next loads sizes more few kept

pub elements_taken_long : (procs i n : ℕ) (next : Layout) (loads : List ℕ) (sizes : List (ℕ × ℕ)) (more : List ℕ) → procs ≤ PES → AreKept w64 procs loads sizes
    → judge (elements w64 procs i (length loads + n) next) (elements_text w64 loads sizes ++ more) ≡ judge (elements w64 procs (i + length loads) n next) more
elements_taken_long procs i n next loads sizes more few kept = elements_taken w64 from_be_bytes-to_be_bytes_8 procs i n next loads sizes more few kept

-- a move, and then more
move_taken : (count k : ℕ) (next : Layout) (index present planned : ℕ) (more : List ℕ) → count ≤ ELEMENTS → index < count → present < PES → planned < PES
    → judge (move count k next) (move_text (index, present, planned) ++ more) ≡ judge next more
move_taken count k next index present planned more few inside here there =
    ap (judge (move count k next)) (append_assoc (word index) (word present ++ word planned) more)
    ∙ word_taken _ _ index ((word present ++ word planned) ++ more) (omega arith) (gives_none (nat_lt index count) (Move k) (lt-ltb index count inside))
    ∙ ap (judge _) (append_assoc (word present) (word planned) more)
    ∙ word_taken _ _ present (word planned ++ more) (omega arith) (gives_none (nat_lt present PES) (Move k) (lt-ltb present PES here))
    ∙ word_taken _ _ planned more (omega arith) (gives_none (nat_lt planned PES) (Move k) (lt-ltb planned PES there))

pub moves_taken : (count k n : ℕ) (list : List (ℕ × ℕ × ℕ)) (more : List ℕ) → count ≤ ELEMENTS → All (λ m. m.0 < count) list → All (λ m. m.1 < PES) list → All (λ m. m.2 < PES) list
    → judge (moves count k (length list + n)) (flat_map move_text list ++ more) ≡ judge (moves count (k + length list) n) more
unfolding moves
moves_taken count k n [] more few inside here there =
    let at : k ≡ k + 0 = omega arith in
    let left : 0 + n ≡ n = omega arith in
    ap (λ m. judge (moves count k m) more) left ∙ ap (λ j. judge (moves count j n) more) at
moves_taken count k n (m ∷ list) more few inside here there =
    let rest : Layout = moves count (k + 1) (length list + n) in
    let at : k + 1 + length list ≡ k + suc (length list) = omega arith in
    ap (λ left. judge (moves count k left) ((move_text m ++ flat_map move_text list) ++ more)) (suc-add (length list) n)
    ∙ ap (judge (move count k rest)) (append_assoc (move_text m) (flat_map move_text list) more)
    ∙ move_taken count k rest m.0 m.1 m.2 (flat_map move_text list ++ more) few
    (All-head (λ (m : ℕ × ℕ × ℕ). m.0 < count) m list inside)
    (All-head (λ (m : ℕ × ℕ × ℕ). m.1 < PES) m list here)
    (All-head (λ (m : ℕ × ℕ × ℕ). m.2 < PES) m list there)
    ∙ moves_taken count (k + 1) n list more few
    (All-tail (λ (m : ℕ × ℕ × ℕ). m.0 < count) m list inside)
    (All-tail (λ (m : ℕ × ℕ × ℕ). m.1 < PES) m list here)
    (All-tail (λ (m : ℕ × ℕ × ℕ). m.2 < PES) m list there)
    ∙ ap (λ j. judge (moves count j n) more) at

-- a number of PEs, and then more
pub pes_taken : (fault : DumpError) (next : ℕ → Layout) (n : ℕ) (more : List ℕ) → 0 < n → n ≤ PES → judge (pes fault next) (word n ++ more) ≡ judge (next n) more
pes_taken fault next n more some few = word_taken _ _ n more (omega arith)
    (gives_none (nat_lt 0 n && nat_le n PES) fault (and_from (nat_lt 0 n) (nat_le n PES) (lt-ltb 0 n some) (le-leb n PES few)))

words_taken : (n : ℕ) (next : Layout) (words : List ℕ) (more : List ℕ) → length words ≡ n → judge (numbers w32 n next) (flat_map word words ++ more) ≡ judge next more
words_taken n next words more len = numbers_taken w32 n next (flat_map word words) more (words_length words ∙ omega arith)

prices_taken : (n : ℕ) (next : Layout) (prices : List ℤ) (more : List ℕ) → length prices ≡ n → judge (numbers w64 n next) (flat_map price prices ++ more) ≡ judge next more
prices_taken n next prices more len = numbers_taken w64 n next (flat_map price prices) more (prices_length prices ∙ omega arith)

-- a floor, and then more: a floor of kind 0 has no stops
floor_taken : {A : Type 0} (count target : ℕ) (floor : Floor A) (more : List ℕ) → MatchFloor floor (Unit {0}) (λ stops. length stops ≡ target + 1)
    → judge (Field w32 (λ kind. unless (nat_le kind 1) BadFloor) (λ kind. after_floor count target kind)) (floor_text floor ++ more) ≡ judge (after_floor count target 0) more
unfolding numbers
floor_taken count target Zero more is = word_taken _ _ 0 more (omega arith) refl
floor_taken count target (Fence stops) more is =
    ap (judge _) (append_assoc (word 1) (flat_map word stops) more)
    ∙ word_taken _ _ 1 (flat_map word stops ++ more) (omega arith) refl
    ∙ words_taken (target + 1) (after_floor count target 0) stops more is

-- a decision up to its moves, and then more
pub plan_taken : {A : Type 0} (count : ℕ) (r : Recorded A) (more : List ℕ) → IsRecorded count r → AreFields r → count ≤ ELEMENTS
    → judge (decision count) (plan_text r ++ more) ≡ judge (moves count 0 (length r.decision.moves)) more
unfolding plan_text numbers
plan_taken count r more is fits few =
    let t = r.target in
    let division = r.decision.division in
    let prices = r.decision.prices in
    let cuts : List ℕ = flat_map word division.cuts in
    let names : List ℕ = flat_map word r.decision.naming in
    let u : List ℕ = flat_map price prices.u in
    let v : List ℕ = flat_map price prices.v in
    let moved : List ℕ = long r.decision.moved in
    let n : List ℕ = word (length r.decision.moves) in
    ap (judge (decision count)) (nine_grouped (word t) (long division.bottleneck) cuts (floor_text division.floor) names u v moved n more)
    ∙ pes_taken _ _ t _ is.some_target is.few_targets
    ∙ long_taken _ _ division.bottleneck _ fits.bottleneck refl
    ∙ words_taken (t + 1) _ division.cuts _ is.cuts
    ∙ floor_taken count t division.floor _ is.stops
    ∙ words_taken t _ r.decision.naming _ is.names
    ∙ prices_taken t _ prices.u _ is.block_prices
    ∙ prices_taken t _ prices.v _ is.pe_prices
    ∙ long_taken _ _ r.decision.moved _ fits.moved refl
    ∙ word_taken _ _ (length r.decision.moves) more (omega (arith, is.few_moves))
    (gives_none (nat_le (length r.decision.moves) count) MoveCount (le-leb (length r.decision.moves) count is.few_moves))

-- the head of a snapshot after the magic, and then more
body_taken : (w : Width) (behind : ℕ → Layout) (step procs n : ℕ) (more : List ℕ) → 0 < procs → procs ≤ PES → step < 2 ^ 32 → n ≤ ELEMENTS
    → judge (body w behind) ((word step ++ (word procs ++ word n)) ++ more) ≡ judge (elements w procs 0 n (behind n)) more
body_taken w behind step procs n more some few fits count =
    ap (judge (body w behind)) (append_assoc (word step) (word procs ++ word n) more)
    ∙ word_taken _ _ step ((word procs ++ word n) ++ more) fits refl
    ∙ ap (judge _) (append_assoc (word procs) (word n) more)
    ∙ pes_taken _ _ procs (word n ++ more) some few
    ∙ word_taken _ _ n more (omega arith) (gives_none (nat_le n ELEMENTS) Count (le-leb n ELEMENTS count))

-- the magic and the head of either format, and then more
pub head_taken_1 : (step procs n : ℕ) (more : List ℕ) → 0 < procs → procs ≤ PES → step < 2 ^ 32 → n ≤ ELEMENTS
    → judge dump (magic_1 ++ ((word step ++ (word procs ++ word n)) ++ more)) ≡ judge (elements w32 procs 0 n End) more
head_taken_1 step procs n more some few fits count =
    let rest : List ℕ = (word step ++ (word procs ++ word n)) ++ more in
    byte_taken _ _ 76 (66 ∷ 68 ∷ 49 ∷ rest) refl
    ∙ byte_taken _ _ 66 (68 ∷ 49 ∷ rest) refl
    ∙ byte_taken _ _ 68 (49 ∷ rest) refl
    ∙ byte_taken _ _ 49 rest refl
    ∙ body_taken w32 (λ _. End) step procs n more some few fits count

pub head_taken_2 : (step procs n : ℕ) (more : List ℕ) → 0 < procs → procs ≤ PES → step < 2 ^ 32 → n ≤ ELEMENTS
    → judge dump (magic_2 ++ ((word step ++ (word procs ++ word n)) ++ more)) ≡ judge (elements w64 procs 0 n (ending n)) more
head_taken_2 step procs n more some few fits count =
    let rest : List ℕ = (word step ++ (word procs ++ word n)) ++ more in
    byte_taken _ _ 76 (66 ∷ 68 ∷ 50 ∷ rest) refl
    ∙ byte_taken _ _ 66 (68 ∷ 50 ∷ rest) refl
    ∙ byte_taken _ _ 68 (50 ∷ rest) refl
    ∙ byte_taken _ _ 50 rest refl
    ∙ body_taken w64 ending step procs n more some few fits count

-- the flag after the elements of LBD2, and then more
pub no_decision_taken : (count : ℕ) (more : List ℕ) → judge (ending count) (word 0 ++ more) ≡ judge End more
no_decision_taken count more = word_taken _ _ 0 more (omega arith) refl

pub decision_taken : (count : ℕ) (more : List ℕ) → judge (ending count) (word 1 ++ more) ≡ judge (decision count) more
decision_taken count more = word_taken _ _ 1 more (omega arith) refl
