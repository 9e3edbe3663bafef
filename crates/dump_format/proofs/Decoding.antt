-- Bytes that are judged whole, field by field: each field is turned back into its number.
use Rattle.std.proofs.Common.{◌≡◌, ℕ, zero, suc, ◌+◌, ◌^◌, ◌<◌, ◌≤◌, List, [], ◌∷◌, ◌++◌, length, drop, append_assoc, ℤ, Option, Some, None, Bool, true, false, inl, inr, refl, ap, sym, ◌∙◌}
use Rattle.std.specs.Prelude.{All, FitsSigned, flat_map, map, nat_le, nat_lt}
use Rattle.std.specs.Int.{Width, w32, w64, byte_len, cast_signed, from_be_bytes, to_be_bytes}
use mir.Val.{bits}
use mir.ValLaws.{to_z-Fits}
use Rattle.std.proofs.lemmas.Bool.{cases_lt, leb-true, ltb-true}
use Rattle.std.proofs.lemmas.Int.{of_z-to_z}
use Rattle.std.proofs.lemmas.List.Elements.{All-cons, All-head, All-nil, All-tail}
use Rattle.chare_index.specs.declared.limits.TheConstants.Limits.{LOAD, PES, STATE_BYTES}
use Rattle.dump_format.specs.Dumps.{ArePrices}
use Rattle.dump_format.specs.Fields.{element, elements, moves, numbers, unless}
use Rattle.dump_format.specs.Kept.{AreKept}
use Rattle.dump_format.specs.Layout.{Layout, End, Field, Whole, judge}
use Rattle.dump_format.specs.Text.{element_text, elements_text, long, move_text, price, word}
use Rattle.dump_format.specs.declared.error.DumpError.{DumpError}
use Rattle.dump_format.specs.declared.error.DumpError.TheVariants.{Load, Move, Place, Size}
use Rattle.dump_format.proofs.Bytes.{AreBytes, Reads, bytes_behind, reads_word, split_front}
use Rattle.dump_format.proofs.Judging.{field_broken, field_short, field_taken}

-- the number of the first field, which keeps its rule, and what follows it
pub record Front (w : Width) (fault : ℕ → Option DumpError) (next : ℕ → Layout) (text : List ℕ) : Type 0 where
  pub number : ℕ
  pub rest : List ℕ
  pub spelled : text ≡ to_be_bytes w number ++ rest
  pub fits : number < 2 ^ bits w
  pub kept : fault number ≡ None
  pub bytes : AreBytes rest
  pub whole : judge (next number) rest ≡ Whole

pub front : (w : Width) (reads : Reads w) (fault : ℕ → Option DumpError) (next : ℕ → Layout) (text : List ℕ) → AreBytes text
    → judge (Field w fault next) text ≡ Whole → Front w fault next text
front w reads fault next text are whole =
    elim (cases_lt (length text) (byte_len w)) [
      | inl short ↦ absurd (let h = field_short w fault next text short in cc)
      | inr long ↦ by_fault (fault (from_be_bytes w text)) refl long
    ]
  where
    by_fault : (o : Option DumpError) → fault (from_be_bytes w text) ≡ o → byte_len w ≤ length text → Front w fault next text
    by_fault None good long =
        let (spelled, fits) = split_front w reads text are long in
        record {
          number = from_be_bytes w text;
          rest = drop (byte_len w) text;
          spelled = spelled;
          fits = fits;
          kept = good;
          bytes = bytes_behind (byte_len w) text are;
          whole = sym (field_taken w fault next text long good) ∙ whole;
        }
    by_fault (Some e) bad long = absurd (let h = field_broken w fault next text e long bad in cc)

-- a rule that is kept
pub kept_rule : (b : Bool) (e : DumpError) → unless b e ≡ None → b ≡ true
kept_rule true e kept = refl
kept_rule false e kept = absurd (let h : Some e ≡ None = kept in cc)

-- nothing follows the last field
pub at_end : (text : List ℕ) → judge End text ≡ Whole → text ≡ []
unfolding judge
at_end [] whole = refl
at_end (byte ∷ bytes) whole = absurd (let h = whole in cc)

-- `count` numbers
pub record Numbers (w : Width) (count : ℕ) (next : Layout) (text : List ℕ) : Type 0 where
  pub numbers : List ℕ
  pub rest : List ℕ
  pub counted : length numbers ≡ count
  pub spelled : text ≡ flat_map (to_be_bytes w) numbers ++ rest
  pub fit : All (λ n. n < 2 ^ bits w) numbers
  pub bytes : AreBytes rest
  pub whole : judge next rest ≡ Whole

pub read_numbers : (w : Width) (reads : Reads w) (count : ℕ) (next : Layout) (text : List ℕ) → AreBytes text → judge (numbers w count next) text ≡ Whole → Numbers w count next text
unfolding numbers
read_numbers w reads zero next text are whole =
    record { numbers = []; rest = text; counted = refl; spelled = refl; fit = All-nil (λ (n : ℕ). n < 2 ^ bits w); bytes = are; whole = whole }
read_numbers w reads (suc count) next text are whole =
    let first = front w reads (λ _. None) (λ _. numbers w count next) text are whole in
    let others = read_numbers w reads count next first.rest first.bytes first.whole in
    record {
      numbers = first.number ∷ others.numbers;
      rest = others.rest;
      counted = ap suc others.counted;
      spelled = first.spelled ∙ ap (λ (rest : List ℕ). to_be_bytes w first.number ++ rest) others.spelled
          ∙ sym (append_assoc (to_be_bytes w first.number) (flat_map (to_be_bytes w) others.numbers) others.rest);
      fit = All-cons (λ (n : ℕ). n < 2 ^ bits w) first.number others.numbers first.fits others.fit;
      bytes = others.bytes;
      whole = others.whole;
    }

-- numbers of eight bytes, as prices
abbrev pub prices_of : List ℕ → List ℤ
prices_of numbers = map (cast_signed w64) numbers

pub prices_counted : (numbers : List ℕ) → length (prices_of numbers) ≡ length numbers
prices_counted [] = refl
prices_counted (n ∷ numbers) = ap suc (prices_counted numbers)

pub prices_fit : (numbers : List ℕ) → All (λ n. n < 2 ^ 64) numbers → ArePrices (prices_of numbers)
prices_fit [] fit = All-nil (λ (z : ℤ). FitsSigned w64 z)
prices_fit (n ∷ numbers) fit =
    All-cons (λ (z : ℤ). FitsSigned w64 z) (cast_signed w64 n) (prices_of numbers)
    (to_z-Fits w64 n (record { fits = All-head (λ (n : ℕ). n < 2 ^ 64) n numbers fit }))
    (prices_fit numbers (All-tail (λ (n : ℕ). n < 2 ^ 64) n numbers fit))

pub prices_spelled : (numbers : List ℕ) → All (λ n. n < 2 ^ 64) numbers → flat_map long numbers ≡ flat_map price (prices_of numbers)
prices_spelled [] fit = refl
prices_spelled (n ∷ numbers) fit =
    ap (λ (m : ℕ). long m ++ flat_map long numbers) (sym (of_z-to_z w64 n (All-head (λ (n : ℕ). n < 2 ^ 64) n numbers fit)))
    ∙ ap (λ (rest : List ℕ). price (cast_signed w64 n) ++ rest) (prices_spelled numbers (All-tail (λ (n : ℕ). n < 2 ^ 64) n numbers fit))

-- `count` elements
pub record Elements (w : Width) (procs count : ℕ) (next : Layout) (text : List ℕ) : Type 0 where
  pub loads : List ℕ
  pub sizes : List (ℕ × ℕ)
  pub rest : List ℕ
  pub counted : length loads ≡ count
  pub kept : AreKept w procs loads sizes
  pub spelled : text ≡ elements_text w loads sizes ++ rest
  pub bytes : AreBytes rest
  pub whole : judge next rest ≡ Whole

kept_nil : (w : Width) (procs : ℕ) → AreKept w procs [] []
kept_nil w procs =
    record {
      paired = refl;
      loads_fit = All-nil (λ (load : ℕ). load ≤ LOAD);
      loads_spelled = All-nil (λ (load : ℕ). load < 2 ^ bits w);
      sizes_fit = All-nil (λ (size : ℕ × ℕ). size.0 ≤ STATE_BYTES);
      places_fit = All-nil (λ (size : ℕ × ℕ). size.1 < procs);
    }

kept_cons : (w : Width) (procs load : ℕ) (loads : List ℕ) (size : ℕ × ℕ) (sizes : List (ℕ × ℕ)) → load ≤ LOAD → load < 2 ^ bits w → size.0 ≤ STATE_BYTES → size.1 < procs
    → AreKept w procs loads sizes → AreKept w procs (load ∷ loads) (size ∷ sizes)
kept_cons w procs load loads size sizes light fits small placed kept =
    record {
      paired = ap suc kept.paired;
      loads_fit = All-cons (λ (load : ℕ). load ≤ LOAD) load loads light kept.loads_fit;
      loads_spelled = All-cons (λ (load : ℕ). load < 2 ^ bits w) load loads fits kept.loads_spelled;
      sizes_fit = All-cons (λ (size : ℕ × ℕ). size.0 ≤ STATE_BYTES) size sizes small kept.sizes_fit;
      places_fit = All-cons (λ (size : ℕ × ℕ). size.1 < procs) size sizes placed kept.places_fit;
    }

pub four_grouped : (a b c rest : List ℕ) → a ++ (b ++ (c ++ rest)) ≡ (a ++ (b ++ c)) ++ rest
four_grouped a b c rest = simp append_assoc

-- an element
record OneElement (w : Width) (procs : ℕ) (next : Layout) (text : List ℕ) : Type 0 where
  load : ℕ
  size : ℕ × ℕ
  rest : List ℕ
  light : load ≤ LOAD
  fits : load < 2 ^ bits w
  small : size.0 ≤ STATE_BYTES
  placed : size.1 < procs
  spelled : text ≡ element_text w load size ++ rest
  bytes : AreBytes rest
  whole : judge next rest ≡ Whole

read_element : (w : Width) (reads : Reads w) (procs i : ℕ) (next : Layout) (text : List ℕ) → AreBytes text
    → judge (element w procs i next) text ≡ Whole → OneElement w procs next text
read_element w reads procs i next text are whole =
    let load = front w reads _ _ text are whole in
    let size = front w32 reads_word _ _ load.rest load.bytes load.whole in
    let place = front w32 reads_word _ _ size.rest size.bytes size.whole in
    record {
      load = load.number;
      size = (size.number, place.number);
      rest = place.rest;
      light = leb-true load.number LOAD (kept_rule (nat_le load.number LOAD) (Load i) load.kept);
      fits = load.fits;
      small = leb-true size.number STATE_BYTES (kept_rule (nat_le size.number STATE_BYTES) (Size i) size.kept);
      placed = ltb-true place.number procs (kept_rule (nat_lt place.number procs) (Place i) place.kept);
      spelled =
          load.spelled
          ∙ ap (λ (rest : List ℕ). to_be_bytes w load.number ++ rest) (size.spelled ∙ ap (λ (rest : List ℕ). word size.number ++ rest) place.spelled)
          ∙ four_grouped (to_be_bytes w load.number) (word size.number) (word place.number) place.rest;
      bytes = place.bytes;
      whole = place.whole;
    }

pub read_elements : (w : Width) (reads : Reads w) (procs i count : ℕ) (next : Layout) (text : List ℕ) → AreBytes text
    → judge (elements w procs i count next) text ≡ Whole → Elements w procs count next text
unfolding elements elements_text
read_elements w reads procs i zero next text are whole =
    record { loads = []; sizes = []; rest = text; counted = refl; kept = kept_nil w procs; spelled = refl; bytes = are; whole = whole }
read_elements w reads procs i (suc count) next text are whole =
    let first = read_element w reads procs i (elements w procs (i + 1) count next) text are whole in
    let others = read_elements w reads procs (i + 1) count next first.rest first.bytes first.whole in
    record {
      loads = first.load ∷ others.loads;
      sizes = first.size ∷ others.sizes;
      rest = others.rest;
      counted = ap suc others.counted;
      kept = kept_cons w procs first.load others.loads first.size others.sizes first.light first.fits first.small first.placed others.kept;
      spelled = first.spelled ∙ ap (λ (rest : List ℕ). element_text w first.load first.size ++ rest) others.spelled
          ∙ sym (append_assoc (element_text w first.load first.size) (elements_text w others.loads others.sizes) others.rest);
      bytes = others.bytes;
      whole = others.whole;
    }

-- a move keeps its rules
abbrev pub IsMove : ℕ → ℕ × ℕ × ℕ → Type 0
IsMove count m = (m.0 < count) × (m.1 < PES) × (m.2 < PES)

-- n moves, and nothing behind them
pub record Moves (count n : ℕ) (text : List ℕ) : Type 0 where
  pub moves : List (ℕ × ℕ × ℕ)
  pub counted : length moves ≡ n
  pub kept : All (IsMove count) moves
  pub spelled : text ≡ flat_map move_text moves

pub read_moves : (count k n : ℕ) (text : List ℕ) → AreBytes text → judge (moves count k n) text ≡ Whole → Moves count n text
unfolding moves
read_moves count k zero text are whole = record { moves = []; counted = refl; kept = All-nil (IsMove count); spelled = at_end text whole }
read_moves count k (suc n) text are whole =
    let index = front w32 reads_word _ _ text are whole in
    let present = front w32 reads_word _ _ index.rest index.bytes index.whole in
    let planned = front w32 reads_word _ _ present.rest present.bytes present.whole in
    let others = read_moves count (k + 1) n planned.rest planned.bytes planned.whole in
    let first : ℕ × ℕ × ℕ = (index.number, present.number, planned.number) in
    record {
      moves = first ∷ others.moves;
      counted = ap suc others.counted;
      kept = All-cons (IsMove count) first others.moves (
        ltb-true index.number count (kept_rule (nat_lt index.number count) (Move k) index.kept),
        ltb-true present.number PES (kept_rule (nat_lt present.number PES) (Move k) present.kept),
        ltb-true planned.number PES (kept_rule (nat_lt planned.number PES) (Move k) planned.kept),
      ) others.kept;
      spelled =
          index.spelled
          ∙ ap (λ (rest : List ℕ). word index.number ++ rest)
          (present.spelled ∙ ap (λ (rest : List ℕ). word present.number ++ rest)
          (planned.spelled ∙ ap (λ (rest : List ℕ). word planned.number ++ rest) others.spelled))
          ∙ four_grouped (word index.number) (word present.number) (word planned.number) (flat_map move_text others.moves);
    }
