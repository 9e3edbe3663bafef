-- Elements and moves of which only the first bytes have come.
use Rattle.std.proofs.Common.{◌≡◌, ℕ, ◌+◌, ◌-◌, ◌<◌, ◌≤◌, List, length, drop, take, refl, ap, ◌∙◌, Option, Some, None, inl, inr, ltb, leb, lit<, arith}
use Rattle.std.specs.Int.{Width, w32, byte_len, from_be_bytes}
use Rattle.std.proofs.lemmas.Bool.{cases_lt, le-leb, le-ltb, lt-leb, lt-ltb}
use Rattle.std.proofs.lemmas.List.{drop-drop, length-drop}
use Rattle.chare_index.specs.declared.limits.TheConstants.Limits.{LOAD, PES, STATE_BYTES}
use Rattle.dump_format.specs.Layout.{Layout, Field, Unfinished, Broken, judge}
use Rattle.dump_format.specs.Fields.{element, move, unless}
use Rattle.dump_format.specs.declared.error.DumpError.{DumpError}
use Rattle.dump_format.specs.declared.error.DumpError.TheVariants.{Load, Size, Place, Move}
use Rattle.dump_format.proofs.Judging.{field_broken, field_short, field_taken, gives_fault, gives_none}
use Rattle.lb_dump.specs.declared.head.Format.{Format}
use Rattle.lb_dump.specs.declared.head.Format.TheVariants.{Lbd1, Lbd2}
use Rattle.lb_dump.specs.Heads.{element_len, load_width}
use Rattle.lb_dump.specs.Elements.{BreaksElement}
use Rattle.lb_dump.specs.Moves.{BreaksMove}
use Rattle.lb_dump.specs.Plans.{word_at}
use Rattle.lb_dump.proofs.NumbersRead.{word_read}

-- three fields, of which the second and the third have four bytes each
abbrev three : Width → (ℕ → Option DumpError) → (ℕ → Option DumpError) → (ℕ → Option DumpError) → Layout → Layout
three w f g h next = Field w f (λ _. Field w32 g (λ _. Field w32 h (λ _. next)))

module _ (w : Width) (f g h : ℕ → Option DumpError) (next : Layout) (bytes : List ℕ) where
  first_broken : (e : DumpError) → byte_len w ≤ length bytes → f (from_be_bytes w bytes) ≡ Some e → judge (three w f g h next) bytes ≡ Broken e
  first_broken e long bad = field_broken w f (λ _. Field w32 g (λ _. Field w32 h (λ _. next))) bytes e long bad

  one_taken : byte_len w ≤ length bytes → f (from_be_bytes w bytes) ≡ None
      → judge (three w f g h next) bytes ≡ judge (Field w32 g (λ _. Field w32 h (λ _. next))) (drop (byte_len w) bytes)
  one_taken long good = field_taken w f (λ _. Field w32 g (λ _. Field w32 h (λ _. next))) bytes long good

  second_broken : (e : DumpError) → byte_len w + 4 ≤ length bytes → f (from_be_bytes w bytes) ≡ None
      → g (from_be_bytes w32 (drop (byte_len w) bytes)) ≡ Some e → judge (three w f g h next) bytes ≡ Broken e
  second_broken e long good bad =
      one_taken (omega arith) good
      ∙ field_broken w32 g (λ _. Field w32 h (λ _. next)) (drop (byte_len w) bytes) e (omega (arith, length-drop (byte_len w) bytes)) bad

  two_taken : byte_len w + 4 ≤ length bytes → f (from_be_bytes w bytes) ≡ None → g (from_be_bytes w32 (drop (byte_len w) bytes)) ≡ None
      → judge (three w f g h next) bytes ≡ judge (Field w32 h (λ _. next)) (drop (byte_len w + 4) bytes)
  two_taken long good fine =
      one_taken (omega arith) good
      ∙ field_taken w32 g (λ _. Field w32 h (λ _. next)) (drop (byte_len w) bytes) (omega (arith, length-drop (byte_len w) bytes)) fine
      ∙ ap (judge (Field w32 h (λ _. next))) (drop-drop 4 (byte_len w) bytes)

  third_broken : (e : DumpError) → byte_len w + 8 ≤ length bytes → f (from_be_bytes w bytes) ≡ None
      → g (from_be_bytes w32 (drop (byte_len w) bytes)) ≡ None → h (from_be_bytes w32 (drop (byte_len w + 4) bytes)) ≡ Some e
      → judge (three w f g h next) bytes ≡ Broken e
  third_broken e long good fine bad =
      two_taken (omega arith) good fine
      ∙ field_broken w32 h (λ _. next) (drop (byte_len w + 4) bytes) e (omega (arith, length-drop (byte_len w + 4) bytes)) bad

  three_unfinished : length bytes < byte_len w + 8 → (byte_len w ≤ length bytes → f (from_be_bytes w bytes) ≡ None)
      → (byte_len w + 4 ≤ length bytes → g (from_be_bytes w32 (drop (byte_len w) bytes)) ≡ None)
      → judge (three w f g h next) bytes ≡ Unfinished
  three_unfinished short good fine =
      elim (cases_lt (length bytes) (byte_len w)) [
        | inl less ↦ field_short w f (λ _. Field w32 g (λ _. Field w32 h (λ _. next))) bytes less
        | inr long ↦ elim (cases_lt (length bytes) (byte_len w + 4)) [
          | inl less ↦ one_taken long (good long) ∙ field_short w32 g (λ _. Field w32 h (λ _. next)) (drop (byte_len w) bytes) (omega (arith, length-drop (byte_len w) bytes))
          | inr longer ↦ two_taken longer (good long) (fine longer)
              ∙ field_short w32 h (λ _. next) (drop (byte_len w + 4) bytes) (omega (arith, length-drop (byte_len w + 4) bytes))
        ]
      ]

-- an element is a load and two numbers of four bytes
pub len_of : (format : Format) → byte_len (load_width format) + 8 ≡ element_len format
len_of Lbd1 = refl
len_of Lbd2 = refl

pub some_bytes : (format : Format) → 0 < element_len format
some_bytes Lbd1 = lit< tt
some_bytes Lbd2 = lit< tt

-- where the size begins
pub size_at : (format : Format) (len : ℕ) → len + 8 ≡ element_len format → len ≡ byte_len (load_width format)
size_at format len is = omega (arith, len_of format)

-- the number from there on
pub number_from : (bytes : List ℕ) (at place n : ℕ) → n ≡ from_be_bytes w32 (take (length bytes - at) (drop at bytes)) → at ≡ place → n ≡ from_be_bytes w32 (drop place bytes)
number_from bytes at place n is same = word_read bytes at n is ∙ ap (word_at bytes) same

-- the first fault of an element
module _ (format : Format) (procs i : ℕ) (bytes : List ℕ) where
  pub load_breaks : byte_len (load_width format) ≤ length bytes → LOAD < from_be_bytes (load_width format) bytes → BreaksElement format procs i bytes (Load i)
  load_breaks long above next =
      first_broken (load_width format) (λ load. unless (leb load LOAD) (Load i)) (λ size. unless (leb size STATE_BYTES) (Size i))
      (λ place. unless (ltb place procs) (Place i)) next bytes (Load i) long
      (gives_fault (leb (from_be_bytes (load_width format) bytes) LOAD) (Load i) (lt-leb (from_be_bytes (load_width format) bytes) LOAD above))

  pub size_breaks : byte_len (load_width format) + 4 ≤ length bytes → from_be_bytes (load_width format) bytes ≤ LOAD
      → STATE_BYTES < from_be_bytes w32 (drop (byte_len (load_width format)) bytes)
      → BreaksElement format procs i bytes (Size i)
  size_breaks long load above next =
      second_broken (load_width format) (λ load. unless (leb load LOAD) (Load i)) (λ size. unless (leb size STATE_BYTES) (Size i))
      (λ place. unless (ltb place procs) (Place i)) next bytes (Size i) long
      (gives_none (leb (from_be_bytes (load_width format) bytes) LOAD) (Load i) (le-leb (from_be_bytes (load_width format) bytes) LOAD load))
      (gives_fault (leb (from_be_bytes w32 (drop (byte_len (load_width format)) bytes)) STATE_BYTES) (Size i)
      (lt-leb (from_be_bytes w32 (drop (byte_len (load_width format)) bytes)) STATE_BYTES above))

  pub place_breaks : byte_len (load_width format) + 8 ≤ length bytes → from_be_bytes (load_width format) bytes ≤ LOAD
      → from_be_bytes w32 (drop (byte_len (load_width format)) bytes) ≤ STATE_BYTES
      → procs ≤ from_be_bytes w32 (drop (byte_len (load_width format) + 4) bytes) → BreaksElement format procs i bytes (Place i)
  place_breaks long load size above next =
      third_broken (load_width format) (λ load. unless (leb load LOAD) (Load i)) (λ size. unless (leb size STATE_BYTES) (Size i))
      (λ place. unless (ltb place procs) (Place i)) next bytes (Place i) long
      (gives_none (leb (from_be_bytes (load_width format) bytes) LOAD) (Load i) (le-leb (from_be_bytes (load_width format) bytes) LOAD load))
      (gives_none (leb (from_be_bytes w32 (drop (byte_len (load_width format)) bytes)) STATE_BYTES) (Size i)
      (le-leb (from_be_bytes w32 (drop (byte_len (load_width format)) bytes)) STATE_BYTES size))
      (gives_fault (ltb (from_be_bytes w32 (drop (byte_len (load_width format) + 4) bytes)) procs) (Place i)
      (le-ltb (from_be_bytes w32 (drop (byte_len (load_width format) + 4) bytes)) procs above))

-- an element whose last field is not whole, where the others keep their rules
pub element_unfinished : (format : Format) (procs i : ℕ) (next : Layout) (bytes : List ℕ) → length bytes < element_len format
    → (byte_len (load_width format) ≤ length bytes → from_be_bytes (load_width format) bytes ≤ LOAD)
    → (byte_len (load_width format) + 4 ≤ length bytes → from_be_bytes w32 (drop (byte_len (load_width format)) bytes) ≤ STATE_BYTES)
    → judge (element (load_width format) procs i next) bytes ≡ Unfinished
element_unfinished format procs i next bytes short load size =
    three_unfinished (load_width format) (λ load. unless (leb load LOAD) (Load i)) (λ size. unless (leb size STATE_BYTES) (Size i))
    (λ place. unless (ltb place procs) (Place i)) next bytes
    (omega (arith, len_of format))
    (λ long. gives_none (leb (from_be_bytes (load_width format) bytes) LOAD) (Load i) (le-leb (from_be_bytes (load_width format) bytes) LOAD (load long)))
    (λ long. gives_none (leb (from_be_bytes w32 (drop (byte_len (load_width format)) bytes)) STATE_BYTES) (Size i)
    (le-leb (from_be_bytes w32 (drop (byte_len (load_width format)) bytes)) STATE_BYTES (size long)))

-- the first fault of a move
module _ (count k : ℕ) (bytes : List ℕ) where
  pub index_breaks : 4 ≤ length bytes → count ≤ from_be_bytes w32 bytes → BreaksMove count k bytes (Move k)
  index_breaks long above next =
      first_broken w32 (λ index. unless (ltb index count) (Move k)) (λ present. unless (ltb present PES) (Move k))
      (λ planned. unless (ltb planned PES) (Move k)) next bytes (Move k) long
      (gives_fault (ltb (from_be_bytes w32 bytes) count) (Move k) (le-ltb (from_be_bytes w32 bytes) count above))

  pub present_breaks : 8 ≤ length bytes → from_be_bytes w32 bytes < count → PES ≤ from_be_bytes w32 (drop 4 bytes) → BreaksMove count k bytes (Move k)
  present_breaks long index above next =
      second_broken w32 (λ index. unless (ltb index count) (Move k)) (λ present. unless (ltb present PES) (Move k))
      (λ planned. unless (ltb planned PES) (Move k)) next bytes (Move k) long
      (gives_none (ltb (from_be_bytes w32 bytes) count) (Move k) (lt-ltb (from_be_bytes w32 bytes) count index))
      (gives_fault (ltb (from_be_bytes w32 (drop 4 bytes)) PES) (Move k) (le-ltb (from_be_bytes w32 (drop 4 bytes)) PES above))

  pub planned_breaks : 12 ≤ length bytes → from_be_bytes w32 bytes < count → from_be_bytes w32 (drop 4 bytes) < PES
      → PES ≤ from_be_bytes w32 (drop 8 bytes) → BreaksMove count k bytes (Move k)
  planned_breaks long index present above next =
      third_broken w32 (λ index. unless (ltb index count) (Move k)) (λ present. unless (ltb present PES) (Move k))
      (λ planned. unless (ltb planned PES) (Move k)) next bytes (Move k) long
      (gives_none (ltb (from_be_bytes w32 bytes) count) (Move k) (lt-ltb (from_be_bytes w32 bytes) count index))
      (gives_none (ltb (from_be_bytes w32 (drop 4 bytes)) PES) (Move k) (lt-ltb (from_be_bytes w32 (drop 4 bytes)) PES present))
      (gives_fault (ltb (from_be_bytes w32 (drop 8 bytes)) PES) (Move k) (le-ltb (from_be_bytes w32 (drop 8 bytes)) PES above))

-- a move whose last field is not whole, where the others keep their rules
pub move_unfinished : (count k : ℕ) (next : Layout) (bytes : List ℕ) → length bytes < 12
    → (4 ≤ length bytes → from_be_bytes w32 bytes < count) → (8 ≤ length bytes → from_be_bytes w32 (drop 4 bytes) < PES)
    → judge (move count k next) bytes ≡ Unfinished
move_unfinished count k next bytes short index present =
    three_unfinished w32 (λ index. unless (ltb index count) (Move k)) (λ present. unless (ltb present PES) (Move k)) (λ planned. unless (ltb planned PES) (Move k)) next bytes short
    (λ long. gives_none (ltb (from_be_bytes w32 bytes) count) (Move k) (lt-ltb (from_be_bytes w32 bytes) count (index long)))
    (λ long. gives_none (ltb (from_be_bytes w32 (drop 4 bytes)) PES) (Move k) (lt-ltb (from_be_bytes w32 (drop 4 bytes)) PES (present long)))
