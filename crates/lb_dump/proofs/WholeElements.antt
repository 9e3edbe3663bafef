-- The numbers of a whole element.
use Rattle.std.proofs.Common.{◌≡◌, ℕ, ◌+◌, ◌-◌, ◌^◌, ◌<◌, ◌≤◌, List, length, drop, take, refl, ap, sym, subst, ◌∙◌, Ok, Err, inl, inr, arith}
use Rattle.std.specs.Prelude.{Result, IfOk, IfErr}
use Rattle.std.specs.Int.{w32, w64, byte_len, from_be_bytes}
use mir.Val.{bits}
use Rattle.chare_index.specs.declared.limits.TheConstants.Limits.{LOAD, STATE_BYTES}
use Rattle.dump_format.specs.Text.{element_text}
use Rattle.dump_format.specs.declared.error.DumpError.{DumpError}
use Rattle.dump_format.proofs.Bytes.{AreBytes}
use Rattle.lb_dump.specs.declared.head.Format.{Format}
use Rattle.lb_dump.specs.declared.head.Format.TheVariants.{Lbd1, Lbd2}
use Rattle.lb_dump.specs.Heads.{element_len, load_width}
use Rattle.lb_dump.specs.Elements.{BreaksElement, IsFirst}
use Rattle.lb_dump.proofs.Partial.{len_of, load_breaks, number_from, place_breaks, size_breaks}
use Rattle.lb_dump.proofs.Respelled.{long_and_words, three_words}

-- the numbers of an element were read from its bytes
pub record AreRead (format : Format) (bytes : List ℕ) (load size place : ℕ) : Type 0 where
  pub whole : length bytes ≡ element_len format
  pub fits : load < 2 ^ bits (load_width format)
  pub load_is : load ≡ from_be_bytes (load_width format) bytes
  pub size_is : size ≡ from_be_bytes w32 (drop (byte_len (load_width format)) bytes)
  pub place_is : place ≡ from_be_bytes w32 (drop (byte_len (load_width format) + 4) bytes)

pub narrow_read : (format : Format) (bytes : List ℕ) (load size place : ℕ) → format ≡ Lbd1 → length bytes ≡ element_len format → load < 2 ^ 32 → load ≡ from_be_bytes w32 bytes
    → size ≡ from_be_bytes w32 (take (length bytes - 4) (drop 4 bytes)) → place ≡ from_be_bytes w32 (take (length bytes - 8) (drop 8 bytes)) → AreRead format bytes load size place
narrow_read Lbd1 bytes load size place is whole fits first second third =
    record { whole = whole; fits = fits; load_is = first; size_is = number_from bytes 4 4 size second refl; place_is = number_from bytes 8 8 place third refl }
narrow_read Lbd2 bytes load size place is whole fits first second third = cc

pub wide_read : (format : Format) (bytes : List ℕ) (load size place : ℕ) → format ≡ Lbd2 → length bytes ≡ element_len format → load < 2 ^ 64 → load ≡ from_be_bytes w64 bytes
    → size ≡ from_be_bytes w32 (take (length bytes - 8) (drop 8 bytes))
    → place ≡ from_be_bytes w32 (take (length bytes - 12) (drop 12 bytes)) → AreRead format bytes load size place
wide_read Lbd1 bytes load size place is whole fits first second third = cc
wide_read Lbd2 bytes load size place is whole fits first second third =
    record { whole = whole; fits = fits; load_is = first; size_is = number_from bytes 8 8 size second refl; place_is = number_from bytes 12 12 place third refl }

respelled : (format : Format) (bytes : List ℕ) (load size place : ℕ) → AreBytes bytes → AreRead format bytes load size place
    → bytes ≡ element_text (load_width format) load (size, place)
respelled Lbd1 bytes load size place are read = three_words bytes load size place read.whole are read.load_is read.size_is read.place_is
respelled Lbd2 bytes load size place are read = long_and_words bytes load size place read.whole are read.load_is read.size_is read.place_is

-- the first fault of these numbers is that of the element
first_breaks : (format : Format) (procs i : ℕ) (bytes : List ℕ) (load size place : ℕ) (e : DumpError) → AreRead format bytes load size place
    → IsFirst procs i load size place e → BreaksElement format procs i bytes e
first_breaks format procs i bytes load size place e read first =
    let all : byte_len (load_width format) + 8 ≤ length bytes = omega (arith, len_of format, read.whole) in
    let load_fits : load ≤ LOAD → from_be_bytes (load_width format) bytes ≤ LOAD = subst (λ n. n ≤ LOAD) read.load_is in
    let size_fits : size ≤ STATE_BYTES → from_be_bytes w32 (drop (byte_len (load_width format)) bytes) ≤ STATE_BYTES = subst (λ n. n ≤ STATE_BYTES) read.size_is in
    elim first [
      | inl (is, above) ↦ subst (BreaksElement format procs i bytes) (sym is)
          (load_breaks format procs i bytes (omega arith) (subst (λ n. LOAD < n) read.load_is above))
      | inr (inl (is, load, above)) ↦ subst (BreaksElement format procs i bytes) (sym is)
          (size_breaks format procs i bytes (omega arith) (load_fits load) (subst (λ n. STATE_BYTES < n) read.size_is above))
      | inr (inr (is, load, size, above)) ↦ subst (BreaksElement format procs i bytes) (sym is)
          (place_breaks format procs i bytes all (load_fits load) (size_fits size) (subst (λ n. procs ≤ n) read.place_is above))
    ]

-- what is judged are the numbers of the element
pub text_judged : (format : Format) (bytes : List ℕ) (load size place : ℕ) (r : Result (ℕ × ℕ × ℕ) DumpError) → AreBytes bytes
    → AreRead format bytes load size place → IfOk r (λ numbers. numbers ≡ (load, size, place))
    → IfOk r (λ numbers. bytes ≡ element_text (load_width format) numbers.0 (numbers.1, numbers.2))
text_judged format bytes load size place (Ok numbers) are read is =
    respelled format bytes load size place are read ∙ ap (λ (n : ℕ × ℕ × ℕ). element_text (load_width format) n.0 (n.1, n.2)) (sym is)
text_judged format bytes load size place (Err e) are read is = tt

pub width_judged : (format : Format) (bytes : List ℕ) (load size place : ℕ) (r : Result (ℕ × ℕ × ℕ) DumpError)
    → AreRead format bytes load size place → IfOk r (λ numbers. numbers ≡ (load, size, place))
    → IfOk r (λ numbers. numbers.0 < 2 ^ bits (load_width format))
width_judged format bytes load size place (Ok numbers) read is = subst (λ (n : ℕ × ℕ × ℕ). n.0 < 2 ^ bits (load_width format)) (sym is) read.fits
width_judged format bytes load size place (Err e) read is = tt

pub fault_judged : (format : Format) (procs i : ℕ) (bytes : List ℕ) (load size place : ℕ) (r : Result (ℕ × ℕ × ℕ) DumpError)
    → AreRead format bytes load size place → IfErr r (λ e. IsFirst procs i load size place e)
    → IfErr r (λ e. BreaksElement format procs i bytes e)
fault_judged format procs i bytes load size place (Ok numbers) read fault = tt
fault_judged format procs i bytes load size place (Err e) read fault = first_breaks format procs i bytes load size place e read fault
