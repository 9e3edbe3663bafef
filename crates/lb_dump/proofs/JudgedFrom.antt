-- How a text is judged from an offset on.
use Rattle.std.proofs.Common.{◌≡◌, ℕ, zero, suc, ◌+◌, ◌*◌, ◌<◌, ◌≤◌, List, length, drop, take, refl, ap, sym, ◌∙◌, Option, Some, None, inl, inr, arith, length-drop}
use Rattle.std.specs.Int.{Width, byte_len, from_be_bytes}
use Rattle.std.proofs.lemmas.Bool.{cases_lt}
use Rattle.std.proofs.lemmas.List.{drop-drop, length-take-le, take-append-drop}
use Rattle.dump_format.specs.Fields.{any, numbers}
use Rattle.dump_format.specs.Layout.{Layout, Field, Unfinished, Broken, judge}
use Rattle.dump_format.specs.declared.error.DumpError.{DumpError}
use Rattle.dump_format.proofs.Judging.{field_broken, field_short, field_taken, numbers_taken}

-- a field whose number keeps its rule, from here to there
pub field_at : (w : Width) (fault : ℕ → Option DumpError) (next : ℕ → Layout) (text : List ℕ) (at to n : ℕ) → to ≡ at + byte_len w
    → to ≤ length text → from_be_bytes w (drop at text) ≡ n → fault n ≡ None → judge (Field w fault next) (drop at text) ≡ judge (next n) (drop to text)
field_at w fault next text at to n is long number kept =
    let here : byte_len w ≤ length (drop at text) = rw length-drop (omega arith) in
    field_taken w fault next (drop at text) here (ap fault number ∙ kept)
    ∙ ap (λ k. judge (next k) (drop (byte_len w) (drop at text))) number
    ∙ ap (judge (next n)) (drop-drop (byte_len w) at text ∙ ap (λ i. drop i text) (sym is))

-- a field whose number breaks its rule
pub broken_at : (w : Width) (fault : ℕ → Option DumpError) (next : ℕ → Layout) (text : List ℕ) (at n : ℕ) (e : DumpError)
    → at + byte_len w ≤ length text → from_be_bytes w (drop at text) ≡ n → fault n ≡ Some e → judge (Field w fault next) (drop at text) ≡ Broken e
broken_at w fault next text at n e long number broken =
    let here : byte_len w ≤ length (drop at text) = rw length-drop (omega arith) in
    field_broken w fault next (drop at text) e here (ap fault number ∙ broken)

-- numbers without a rule, from here to there
pub numbers_at : (w : Width) (k : ℕ) (next : Layout) (text : List ℕ) (at to : ℕ) → to ≡ at + k * byte_len w → to ≤ length text
    → judge (numbers w k next) (drop at text) ≡ judge next (drop to text)
numbers_at w k next text at to is long =
    let here : k * byte_len w ≤ length (drop at text) = rw length-drop (omega arith) in
    ap (judge (numbers w k next)) (sym (take-append-drop (k * byte_len w) (drop at text)))
    ∙ numbers_taken w k next (take (k * byte_len w) (drop at text)) (drop (k * byte_len w) (drop at text)) (length-take-le (k * byte_len w) (drop at text) here)
    ∙ ap (judge next) (drop-drop (k * byte_len w) at text ∙ ap (λ i. drop i text) (sym is))

-- a text that is shorter goes no further than into these fields
pub record Needs (n : ℕ) (l : Layout) : Type 0 where
  pub short : (text : List ℕ) → length text < n → judge l text ≡ Unfinished

pub needs_field : (w : Width) (fault : ℕ → Option DumpError) (next : ℕ → Layout) → Needs (byte_len w) (Field w fault next)
needs_field w fault next = record { short = λ text missing. field_short w fault next text missing }

pub needs_any : (w : Width) (next : ℕ → Layout) (n : ℕ) → ((k : ℕ) → Needs n (next k)) → Needs (byte_len w + n) (any w next)
needs_any w next n after =
    record {
      short = λ text missing. elim (cases_lt (length text) (byte_len w)) [
        | inl here ↦ field_short w (λ _. None) next text here
        | inr behind ↦ field_taken w (λ _. None) next text behind refl ∙ (after (from_be_bytes w text)).short (drop (byte_len w) text) (rw length-drop (omega arith))
      ];
    }

pub needs_numbers : (w : Width) (k : ℕ) (next : Layout) (n : ℕ) → Needs n next → Needs (k * byte_len w + n) (numbers w k next)
unfolding numbers
needs_numbers w zero next n after = record { short = λ text missing. after.short text (omega arith) }
needs_numbers w (suc k) next n after =
    let rest : Needs (k * byte_len w + n) (numbers w k next) = needs_numbers w k next n after in
    let whole : Needs (byte_len w + (k * byte_len w + n)) (any w (λ _. numbers w k next)) = needs_any w (λ _. numbers w k next) (k * byte_len w + n) (λ _. rest) in
    record { short = λ text missing. whole.short text (omega arith) }

-- a text that ends within these fields
pub short_at : (l : Layout) (n : ℕ) (text : List ℕ) (at : ℕ) → Needs n l → at ≤ length text → length text < at + n → judge l (drop at text) ≡ Unfinished
short_at l n text at needs long missing = needs.short (drop at text) (rw length-drop (omega arith))
