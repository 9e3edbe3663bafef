-- Which faults bytes may have.
use Rattle.std.proofs.Common.{◌≡◌, inl, inr, ℕ, zero, suc, ◌+◌, ◌≤◌, List, [], ◌∷◌, length, drop, Option, Some, None, Bool, true, false, refl, ap, sym, ◌∙◌, subst}
use Rattle.std.proofs.lemmas.Bool.{cases_lt}
use Rattle.std.specs.Prelude.{◌==◌, if◌then◌else◌, nat_le}
use Rattle.std.specs.Int.{Width, byte_len, from_be_bytes, w32, w64}
use Rattle.dump_format.specs.Layout.{Layout, End, Field, Whole, Broken, judge}
use Rattle.dump_format.specs.Fields.{any, after_floor, body, decision, dump, element, elements, ending, move, moves, numbers, unless}
use Rattle.dump_format.specs.Faults.{IsBroken, IsTextFault}
use Rattle.dump_format.proofs.Judging.{field_broken, field_short, field_taken}
use Rattle.dump_format.specs.declared.error.DumpError.{DumpError}
use Rattle.dump_format.specs.declared.error.DumpError.TheVariants.{MoveCount, Trailing}

-- each fault of these fields is one that a text may have
HasOnlyTextFaults : Layout → Type 0
HasOnlyTextFaults End = Unit {0}
HasOnlyTextFaults (Field w fault next) = ((n : ℕ) (e : DumpError) → fault n ≡ Some e → IsTextFault e) × ((n : ℕ) → HasOnlyTextFaults (next n))

field_faults : (w : Width) (fault : ℕ → Option DumpError) (next : ℕ → Layout) (text : List ℕ) (e : DumpError) → ((n : ℕ) (f : DumpError) → fault n ≡ Some f → IsTextFault f)
    → ((n : ℕ) (rest : List ℕ) → judge (next n) rest ≡ Broken e → IsTextFault e) → judge (Field w fault next) text ≡ Broken e → IsTextFault e
field_faults w fault next text e told behind broken =
    elim (cases_lt (length text) (byte_len w)) [
      | inl short ↦ absurd (let h = field_short w fault next text short in cc)
      | inr long ↦ by_fault (fault (from_be_bytes w text)) refl long
    ]
  where
    by_fault : (o : Option DumpError) → fault (from_be_bytes w text) ≡ o → byte_len w ≤ length text → IsTextFault e
    by_fault None good long = behind (from_be_bytes w text) (drop (byte_len w) text) (sym (field_taken w fault next text long good) ∙ broken)
    by_fault (Some f) bad long =
        let other = field_broken w fault next text f long bad in
        let same : f ≡ e = cc in
        told (from_be_bytes w text) e (bad ∙ ap Some same)

layout_faults : (l : Layout) (text : List ℕ) (e : DumpError) → HasOnlyTextFaults l → judge l text ≡ Broken e → IsTextFault e
unfolding judge HasOnlyTextFaults
layout_faults End [] e only broken = absurd (let h : Whole ≡ Broken e = broken in cc)
layout_faults End (byte ∷ bytes) e only broken =
    let same : Trailing ≡ e = (let h : Broken Trailing ≡ Broken e = broken in cc) in
    subst IsTextFault same tt
layout_faults (Field w fault next) text e only broken = field_faults w fault next text e only.0 (λ n rest. layout_faults (next n) rest e (only.1 n)) broken

-- a rule that is broken is reported as its own fault
unless_faults : (b : Bool) (f e : DumpError) → IsTextFault f → unless b f ≡ Some e → IsTextFault e
unless_faults true f e told is = absurd (let h : None ≡ Some e = is in cc)
unless_faults false f e told is =
    let same : f ≡ e = (let h : Some f ≡ Some e = is in cc) in
    subst IsTextFault same told

none_faults : (e : DumpError) → None ≡ Some e → IsTextFault e
none_faults e is = absurd (let h = is in cc)

numbers_faults : (w : Width) (n : ℕ) (next : Layout) → HasOnlyTextFaults next → HasOnlyTextFaults (numbers w n next)
unfolding numbers HasOnlyTextFaults
numbers_faults w zero next only = only
numbers_faults w (suc n) next only = (λ _ e is. none_faults e is, λ _. numbers_faults w n next only)

element_faults : (w : Width) (procs i : ℕ) (next : Layout) → HasOnlyTextFaults next → HasOnlyTextFaults (element w procs i next)
unfolding HasOnlyTextFaults
element_faults w procs i next only =
    (λ n e is. unless_faults _ _ e tt is, λ _. (λ n e is. unless_faults _ _ e tt is, λ _. (λ n e is. unless_faults _ _ e tt is, λ _. only)))

elements_faults : (w : Width) (procs i n : ℕ) (next : Layout) → HasOnlyTextFaults next → HasOnlyTextFaults (elements w procs i n next)
unfolding elements
elements_faults w procs i zero next only = only
elements_faults w procs i (suc n) next only = element_faults w procs i (elements w procs (i + 1) n next) (elements_faults w procs (i + 1) n next only)

move_faults : (count k : ℕ) (next : Layout) → HasOnlyTextFaults next → HasOnlyTextFaults (move count k next)
unfolding HasOnlyTextFaults
move_faults count k next only =
    (λ n e is. unless_faults _ _ e tt is, λ _. (λ n e is. unless_faults _ _ e tt is, λ _. (λ n e is. unless_faults _ _ e tt is, λ _. only)))

moves_faults : (count k n : ℕ) → HasOnlyTextFaults (moves count k n)
unfolding moves HasOnlyTextFaults
moves_faults count k zero = tt
moves_faults count k (suc n) = move_faults count k (moves count (k + 1) n) (moves_faults count (k + 1) n)

behind_prices_faults : (count : ℕ) → HasOnlyTextFaults (any w64 (λ _. Field w32 (λ n. unless (nat_le n count) MoveCount) (λ n. moves count 0 n)))
unfolding HasOnlyTextFaults
behind_prices_faults count = (λ n e is. none_faults e is, λ _. (λ n e is. unless_faults _ _ e tt is, λ n. moves_faults count 0 n))

behind_floor_faults : (count target kind : ℕ) → HasOnlyTextFaults (after_floor count target kind)
behind_floor_faults count target kind =
    let behind : Layout = any w64 (λ _. Field w32 (λ n. unless (nat_le n count) MoveCount) (λ n. moves count 0 n)) in
    numbers_faults w32 (if kind == 0 then 0 else target + 1) _
    (numbers_faults w32 target _ (numbers_faults w64 target _ (numbers_faults w64 target behind (behind_prices_faults count))))

decision_faults : (count : ℕ) → HasOnlyTextFaults (decision count)
unfolding HasOnlyTextFaults
decision_faults count = (
  λ n e is. unless_faults _ _ e tt is,
  λ target. (
    λ n e is. none_faults e is,
    λ _.
        numbers_faults w32 (target + 1) _ (λ n e is. unless_faults _ _ e tt is, λ kind. behind_floor_faults count target kind),
  ),
)

ending_faults : (count : ℕ) → HasOnlyTextFaults (ending count)
unfolding HasOnlyTextFaults
ending_faults count = (λ n e is. unless_faults _ _ e tt is, λ flag. either (flag == 0))
  where
    either : (b : Bool) → HasOnlyTextFaults (if b then End else decision count)
    either true = tt
    either false = decision_faults count

body_faults : (w : Width) (behind : ℕ → Layout) → ((count : ℕ) → HasOnlyTextFaults (behind count)) → HasOnlyTextFaults (body w behind)
unfolding HasOnlyTextFaults
body_faults w behind only = (
  λ n e is. none_faults e is,
  λ _. (
    λ n e is. unless_faults _ _ e tt is,
    λ procs. (
      λ n e is. unless_faults _ _ e tt is,
      λ count.
          elements_faults w procs 0 count (behind count) (only count),
    ),
  ),
)

dump_faults : HasOnlyTextFaults dump
unfolding HasOnlyTextFaults
dump_faults = (
  λ n e is. unless_faults _ _ e tt is,
  λ _. (
    λ n e is. unless_faults _ _ e tt is,
    λ _. (
      λ n e is. unless_faults _ _ e tt is,
      λ _.
          (λ n e is. unless_faults _ _ e tt is, λ byte. either (byte == 49)),
    ),
  ),
)
  where
    either : (b : Bool) → HasOnlyTextFaults (if b then body w32 (λ _. End) else body w64 ending)
    either true = body_faults w32 (λ _. End) (λ _. tt)
    either false = body_faults w64 ending ending_faults

-- the faults that a text may have
pub only_text_faults : (text : List ℕ) (e : DumpError) → IsBroken text e → IsTextFault e
only_text_faults text e broken = layout_faults dump text e dump_faults broken
