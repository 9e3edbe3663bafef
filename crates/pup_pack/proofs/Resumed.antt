-- The items of a list, unpacked one at a time.
use Rattle.std.proofs.Common.{◌≡◌, ℕ, suc, ◌+◌, ◌-◌, List, [], ◌∷◌, ◌++◌, length, drop, Result, Ok, Err, refl, arith, append_assoc, drop-drop, append-nil, take, take_all, length-drop}
use Rattle.pup_pack.specs.declared.error.PupError.{PupError}
use Rattle.pup_pack.specs.declared.error.PupError.TheVariants.{Short, Bad, TooLong, OutOfMemory}
use Rattle.pup_pack.specs.Packing.{and_then, UnpackAnswer}
use Rattle.pup_pack.specs.Lists.{unpack_items}

-- the bytes from an offset on
pub from_end : (bytes : List ℕ) (end : ℕ) → take (length bytes - end) (drop end bytes) ≡ drop end bytes
from_end bytes end = take_all (length bytes - end) (drop end bytes) (omega (arith, length-drop end bytes))

-- what n more items make of those that end here
abbrev pub joined : {T : Type 0} → List T → ℕ → Result (List T × ℕ) PupError → Result (List T × ℕ) PupError
joined xs end rest = and_then rest (λ ys. Ok (xs ++ ys.0, end + ys.1))

abbrev pub resumed : {T : Type 0} → (List ℕ → Result (T × ℕ) PupError) → List ℕ → List T → ℕ → ℕ → Result (List T × ℕ) PupError
resumed item bytes xs end n = joined xs end (unpack_items item n (drop end bytes))

pub joined_more : {T : Type 0} (xs : List T) (end : ℕ) (x : T) (m : ℕ) (r : Result (List T × ℕ) PupError)
    → joined xs end (and_then r (λ ys. Ok (x ∷ ys.0, m + ys.1))) ≡ joined (xs ++ x ∷ []) (end + m) r
joined_more xs end x m (Ok r) =
    let sum : end + (m + r.1) ≡ (end + m) + r.1 = omega arith in
    rw (append_assoc xs (x ∷ []) r.0, sum) refl
joined_more xs end x m (Err e) = refl

pub resumed_more : {T : Type 0} (item : List ℕ → Result (T × ℕ) PupError) (bytes : List ℕ) (xs : List T) (end n : ℕ) (x : T) (m : ℕ)
    → item (drop end bytes) ≡ Ok (x, m) → resumed item bytes xs end (suc n) ≡ resumed item bytes (xs ++ x ∷ []) (end + m) n
resumed_more item bytes xs end n x m e =
    rw (e, drop-drop m end bytes) (joined_more xs end x m (unpack_items item n (drop (end + m) bytes)))

pub resumed_refused : {T : Type 0} (item : List ℕ → Result (T × ℕ) PupError) (bytes : List ℕ) (xs : List T) (end n : ℕ) (e : PupError)
    → item (drop end bytes) ≡ Err e → resumed item bytes xs end (suc n) ≡ Err e
resumed_refused item bytes xs end n e refused = rw refused refl

pub resumed_end : {T : Type 0} (item : List ℕ → Result (T × ℕ) PupError) (bytes : List ℕ) (xs : List T) (end : ℕ) → resumed item bytes xs end 0 ≡ Ok (xs, end)
resumed_end item bytes xs end =
    let sum : end + 0 ≡ end = omega arith in
    rw (append-nil xs, sum) refl

-- the refusal of an item is that of the list
pub refused_by : {T U : Type 0} (item : Result T PupError) (whole : Result U PupError) (e : PupError)
    → ((f : PupError) → item ≡ Err f → whole ≡ Err f) → UnpackAnswer item (Err e) → UnpackAnswer whole (Err e)
refused_by item whole Short same told = same Short told
refused_by item whole Bad same told = same Bad told
refused_by item whole TooLong same told = same TooLong told
refused_by item whole OutOfMemory same told = tt
