-- The items of a list, packed one at a time.
use Rattle.std.proofs.Common.{◌≡◌, ℕ, ◌+◌, ◌<◌, ◌≤◌, List, [], ◌∷◌, ◌++◌, length, Err, arith, ◌∙◌, ap, sym, subst, append-nil, append_assoc, take, get_or, flat_map, All}
use Rattle.std.proofs.lemmas.List.{take_more}
use Rattle.std.proofs.lemmas.List.Elements.{All-append, All-cons}
use Rattle.std.proofs.lemmas.List.Folds.{length-flat_map-take}
use Rattle.std.proofs.lemmas.Grind.{flat_map-append}
use Rattle.chare_index.specs.declared.limits.TheConstants.Limits.{STATE_BYTES}
use Rattle.pup_pack.specs.declared.error.PupError.{PupError}
use Rattle.pup_pack.specs.declared.error.PupError.TheVariants.{Short, Bad, TooLong, OutOfMemory}
use Rattle.pup_pack.specs.Packing.{PackAnswer}

pub packs_more : {T : Type 0} (pack : T → List ℕ) (xs : List T) (i : ℕ) (x : T) → i < length xs → x ≡ get_or xs i x
    → flat_map pack (take (i + 1) xs) ≡ flat_map pack (take i xs) ++ pack x
packs_more pack xs i x lt is =
    rw (take_more xs i x lt, flat_map-append pack (take i xs) (get_or xs i x ∷ []), append-nil (pack (get_or xs i x))) (ap (λ y. flat_map pack (take i xs) ++ pack y) (sym is))

pub all_more : {T : Type 0} (P : T → Type 0) (xs : List T) (i : ℕ) (x : T) → i < length xs → x ≡ get_or xs i x → All P (take i xs) → P x → All P (take (i + 1) xs)
all_more P xs i x lt is all here =
    rw (take_more xs i x lt) (All-append P (take i xs) (get_or xs i x ∷ []) all (All-cons P (get_or xs i x) [] (subst P is here) (λ k d none. absurd (omega arith))))

pub appended_more : (old front end : List ℕ) {now new : List ℕ} → new ≡ now ++ end → now ≡ old ++ front → new ≡ old ++ (front ++ end)
appended_more old front end a b = a ∙ ap (λ ys. ys ++ end) b ∙ append_assoc old front end

-- an item's pack is within that of the list
pub item_room : {T : Type 0} (pack : T → List ℕ) (xs : List T) (i : ℕ) (x : T) → i < length xs → x ≡ get_or xs i x
    → length (flat_map pack (take i xs)) + length (pack x) ≤ length (flat_map pack xs)
item_room pack xs i x lt is =
    let len : length (pack x) ≡ length (pack (get_or xs i x)) = ap (λ y. length (pack y)) is in
    omega (arith, length-flat_map-take pack xs i x lt, len)

-- the refusal of an item is that of the list
pub item_refused : {T : Type 0} (counted : T → Type 0) (pack : T → List ℕ) (xs : List T) (i : ℕ) (x : T) (e : PupError) → i < length xs → x ≡ get_or xs i x
    → length (flat_map pack xs) ≤ STATE_BYTES → PackAnswer (counted x) (length (pack x)) (Err e) → PackAnswer (All counted xs) (length (flat_map pack xs)) (Err e)
item_refused counted pack xs i x Short lt is few told = told
item_refused counted pack xs i x Bad lt is few told = told
item_refused counted pack xs i x TooLong lt is few told =
    λ whole. told (subst counted (sym is) (whole.0 i x lt), omega (arith, item_room pack xs i x lt is))
item_refused counted pack xs i x OutOfMemory lt is few told = few
