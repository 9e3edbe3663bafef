-- What holds of all that is made of a list, and a journal that gains an entry of its element's own.
use Rattle.std.proofs.Common.{◌≡◌, ℕ, List, [], ◌∷◌, ◌++◌}
use Rattle.std.specs.Prelude.{All}
use Rattle.std.specs.List.{flat_map}
use Rattle.std.proofs.lemmas.Grind.{flat_map-append}
use Rattle.std.proofs.lemmas.List.Elements.{All-nil, All-append, All-same, All-head, All-tail}
use Rattle.chares.specs.Letters.{LetterView, Done}
use Rattle.rts_core.specs.Places.{letters_of_entry}
use Rattle.rts_core.specs.Own.{IsOwn}

-- all of what is made of a list
pub all_flat : {X Y : Type 0} (P : Y → Type 0) (f : X → List Y) (xs : List X) → All (λ x. All P (f x)) xs → All P (flat_map f xs)
all_flat P f [] h = All-nil P
all_flat P f (x ∷ xs) h = All-append P (f x) (flat_map f xs) (All-head (λ y. All P (f y)) x xs h) (all_flat P f xs (All-tail (λ y. All P (f y)) x xs h))

-- an entry that an element may have: a letter to it, or a resumption
abbrev pub IsOwnEntry : ℕ → Done → Type 0
IsOwnEntry e done = All (λ (l : LetterView). l.to ≡ e) (letters_of_entry done)

pub own_more : (e : ℕ) (journal : List Done) (done : Done) → IsOwnEntry e done → IsOwn (e, journal) → IsOwn (e, journal ++ done ∷ [])
own_more e journal done is h =
    let a : flat_map letters_of_entry (journal ++ done ∷ []) ≡ flat_map letters_of_entry journal
    ++ (letters_of_entry done ++ []) = flat_map-append letters_of_entry journal (done ∷ []) in
    let last : All (λ (l : LetterView). l.to ≡ e) (letters_of_entry done ++ []) = All-append (λ (l : LetterView). l.to ≡ e)
    (letters_of_entry done) [] is (All-nil (λ (l : LetterView). l.to ≡ e)) in
    All-same (λ (l : LetterView). l.to ≡ e) _ _ a (All-append (λ (l : LetterView). l.to ≡ e) (flat_map letters_of_entry journal) (letters_of_entry done ++ []) h last)
