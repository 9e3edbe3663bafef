-- What a journal is after one more letter or resumption, and how many entries it has.
use Rattle.std.proofs.Common.{◌≡◌, ℕ, ◌+◌, ◌-◌, ◌≤◌, List, [], ◌∷◌, ◌++◌, length, map, take, drop, refl, sym, ap, ◌∙◌, append_assoc, arith, length-append, filter_map}
use Rattle.std.proofs.lemmas.List.Elements.{filter_map-append}
use Rattle.std.proofs.lemmas.List.{map-append, take-append-le, drop-append-le, take-append-drop, length-drop, length-map, take_all, drop_all}
use Rattle.chares.specs.Journals.{entries_from, letter_of, AreInOrder}
use Rattle.chares.specs.Letters.{LetterView}
use Rattle.chares.specs.declared.entry.Entry.TheVariants.{Letter, Resumption}
use Rattle.chares.specs.declared.journal.ResumedAt.{ResumedAt}

-- the numbers before these resumptions are between the two ends
pub order_ends : (k n : ℕ) (rs : List ResumedAt) → AreInOrder k n rs → k ≤ n
order_ends k n [] h = h
order_ends k n (r ∷ rs) h =
    let a = order_ends r.letters n rs h.1 in
    omega (arith, a, h.0)

-- one more letter leaves them in order
pub order_letter : (k n : ℕ) (rs : List ResumedAt) → AreInOrder k n rs → AreInOrder k (n + 1) rs
order_letter k n [] h = omega (arith, h)
order_letter k n (r ∷ rs) h = (h.0, order_letter r.letters n rs h.1)

-- so does a resumption behind all letters
pub order_resumption : (k n : ℕ) (rs : List ResumedAt) (round : ℕ) → AreInOrder k n rs → AreInOrder k n (rs ++ record { round = round; letters = n } ∷ [])
order_resumption k n [] round h = (h, omega arith)
order_resumption k n (r ∷ rs) round h = (h.0, order_resumption r.letters n rs round h.1)

-- the letters behind the first of them
rest_is : (k n j : ℕ) (letters : List LetterView) → n ≡ k + length letters → k ≤ j → j ≤ n → n ≡ j + length (drop (j - k) letters)
rest_is k n j letters e low high = rw (length-drop (j - k) letters) (omega (arith, e, low, high))

-- a letter comes behind all entries
pub entries_letter : (k n : ℕ) (letters : List LetterView) (rs : List ResumedAt) (l : LetterView) → n ≡ k + length letters → AreInOrder k n rs
    → entries_from k (letters ++ l ∷ []) rs ≡ entries_from k letters rs ++ Letter l ∷ []
entries_letter k n letters [] l e h = map-append Letter letters (l ∷ [])
entries_letter k n letters (r ∷ rs) l e h =
    let high = order_ends r.letters n rs h.1 in
    let within : r.letters - k ≤ length letters = omega (arith, e, h.0, high) in
    let here = drop (r.letters - k) letters in
    let before = map Letter (take (r.letters - k) letters) in
    let rest = entries_letter r.letters n here rs l (rest_is k n r.letters letters e h.0 high) h.1 in
    ap (λ xs. map Letter xs ++ Resumption r.round ∷ entries_from r.letters (drop (r.letters - k) (letters ++ l ∷ [])) rs) (take-append-le (r.letters - k) letters (l ∷ []) within)
    ∙ ap (λ xs. before ++ Resumption r.round ∷ entries_from r.letters xs rs) (drop-append-le (r.letters - k) letters (l ∷ []) within)
    ∙ ap (λ xs. before ++ Resumption r.round ∷ xs) rest
    ∙ sym (append_assoc before (Resumption r.round ∷ entries_from r.letters here rs) (Letter l ∷ []))

-- so does a resumption
pub entries_resumption : (k n : ℕ) (letters : List LetterView) (rs : List ResumedAt) (round : ℕ) → n ≡ k + length letters → AreInOrder k n rs
    → entries_from k letters (rs ++ record { round = round; letters = n } ∷ []) ≡ entries_from k letters rs ++ Resumption round ∷ []
entries_resumption k n letters [] round e h =
    let all : length letters ≤ n - k = omega (arith, e) in
    ap (λ xs. map Letter xs ++ Resumption round ∷ map Letter (drop (n - k) letters)) (take_all (n - k) letters all)
    ∙ ap (λ xs. map Letter letters ++ Resumption round ∷ map Letter xs) (drop_all (n - k) letters all)
entries_resumption k n letters (r ∷ rs) round e h =
    let high = order_ends r.letters n rs h.1 in
    let here = drop (r.letters - k) letters in
    let before = map Letter (take (r.letters - k) letters) in
    let rest = entries_resumption r.letters n here rs round (rest_is k n r.letters letters e h.0 high) h.1 in
    ap (λ xs. before ++ Resumption r.round ∷ xs) rest
    ∙ sym (append_assoc before (Resumption r.round ∷ entries_from r.letters here rs) (Resumption round ∷ []))

-- it has as many entries as letters and resumptions
pub entries_count : (k : ℕ) (letters : List LetterView) (rs : List ResumedAt) → length (entries_from k letters rs) ≡ length letters + length rs
entries_count k letters [] = omega (arith, length-map letters Letter)
entries_count k letters (r ∷ rs) =
    let here = take (r.letters - k) letters in
    let rest = drop (r.letters - k) letters in
    let more = entries_count r.letters rest rs in
    let a = length-append (map Letter here) (Resumption r.round ∷ entries_from r.letters rest rs) in
    let b = length-map here Letter in
    let c : length here + length rest ≡ length letters = sym (length-append here rest) ∙ ap length (take-append-drop (r.letters - k) letters) in
    omega (arith, a, b, c, more)

-- its letters are those that it is kept with
letters_only : (letters : List LetterView) → filter_map letter_of (map Letter letters) ≡ letters
letters_only [] = refl
letters_only (l ∷ letters) = ap (λ xs. l ∷ xs) (letters_only letters)

pub entries_letters : (k : ℕ) (letters : List LetterView) (rs : List ResumedAt) → filter_map letter_of (entries_from k letters rs) ≡ letters
entries_letters k letters [] = letters_only letters
entries_letters k letters (r ∷ rs) =
    let here = take (r.letters - k) letters in
    let rest = drop (r.letters - k) letters in
    filter_map-append letter_of (map Letter here) (Resumption r.round ∷ entries_from r.letters rest rs)
    ∙ ap (λ xs. xs ++ filter_map letter_of (entries_from r.letters rest rs)) (letters_only here)
    ∙ ap (λ xs. here ++ xs) (entries_letters r.letters rest rs)
    ∙ take-append-drop (r.letters - k) letters
