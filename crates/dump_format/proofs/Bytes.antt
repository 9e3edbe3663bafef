-- Lists of bytes, and the numbers at their front.
use Rattle.std.proofs.Common.{◌≡◌, ℕ, ◌+◌, ◌^◌, ◌<◌, ◌≤◌, List, [], ◌∷◌, ◌++◌, length, get_or, take, drop, inl, inr, lit<, refl, ap, sym, subst, ◌∙◌, Fits, arith}
use Rattle.std.specs.Prelude.{All}
use Rattle.std.specs.Int.{Width, w8, w32, w64, byte_len, from_be_bytes, to_be_bytes}
use mir.Val.{bits}
use Rattle.std.proofs.lemmas.Bool.{cases_lt}
use Rattle.std.proofs.lemmas.List.{get_or_append_left, get_or-append-add, get_or_past, length-take-le, take-append-drop}
use Rattle.std.proofs.lemmas.Nat.{be_bytes_4, be_bytes_8}
use Rattle.dump_format.specs.Text.{long, word}
use Rattle.dump_format.proofs.Judging.{front_number}

-- each item of the list is a byte
pub record AreBytes (xs : List ℕ) : Type 0 where
  pub small : (i : ℕ) → get_or xs i 0 < 256

pub are_bytes : (xs : List ℕ) → ((i : ℕ) → Fits w8 (get_or xs i 0)) → AreBytes xs
are_bytes xs fit = record { small = λ i. (fit i).fits }

past_small : (xs : List ℕ) (i : ℕ) → length xs ≤ i → get_or xs i 0 < 256
past_small xs i past = subst (λ n. n < 256) (sym (get_or_past xs i 0 past)) (lit< tt)

pub bytes_of : (xs : List ℕ) → All (λ byte. byte < 256) xs → AreBytes xs
bytes_of xs all = record { small = λ i. elim (cases_lt i (length xs)) [ inl inside ↦ all i 0 inside | inr past ↦ past_small xs i past ] }

-- their parts are bytes
pub bytes_right : (xs ys : List ℕ) → AreBytes (xs ++ ys) → AreBytes ys
bytes_right xs ys all = record { small = λ i. subst (λ n. n < 256) (get_or-append-add xs ys i 0) (all.small (length xs + i)) }

pub bytes_left : (xs ys : List ℕ) → AreBytes (xs ++ ys) → AreBytes xs
bytes_left xs ys all =
    record {
      small = λ i. elim (cases_lt i (length xs)) [
        | inl inside ↦ subst (λ n. n < 256) (get_or_append_left xs ys 0 i inside) (all.small i)
        | inr past ↦ past_small xs i past
      ];
    }

-- the part after a front and before the rest
pub bytes_between : (xs ys zs all : List ℕ) → xs ++ (ys ++ zs) ≡ all → AreBytes all → AreBytes ys
bytes_between xs ys zs all joined known = bytes_left ys zs (bytes_right xs (ys ++ zs) (subst AreBytes (sym joined) known))

-- the first n, and those after them
bytes_taken : (n : ℕ) (xs : List ℕ) → AreBytes xs → AreBytes (take n xs)
bytes_taken n xs known = bytes_left (take n xs) (drop n xs) (subst AreBytes (sym (take-append-drop n xs)) known)

pub bytes_behind : (n : ℕ) (xs : List ℕ) → AreBytes xs → AreBytes (drop n xs)
bytes_behind n xs known = bytes_right (take n xs) (drop n xs) (subst AreBytes (sym (take-append-drop n xs)) known)

-- the bytes of a field are those of its number, which fits it
abbrev pub Reads : Width → Type 0
Reads w = (text : List ℕ) → length text ≡ byte_len w → AreBytes text → (to_be_bytes w (from_be_bytes w text) ≡ text) × (from_be_bytes w text < 2 ^ bits w)

pub reads_byte : Reads w8
reads_byte [] len are = absurd (omega arith)
reads_byte (a ∷ []) len are = let small : a < 256 = are.small 0 in (ap (λ (n : ℕ). n ∷ []) (omega (arith, small)), small)
reads_byte (a ∷ b ∷ text) len are = absurd (omega arith)

pub reads_word : Reads w32
reads_word text len are = (
  be_bytes_4 text (from_be_bytes w32 text) len are.small refl,
  omega (arith, are.small 0, are.small 1, are.small 2, are.small 3),
)

pub reads_long : Reads w64
reads_long text len are = (
  be_bytes_8 text (from_be_bytes w64 text) len are.small refl,
  omega (arith, are.small 0, are.small 1, are.small 2, are.small 3, are.small 4, are.small 5, are.small 6, are.small 7),
)

pub split_front : (w : Width) (reads : Reads w) (text : List ℕ) → AreBytes text → byte_len w ≤ length text
    → (text ≡ to_be_bytes w (from_be_bytes w text) ++ drop (byte_len w) text) × (from_be_bytes w text < 2 ^ bits w)
split_front w reads text are long =
    let front : List ℕ = take (byte_len w) text in
    let behind : List ℕ = drop (byte_len w) text in
    let whole : front ++ behind ≡ text = take-append-drop (byte_len w) text in
    let len : length front ≡ byte_len w = length-take-le (byte_len w) text long in
    let number : from_be_bytes w text ≡ from_be_bytes w front = ap (from_be_bytes w) (sym whole) ∙ front_number w front behind (omega (arith, len)) in
    let (back, fits) = reads front len (bytes_taken (byte_len w) text are) in
    let spelled : front ≡ to_be_bytes w (from_be_bytes w text) = sym back ∙ ap (to_be_bytes w) (sym number) in
    (sym whole ∙ ap (λ (bytes : List ℕ). bytes ++ behind) spelled, subst (λ (n : ℕ). n < 2 ^ bits w) (sym number) fits)

-- bytes that begin with a number of four bytes, or of eight, and the last number of four bytes
pub word_first : (xs : List ℕ) (n : ℕ) → AreBytes xs → 4 ≤ length xs → n ≡ from_be_bytes w32 xs → xs ≡ word n ++ drop 4 xs
word_first xs n known four is = (split_front w32 reads_word xs known four).0 ∙ ap (λ (k : ℕ). word k ++ drop 4 xs) (sym is)

pub long_first : (xs : List ℕ) (n : ℕ) → AreBytes xs → 8 ≤ length xs → n ≡ from_be_bytes w64 xs → xs ≡ long n ++ drop 8 xs
long_first xs n known eight is = (split_front w64 reads_long xs known eight).0 ∙ ap (λ (k : ℕ). long k ++ drop 8 xs) (sym is)

pub last_word : (xs : List ℕ) (n : ℕ) → length xs ≡ 4 → AreBytes xs → n ≡ from_be_bytes w32 xs → xs ≡ word n
last_word xs n four known is = sym (be_bytes_4 xs n four known.small is)
