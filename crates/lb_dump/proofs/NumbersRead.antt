-- Numbers in bytes.
use Rattle.std.proofs.Common.{◌≡◌, ℕ, ◌+◌, ◌-◌, ◌<◌, ◌≤◌, ◌^◌, List, [], ◌∷◌, ◌++◌, length, drop, take, ap, sym, ◌∙◌, subst, arith, length-drop, append_assoc, ℤ, flat_map, All, FitsSigned}
use Rattle.std.specs.Int.{w32, w64, from_be_bytes, to_be_bytes, cast_signed, cast_unsigned}
use Rattle.std.proofs.lemmas.List.{append-nil, nil_from_length, take_rest, drop-drop, drop-append-le}
use Rattle.std.proofs.lemmas.List.Elements.{All-push}
use Rattle.std.proofs.lemmas.Int.{of_z-to_z, to_z-of_z}
use Rattle.std.proofs.lemmas.Nat.{be_bytes_4, be_bytes_8}
use Rattle.dump_format.specs.Text.{word, long, price}
use Rattle.dump_format.proofs.Bytes.{AreBytes, bytes_between}
use Rattle.dump_format.proofs.Judging.{front_number}
use Rattle.dump_format.proofs.Spelling.{flat_map_push}
use Rattle.lb_dump.specs.Plans.{word_at}

-- a number in the first bytes of a longer list
pub word-append : (xs ys : List ℕ) → 4 ≤ length xs → from_be_bytes w32 (xs ++ ys) ≡ from_be_bytes w32 xs
word-append xs ys long = front_number w32 xs ys long

-- and from an offset on
pub word_at-append : (xs ys : List ℕ) (at : ℕ) → at + 4 ≤ length xs → word_at (xs ++ ys) at ≡ word_at xs at
word_at-append xs ys at long =
    let inside : at ≤ length xs = omega arith in
    let enough : 4 ≤ length (drop at xs) = rw length-drop (omega arith) in
    ap (from_be_bytes w32) (drop-append-le at xs ys inside) ∙ word-append (drop at xs) ys enough

-- the number that a call was given in a part that begins at an offset
pub word_read : (xs : List ℕ) (at n : ℕ) → n ≡ from_be_bytes w32 (take (length xs - at) (drop at xs)) → n ≡ word_at xs at
word_read xs at n e = e ∙ ap (from_be_bytes w32) (take_rest xs at)

-- the rest after n bytes of a part that begins at an offset
pub behind_part : (xs : List ℕ) (at n : ℕ) (rest : List ℕ) → rest ≡ drop n (take (length xs - at) (drop at xs)) → rest ≡ drop (at + n) xs
behind_part xs at n rest e = e ∙ (ap (drop n) (take_rest xs at) ∙ drop-drop n at xs)

-- the first bytes of a list are these numbers, each within its range, and the rest is still to be read
pub record AreRead {X : Type 0} (text : X → List ℕ) (Within : X → Type 0) (items : List X) (rest all : List ℕ) : Type 0 where
  pub spelled : flat_map text items ++ rest ≡ all
  pub range : All Within items

abbrev pub WordsRead : List ℕ → List ℕ → List ℕ → Type 0
WordsRead items rest all = AreRead word (λ n. n < 2 ^ 32) items rest all

abbrev pub PricesRead : List ℤ → List ℕ → List ℕ → Type 0
PricesRead items rest all = AreRead price (λ z. FitsSigned w64 z) items rest all

-- one number more
read_more : {X : Type 0} (text : X → List ℕ) (Within : X → Type 0) (items : List X) (x : X) (rest first behind all : List ℕ)
    → AreRead text Within items rest all → rest ≡ first ++ behind → text x ≡ first → Within x → AreRead text Within (items ++ x ∷ []) behind all
read_more text Within items x rest first behind all read split is inside =
    record {
      spelled = ap (λ front. front ++ behind) (flat_map_push text items x)
          ∙ (append_assoc (flat_map text items) (text x) behind
          ∙ (ap (λ mid. flat_map text items ++ (mid ++ behind)) is ∙ (ap (λ end. flat_map text items ++ end) (sym split) ∙ read.spelled)));
      range = All-push Within items x read.range inside;
    }

-- the bytes of the next number
next_bytes : {X : Type 0} (text : X → List ℕ) (Within : X → Type 0) (items : List X) (rest first behind all : List ℕ) → AreBytes all
    → AreRead text Within items rest all → rest ≡ first ++ behind → AreBytes first
next_bytes text Within items rest first behind all known read split =
    bytes_between (flat_map text items) first behind all (ap (λ end. flat_map text items ++ end) (sym split) ∙ read.spelled) known

pub words_more : (items new : List ℕ) (n : ℕ) (rest first behind all : List ℕ) → AreBytes all → WordsRead items rest all → rest ≡ first
    ++ behind → length first ≡ 4 → n ≡ from_be_bytes w32 first → n < 2 ^ 32 → new ≡ items ++ n ∷ [] → WordsRead new behind all
words_more items new n rest first behind all known read split four is small grown =
    let bytes : AreBytes first = next_bytes word (λ m. m < 2 ^ 32) items rest first behind all known read split in
    let more : WordsRead (items ++ n ∷ []) behind all = read_more word (λ m. m < 2 ^ 32) items n rest first behind all read split (be_bytes_4 first n four bytes.small is) small in
    subst (λ it. WordsRead it behind all) (sym grown) more

price_is : (n : ℕ) (z : ℤ) (first : List ℕ) → AreBytes first → length first ≡ 8 → n < 2 ^ 64 → n ≡ from_be_bytes w64 first → z ≡ cast_signed w64 n → price z ≡ first
price_is n z first known eight small is cast = ap price cast ∙ (ap (to_be_bytes w64) (of_z-to_z w64 n small) ∙ be_bytes_8 first n eight known.small is)

pub prices_more : (items new : List ℤ) (n : ℕ) (z : ℤ) (rest first behind all : List ℕ) → AreBytes all → PricesRead items rest all
    → rest ≡ first ++ behind → length first ≡ 8 → n ≡ from_be_bytes w64 first → n < 2 ^ 64 → z ≡ cast_signed w64 n → FitsSigned w64 z
    → new ≡ items ++ cast_signed w64 (cast_unsigned w64 z) ∷ [] → PricesRead new behind all
prices_more items new n z rest first behind all known read split eight is small cast fits grown =
    let bytes : AreBytes first = next_bytes price (λ y. FitsSigned w64 y) items rest first behind all known read split in
    let more : PricesRead (items ++ z ∷ []) behind all = read_more price (λ y. FitsSigned w64 y) items z rest first behind all read split
    (price_is n z first bytes eight small is cast) fits in
    subst (λ it. PricesRead it behind all) (sym (grown ∙ ap (λ y. items ++ y ∷ []) (to_z-of_z w64 z fits))) more

-- where nothing is left
pub all_read : {X : Type 0} (text : X → List ℕ) (Within : X → Type 0) (items : List X) (rest all : List ℕ)
    → AreRead text Within items rest all → length rest ≡ 0 → flat_map text items ≡ all
all_read text Within items rest all read none = sym (append-nil (flat_map text items)) ∙ (ap (λ end. flat_map text items ++ end) (sym (nil_from_length rest none)) ∙ read.spelled)
