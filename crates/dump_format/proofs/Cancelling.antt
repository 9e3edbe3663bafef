-- Where two texts of one form are equal, so are their parts.
use Rattle.std.proofs.Common.{◌≡◌, ℕ, ◌^◌, ◌<◌, List, [], ◌∷◌, ◌++◌, length, drop, append_assoc, ℤ, refl, ap, sym, ◌∙◌, arith}
use Rattle.std.specs.Prelude.{All, FitsSigned, flat_map}
use Rattle.std.specs.Int.{Width, w32, w64, byte_len, cast_signed, cast_unsigned, from_be_bytes, to_be_bytes}
use mir.Val.{bits}
use Rattle.std.proofs.Math.Facts.{Fits-lt-pow, Fits-of_z}
use Rattle.std.proofs.lemmas.Int.{to_z-of_z}
use Rattle.std.proofs.lemmas.List.{drop_at}
use Rattle.std.proofs.lemmas.List.Elements.{All-head, All-tail}
use Rattle.std.proofs.lemmas.Nat.{from_be_bytes-to_be_bytes_4, from_be_bytes-to_be_bytes_8}
use Rattle.dump_format.specs.Dumps.{ArePrices, AreWords}
use Rattle.dump_format.specs.Text.{word, long, price, element_text, elements_text, move_text}
use Rattle.dump_format.proofs.Judging.{front_number}
use Rattle.dump_format.proofs.Spelling.{number_length}

-- each number of this width is determined by its bytes
abbrev pub Spells : Width → Type 0
Spells w = (n : ℕ) → n < 2 ^ bits w → from_be_bytes w (to_be_bytes w n) ≡ n

-- the number at the front, and what follows it
number_front : (w : Width) (spells : Spells w) (n : ℕ) (rest : List ℕ) → n < 2 ^ bits w → from_be_bytes w (to_be_bytes w n ++ rest) ≡ n
number_front w spells n rest fits = front_number w (to_be_bytes w n) rest (omega (arith, number_length w n)) ∙ spells n fits

number_rest : (w : Width) (n : ℕ) (rest : List ℕ) → drop (byte_len w) (to_be_bytes w n ++ rest) ≡ rest
number_rest w n rest = drop_at (to_be_bytes w n) rest (byte_len w) (number_length w n)

pub same_number : (w : Width) (spells : Spells w) (m n : ℕ) (a b : List ℕ) → m < 2 ^ bits w → n < 2 ^ bits w → to_be_bytes w m ++ a ≡ to_be_bytes w n ++ b → (m ≡ n) × (a ≡ b)
same_number w spells m n a b fits fits' same = (
  sym (number_front w spells m a fits) ∙ ap (from_be_bytes w) same ∙ number_front w spells n b fits',
  sym (number_rest w m a) ∙ ap (drop (byte_len w)) same ∙ number_rest w n b,
)

pub same_word : (m n : ℕ) (a b : List ℕ) → m < 2 ^ 32 → n < 2 ^ 32 → word m ++ a ≡ word n ++ b → (m ≡ n) × (a ≡ b)
same_word m n a b fits fits' same = same_number w32 from_be_bytes-to_be_bytes_4 m n a b fits fits' same

pub same_long : (m n : ℕ) (a b : List ℕ) → m < 2 ^ 64 → n < 2 ^ 64 → long m ++ a ≡ long n ++ b → (m ≡ n) × (a ≡ b)
same_long m n a b fits fits' same = same_number w64 from_be_bytes-to_be_bytes_8 m n a b fits fits' same

same_price : (y z : ℤ) (a b : List ℕ) → FitsSigned w64 y → FitsSigned w64 z → price y ++ a ≡ price z ++ b → (y ≡ z) × (a ≡ b)
same_price y z a b fits fits' same =
    let (bits_same, rest) = same_long (cast_unsigned w64 y) (cast_unsigned w64 z) a b (Fits-lt-pow (Fits-of_z fits)) (Fits-lt-pow (Fits-of_z fits')) same in
    (sym (to_z-of_z w64 y fits) ∙ ap (cast_signed w64) bits_same ∙ to_z-of_z w64 z fits', rest)

-- the numbers of a move fit their fields
abbrev pub FitsMove : ℕ × ℕ × ℕ → Type 0
FitsMove m = (m.0 < 2 ^ 32) × (m.1 < 2 ^ 32) × (m.2 < 2 ^ 32)

same_move : (m n : ℕ × ℕ × ℕ) (a b : List ℕ) → FitsMove m → FitsMove n → move_text m ++ a ≡ move_text n ++ b → (m ≡ n) × (a ≡ b)
same_move m n a b fits fits' same =
    let apart : word m.0 ++ (word m.1 ++ (word m.2 ++ a)) ≡ word n.0 ++ (word n.1 ++ (word n.2 ++ b)) = same in
    let (index, behind) = same_word m.0 n.0 (word m.1 ++ (word m.2 ++ a)) (word n.1 ++ (word n.2 ++ b)) fits.0 fits'.0 apart in
    let (present, last) = same_word m.1 n.1 (word m.2 ++ a) (word n.2 ++ b) fits.1 fits'.1 behind in
    let (planned, rest) = same_word m.2 n.2 a b fits.2 fits'.2 last in
    (rw (index, present, planned) refl, rest)

-- equally many pieces, one after another
same_pieces : {X : Type 0} (f : X → List ℕ) (P : X → Type 0) → ((x y : X) (a b : List ℕ) → P x → P y → f x ++ a ≡ f y ++ b → (x ≡ y) × (a ≡ b))
    → (xs ys : List X) (a b : List ℕ) → length xs ≡ length ys → All P xs → All P ys → flat_map f xs ++ a ≡ flat_map f ys ++ b → (xs ≡ ys) × (a ≡ b)
same_pieces f P one [] [] a b len fits fits' same = (refl, same)
same_pieces f P one [] (y ∷ ys) a b len fits fits' same = absurd (omega arith)
same_pieces f P one (x ∷ xs) [] a b len fits fits' same = absurd (omega arith)
same_pieces f P one (x ∷ xs) (y ∷ ys) a b len fits fits' same =
    let apart = sym (append_assoc (f x) (flat_map f xs) a) ∙ same ∙ append_assoc (f y) (flat_map f ys) b in
    let (first, behind) = one x y (flat_map f xs ++ a) (flat_map f ys ++ b) (All-head P x xs fits) (All-head P y ys fits') apart in
    let (others, rest) = same_pieces f P one xs ys a b (omega arith) (All-tail P x xs fits) (All-tail P y ys fits') behind in
    (rw (first, others) refl, rest)

pub same_words : (xs ys : List ℕ) (a b : List ℕ) → length xs ≡ length ys → AreWords xs → AreWords ys → flat_map word xs ++ a ≡ flat_map word ys ++ b → (xs ≡ ys) × (a ≡ b)
same_words xs ys a b len fits fits' same = same_pieces word (λ n. n < 2 ^ 32) same_word xs ys a b len fits fits' same

pub same_prices : (xs ys : List ℤ) (a b : List ℕ) → length xs ≡ length ys → ArePrices xs → ArePrices ys → flat_map price xs ++ a ≡ flat_map price ys ++ b → (xs ≡ ys) × (a ≡ b)
same_prices xs ys a b len fits fits' same = same_pieces price (FitsSigned w64) same_price xs ys a b len fits fits' same

pub same_moves : (xs ys : List (ℕ × ℕ × ℕ)) (a b : List ℕ) → length xs ≡ length ys → All FitsMove xs → All FitsMove ys
    → flat_map move_text xs ++ a ≡ flat_map move_text ys ++ b → (xs ≡ ys) × (a ≡ b)
same_moves xs ys a b len fits fits' same = same_pieces move_text FitsMove same_move xs ys a b len fits fits' same

-- the numbers of elements fit their fields, and there are as many loads as sizes
pub record AreSpelled (w : Width) (loads : List ℕ) (sizes : List (ℕ × ℕ)) : Type 0 where
  pub paired : length loads ≡ length sizes
  pub loads_fit : All (λ load. load < 2 ^ bits w) loads
  pub sizes_fit : All (λ size. size.0 < 2 ^ 32) sizes
  pub places_fit : All (λ size. size.1 < 2 ^ 32) sizes

spelled_tail : (w : Width) (load : ℕ) (loads : List ℕ) (size : ℕ × ℕ) (sizes : List (ℕ × ℕ)) → AreSpelled w (load ∷ loads) (size ∷ sizes) → AreSpelled w loads sizes
spelled_tail w load loads size sizes is =
    record {
      paired = omega (arith, is.paired);
      loads_fit = All-tail (λ (load : ℕ). load < 2 ^ bits w) load loads is.loads_fit;
      sizes_fit = All-tail (λ (size : ℕ × ℕ). size.0 < 2 ^ 32) size sizes is.sizes_fit;
      places_fit = All-tail (λ (size : ℕ × ℕ). size.1 < 2 ^ 32) size sizes is.places_fit;
    }

-- the numbers of an element fit their fields
abbrev FitsElement : Width → ℕ → ℕ × ℕ → Type 0
FitsElement w load size = (load < 2 ^ bits w) × (size.0 < 2 ^ 32) × (size.1 < 2 ^ 32)

spelled_head : (w : Width) (load : ℕ) (loads : List ℕ) (size : ℕ × ℕ) (sizes : List (ℕ × ℕ)) → AreSpelled w (load ∷ loads) (size ∷ sizes) → FitsElement w load size
spelled_head w load loads size sizes is = (
  All-head (λ (load : ℕ). load < 2 ^ bits w) load loads is.loads_fit,
  All-head (λ (size : ℕ × ℕ). size.0 < 2 ^ 32) size sizes is.sizes_fit,
  All-head (λ (size : ℕ × ℕ). size.1 < 2 ^ 32) size sizes is.places_fit,
)

same_element : (w : Width) (spells : Spells w) (load load' : ℕ) (size size' : ℕ × ℕ) (a b : List ℕ) → FitsElement w load size → FitsElement w load' size'
    → element_text w load size ++ a ≡ element_text w load' size' ++ b → (load ≡ load') × (size ≡ size') × (a ≡ b)
same_element w spells load load' size size' a b fits fits' same =
    let apart = sym (append_assoc (to_be_bytes w load) (word size.0 ++ word size.1) a) ∙ same ∙ append_assoc (to_be_bytes w load') (word size'.0 ++ word size'.1) b in
    let (first, behind) = same_number w spells load load' (word size.0 ++ (word size.1 ++ a)) (word size'.0 ++ (word size'.1 ++ b)) fits.0 fits'.0 apart in
    let (bytes, last) = same_word size.0 size'.0 (word size.1 ++ a) (word size'.1 ++ b) fits.1 fits'.1 behind in
    let (place, rest) = same_word size.1 size'.1 a b fits.2 fits'.2 last in
    (first, rw (bytes, place) refl, rest)

-- equally many elements, one after another
pub same_elements : (w : Width) (spells : Spells w) (loads loads' : List ℕ) (sizes sizes' : List (ℕ × ℕ)) (a b : List ℕ)
    → length loads ≡ length loads' → AreSpelled w loads sizes → AreSpelled w loads' sizes'
    → elements_text w loads sizes ++ a ≡ elements_text w loads' sizes' ++ b → (loads ≡ loads') × (sizes ≡ sizes') × (a ≡ b)
unfolding elements_text
same_elements w spells [] [] [] [] a b len is is' same = (refl, refl, same)
same_elements w spells [] [] [] (size' ∷ sizes') a b len is is' same = absurd (omega (arith, is'.paired))
same_elements w spells [] [] (size ∷ sizes) sizes' a b len is is' same = absurd (omega (arith, is.paired))
same_elements w spells [] (load' ∷ loads') sizes sizes' a b len is is' same = absurd (omega arith)
same_elements w spells (load ∷ loads) [] sizes sizes' a b len is is' same = absurd (omega arith)
same_elements w spells (load ∷ loads) (load' ∷ loads') [] sizes' a b len is is' same = absurd (omega (arith, is.paired))
same_elements w spells (load ∷ loads) (load' ∷ loads') (size ∷ sizes) [] a b len is is' same = absurd (omega (arith, is'.paired))
same_elements w spells (load ∷ loads) (load' ∷ loads') (size ∷ sizes) (size' ∷ sizes') a b len is is' same =
    let front = elements_text w loads sizes in
    let front' = elements_text w loads' sizes' in
    let apart = sym (append_assoc (element_text w load size) front a) ∙ same ∙ append_assoc (element_text w load' size') front' b in
    let (first, pair, behind) = same_element w spells load load' size size' (front ++ a) (front' ++ b)
    (spelled_head w load loads size sizes is) (spelled_head w load' loads' size' sizes' is') apart in
    let (others, pairs, rest) = same_elements w spells loads loads' sizes sizes' a b (omega arith) (spelled_tail w load loads size sizes is)
    (spelled_tail w load' loads' size' sizes' is') behind in
    (rw (first, others) refl, rw (pair, pairs) refl, rest)
