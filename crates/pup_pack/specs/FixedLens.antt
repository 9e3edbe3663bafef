-- Types whose values all pack into the same number of bytes. A list of them packs into that number of bytes for each item.
use Rattle.std.specs.Prelude.{◌≡◌, ℕ, ◌+◌, ◌*◌, List, [], ◌∷◌, ◌++◌, length, flat_map, All}
use Rattle.std.proofs.Common.{refl, arith, length-append}
use Rattle.std.proofs.Math.Nat.{suc-mul, zero-mul}
use Rattle.std.proofs.lemmas.List.Elements.{All-head, All-tail}
use Rattle.pup_pack.specs.Arrays.{AreItems, pack_array}

-- each value packs into n bytes
pub record IsFixed {T : Type 0} (fits : T → Type 0) (pack : T → List ℕ) (n : ℕ) : Type 0 where
  pub each : (x : T) → fits x → length (pack x) ≡ n

pub pair_fixed : {T U : Type 0} {f : T → Type 0} {p : T → List ℕ} {m : ℕ} {g : U → Type 0} {q : U → List ℕ} {n : ℕ}
    → IsFixed f p m → IsFixed g q n → IsFixed {T = T × U} (λ s. f s.0 × g s.1) (λ s. p s.0 ++ q s.1) (m + n)
pair_fixed {p = p} {q = q} first second =
    record { each = λ s fit. rw (length-append (p s.0) (q s.1), first.each s.0 fit.0, second.each s.1 fit.1) refl }

-- of a struct that packs as its fields
pub struct_fixed : {F S : Type 0} {f : F → Type 0} {p : F → List ℕ} {n : ℕ} (fields : S → F) → IsFixed f p n → IsFixed (λ s. f (fields s)) (λ s. p (fields s)) n
struct_fixed fields whole = record { each = λ s fit. whole.each (fields s) fit }

pub items_fixed : {T : Type 0} (fits : T → Type 0) (pack : T → List ℕ) (n : ℕ) → IsFixed fits pack n
    → (xs : List T) → All fits xs → length (flat_map pack xs) ≡ length xs * n
items_fixed fits pack n law [] fit = rw zero-mul refl
items_fixed fits pack n law (x ∷ xs) fit =
    let here : length (pack x) ≡ n = law.each x (All-head fits x xs fit) in
    let rest : length (flat_map pack xs) ≡ length xs * n = items_fixed fits pack n law xs (All-tail fits x xs fit) in
    omega (arith, length-append (pack x) (flat_map pack xs), here, rest, suc-mul (length xs) n)

pub array_fixed : {T : Type 0} {f : T → Type 0} {p : T → List ℕ} {n : ℕ} (count : ℕ) → IsFixed f p n → IsFixed (AreItems f count) (pack_array p) (count * n)
array_fixed {f = f} {p = p} {n = n} count law = record { each = λ xs fit. rw (items_fixed f p n law xs fit.1, fit.0) refl }
