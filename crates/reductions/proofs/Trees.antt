-- The tree over the indices, and folds along it.
use Rattle.std.proofs.Common.{◌≡◌, ℕ, zero, suc, ◌+◌, ◌-◌, ◌/◌, ◌%◌, ◌^◌, ◌<◌, ◌≤◌, ◌&&◌, List, ap, ◌∙◌, refl, sym, arith, min, Bool, true, false, nat_lt, Option, None, Some, if◌then◌else◌}
use Rattle.std.proofs.lemmas.Bool.Decides.{nat_tests}
use Rattle.std.proofs.lemmas.Nat.{trailing_le}
use Rattle.reductions.specs.Laws.{AreParts, GoesOn, GoesOnRight, IsInOrder, IsTree, IsUnderRoot}
use Rattle.reductions.specs.Nodes.{gathered, joined, part_in}
use Rattle.reductions.specs.Trees.{IsAssociative, SLOTS, child, has_child, in_order, parent, slot, tree_fold}
use lib.Count.{count_trailing_zeros, under}

-- ---- slots

pow_pos : (s : ℕ) → 0 < 2 ^ s
pow_pos zero = omega arith
pow_pos (suc s) = omega (arith, pow_pos s)

-- a child's index ends with as many zeros as its slot says
slot_by : (k i j d : ℕ) → i % 2 ≡ d → j < under d (count_trailing_zeros k (i / 2))
    → ((h : ℕ) → h < count_trailing_zeros k (i / 2) → count_trailing_zeros k (i / 2 + 2 ^ h) ≡ h)
    → under ((i + 2 ^ j) % 2) (count_trailing_zeros k ((i + 2 ^ j) / 2)) ≡ j
slot_by k i zero zero even below ih =
    let odd : (i + 2 ^ 0) % 2 ≡ 1 = omega arith in
    ap (λ d. under d (count_trailing_zeros k ((i + 2 ^ 0) / 2))) odd
slot_by k i (suc j) zero even below ih =
    let still : (i + 2 ^ suc j) % 2 ≡ 0 = omega arith in
    let half : (i + 2 ^ suc j) / 2 ≡ i / 2 + 2 ^ j = omega arith in
    let lower : j < count_trailing_zeros k (i / 2) = omega arith in
    ap (λ d. under d (count_trailing_zeros k ((i + 2 ^ suc j) / 2))) still ∙ ap (λ x. suc (count_trailing_zeros k x)) half ∙ ap suc (ih j lower)
slot_by k i j (suc d) odd below ih = absurd (omega arith)

child_slot : (k i j : ℕ) → j < count_trailing_zeros k i → count_trailing_zeros k (i + 2 ^ j) ≡ j
unfolding count_trailing_zeros
child_slot zero i j below = absurd (omega arith)
child_slot (suc k) i j below = slot_by k i j (i % 2) refl below (λ h. child_slot k (i / 2) h)

-- the index without its lowest 1 ends with more zeros
up_by : (k i d : ℕ) → i % 2 ≡ d → 0 < i
    → (0 < i / 2 → (2 ^ count_trailing_zeros k (i / 2) ≤ i / 2) × (count_trailing_zeros k (i / 2) < count_trailing_zeros k (i / 2 - 2 ^ count_trailing_zeros k (i / 2))))
    → let t = under d (count_trailing_zeros k (i / 2)) in (2 ^ t ≤ i) × (t < under ((i - 2 ^ t) % 2) (count_trailing_zeros k ((i - 2 ^ t) / 2)))
up_by k i zero even positive ih =
    let t = count_trailing_zeros k (i / 2) in
    let found : (2 ^ t ≤ i / 2) × (t < count_trailing_zeros k (i / 2 - 2 ^ t)) = ih (omega arith) in
    let still : (i - 2 ^ suc t) % 2 ≡ 0 = omega (arith, found.0) in
    let half : (i - 2 ^ suc t) / 2 ≡ i / 2 - 2 ^ t = omega (arith, found.0) in
    let e : under ((i - 2 ^ suc t) % 2) (count_trailing_zeros k ((i - 2 ^ suc t) / 2)) ≡ suc (count_trailing_zeros k (i / 2 - 2 ^ t)) =
    ap (λ d. under d (count_trailing_zeros k ((i - 2 ^ suc t) / 2))) still ∙ ap (λ x. suc (count_trailing_zeros k x)) half in
    let le : 2 ^ suc t ≤ i = omega (arith, found.0) in
    (le, omega (arith, found.1, e))
up_by k i (suc d) odd positive ih =
    let even : (i - 2 ^ 0) % 2 ≡ 0 = omega arith in
    let e : under ((i - 2 ^ 0) % 2) (count_trailing_zeros k ((i - 2 ^ 0) / 2)) ≡ suc (count_trailing_zeros k ((i - 2 ^ 0) / 2)) =
    ap (λ d. under d (count_trailing_zeros k ((i - 2 ^ 0) / 2))) even in
    (omega arith, omega (arith, e))

up : (k i : ℕ) → 0 < i → i < 2 ^ k → (2 ^ count_trailing_zeros k i ≤ i) × (count_trailing_zeros k i < count_trailing_zeros k (i - 2 ^ count_trailing_zeros k i))
unfolding count_trailing_zeros
up zero i positive few = absurd (omega arith)
up (suc k) i positive few = up_by k i (i % 2) refl positive (λ p. up k (i / 2) p (omega arith))

-- the tests of a child
pub child_below : (n i j : ℕ) → has_child n i j ≡ true → (j < slot i) × (child i j < n)
child_below n i j has = (grind (arith, nat_tests, has), grind (arith, nat_tests, has))

is_child : (n i j : ℕ) → j < slot i → child i j < n → has_child n i j ≡ true
is_child n i j below within = grind (arith, nat_tests)

pub children : IsTree
children n i j has =
    let tests : (j < slot i) × (child i j < n) = child_below n i j has in
    let same : slot (child i j) ≡ j = child_slot 16 i j tests.0 in
    let back : (i + 2 ^ j) - 2 ^ j ≡ i = omega arith in
    (ap (λ s. child i j - 2 ^ s) same ∙ back, same, tests.1)

pub parents : IsUnderRoot
parents n i positive within few =
    let found : (2 ^ slot i ≤ i) × (slot i < slot (parent i)) = up 16 i positive (omega arith) in
    let back : child (parent i) (slot i) ≡ i = omega (arith, found.0) in
    (is_child n (parent i) (slot i) found.1 (omega (arith, back, within)), back, omega (arith, back, pow_pos (slot i)))

-- ---- folds

module _ {V : Type 0} (combined : V → V → V) (contribution : ℕ → V) where
  -- two runs of indices, one after the other
  after : IsAssociative combined → (i k m : ℕ)
      → in_order combined contribution i (k + suc m) ≡ combined (in_order combined contribution i k) (in_order combined contribution (i + suc k) m)
  unfolding in_order
  after assoc i k zero = let e : k + suc zero ≡ suc k = omega arith in ap (in_order combined contribution i) e
  after assoc i k (suc m) =
      let e : k + suc (suc m) ≡ suc (k + suc m) = omega arith in
      let at : i + suc (k + suc m) ≡ (i + suc k) + suc m = omega arith in
      ap (in_order combined contribution i) e
      ∙ ap (λ v. combined v (contribution (i + suc (k + suc m)))) (after assoc i k m)
      ∙ assoc (in_order combined contribution i k) (in_order combined contribution (i + suc k) m) (contribution (i + suc (k + suc m)))
      ∙ ap (λ x. combined (in_order combined contribution i k) (combined (in_order combined contribution (i + suc k) m) (contribution x))) at

  -- one more slot, of a child that there is, and of one that there is not
  both : IsAssociative combined → (n i s w k m l : ℕ) → w ≡ suc k → l ≡ k + suc m
      → tree_fold combined n contribution i s ≡ in_order combined contribution i k
      → tree_fold combined n contribution (i + w) s ≡ in_order combined contribution (i + w) m
      → combined (tree_fold combined n contribution i s) (tree_fold combined n contribution (i + w) s) ≡ in_order combined contribution i l
  both assoc n i s w k m l width len first second =
      ap (λ v. combined v (tree_fold combined n contribution (i + w) s)) first
      ∙ ap (combined (in_order combined contribution i k)) (second ∙ ap (λ x. in_order combined contribution (i + x) m) width)
      ∙ sym (after assoc i k m) ∙ ap (in_order combined contribution i) (sym len)

  with_child : (n i s : ℕ) (b : Bool) (value : V) → nat_lt (child i s) n ≡ b
      → (child i s < n → combined (tree_fold combined n contribution i s) (tree_fold combined n contribution (child i s) s) ≡ value)
      → (n ≤ child i s → tree_fold combined n contribution i s ≡ value)
      → (if b then combined (tree_fold combined n contribution i s) (tree_fold combined n contribution (child i s) s) else tree_fold combined n contribution i s) ≡ value
  with_child n i s true value test has none = has (grind (arith, nat_tests))
  with_child n i s false value test has none = none (grind (arith, nat_tests))

  first : (i : ℕ) → contribution i ≡ in_order combined contribution i 0
  unfolding in_order
  first i = refl

  -- the fold of a block of indices, as far as there are elements
  block : IsAssociative combined → (n i s : ℕ) → i < n → tree_fold combined n contribution i s ≡ in_order combined contribution i (min (2 ^ s) (n - i) - 1)
  unfolding tree_fold
  block assoc n i zero within =
      let e : min (2 ^ 0) (n - i) - 1 ≡ 0 = omega arith in
      first i ∙ ap (in_order combined contribution i) (sym e)
  block assoc n i (suc s) within =
      let positive : 0 < 2 ^ s = pow_pos s in
      with_child n i s (nat_lt (child i s) n) (in_order combined contribution i (min (2 ^ suc s) (n - i) - 1)) refl
      (λ has.
      let short : min (2 ^ s) (n - i) - 1 ≡ 2 ^ s - 1 = omega arith in
      both assoc n i s (2 ^ s) (2 ^ s - 1) (min (2 ^ s) (n - child i s) - 1) (min (2 ^ suc s) (n - i) - 1) (omega arith) (omega arith)
      (block assoc n i s within ∙ ap (in_order combined contribution i) short)
      (block assoc n (child i s) s has))
      (λ none.
      let same : min (2 ^ s) (n - i) - 1 ≡ min (2 ^ suc s) (n - i) - 1 = omega arith in
      block assoc n i s within ∙ ap (in_order combined contribution i) same)

-- element 0 ends with all zeros
root_slot : slot 0 ≡ 16
unfolding count_trailing_zeros
root_slot = refl

pub whole_tree : {V : Type 0} (combined : V → V → V) → IsInOrder combined
whole_tree combined assoc n contribution positive few =
    let len : min (2 ^ 16) (n - 0) - 1 ≡ n - 1 = omega arith in
    ap (tree_fold combined n contribution 0) root_slot ∙ block combined contribution assoc n 0 16 positive ∙ ap (in_order combined contribution 0) len

-- ---- what is gathered

pub some_joined : {V : Type 0} (combined : V → V → V) (left right : Option V) (value : V) → joined combined left right ≡ Some value
    → (a : V) × (b : V) × (left ≡ Some a) × (right ≡ Some b) × (value ≡ combined a b)
some_joined combined (Some a) (Some b) value e = (a, b, refl, refl, cc)
some_joined combined (Some a) None value e = cc
some_joined combined None right value e = cc

-- above the slot of the element there is nothing more
module _ {V : Type 0} (combined : V → V → V) (n i : ℕ) (own : Option V) (parts : List (ℕ × V)) where
  passed_by : (s : ℕ) → has_child n i s ≡ false → gathered combined n i own parts (suc s) ≡ gathered combined n i own parts s
  unfolding gathered
  passed_by s none = rw none refl

  no_more : (s d : ℕ) → slot i ≤ s → gathered combined n i own parts (s + d) ≡ gathered combined n i own parts s
  no_more s zero above = let e : s + 0 ≡ s = omega arith in ap (gathered combined n i own parts) e
  no_more s (suc d) above =
      let e : s + suc d ≡ suc (s + d) = omega arith in
      let none : has_child n i (s + d) ≡ false = grind (arith, nat_tests) in
      ap (gathered combined n i own parts) e ∙ passed_by (s + d) none ∙ no_more s d above

  -- all of the slots
  pub all_slots : gathered combined n i own parts SLOTS ≡ gathered combined n i own parts (slot i)
  all_slots =
      let few : slot i ≤ 16 = trailing_le 16 i in
      let e : 16 ≡ slot i + (16 - slot i) = omega (arith, few) in
      ap (gathered combined n i own parts) e ∙ no_more (slot i) (16 - slot i) (omega arith)

module _ {V : Type 0} (combined : V → V → V) (n i : ℕ) (contribution : ℕ → V) (parts : List (ℕ × V)) where
  -- down to a slot below that of the element, one more slot
  right_by : (s : ℕ) (b : Bool) (value : V) → nat_lt s (slot i) && nat_lt (child i s) n ≡ b → s < slot i
      → AreParts combined n contribution i parts
      → ((v : V) → gathered combined n i (Some (contribution i)) parts s ≡ Some v → v ≡ tree_fold combined n contribution i s)
      → (if b then joined combined (gathered combined n i (Some (contribution i)) parts s) (part_in s parts) else gathered combined n i
      (Some (contribution i)) parts s) ≡ Some value
      → value ≡ (if nat_lt (child i s) n then combined (tree_fold combined n contribution i s)
      (tree_fold combined n contribution (child i s) s) else tree_fold combined n contribution i s)
  right_by s true value test below right ih e =
      let has : child i s < n = grind (arith, nat_tests, test) in
      let is_true : nat_lt (child i s) n ≡ true = grind (arith, nat_tests) in
      let found = some_joined combined (gathered combined n i (Some (contribution i)) parts s) (part_in s parts) value e in
      rw is_true (found.4 ∙ ap (λ v. combined v found.1) (ih found.0 found.2) ∙ ap (combined (tree_fold combined n contribution i s)) (right s found.1 test found.3))
  right_by s false value test below right ih e =
      let is_false : nat_lt (child i s) n ≡ false = grind (arith, nat_tests, test) in
      rw is_false (ih value e)

  right_below : (s : ℕ) (value : V) → s ≤ slot i → AreParts combined n contribution i parts
      → gathered combined n i (Some (contribution i)) parts s ≡ Some value → value ≡ tree_fold combined n contribution i s
  unfolding gathered tree_fold
  right_below zero value few right e = cc
  right_below (suc s) value few right e =
      right_by s (has_child n i s) value refl (omega arith) right (λ v. right_below s v (omega arith) right) e

  -- and with all parts there is a value
  there_by : (s : ℕ) (b : Bool) → nat_lt s (slot i) && nat_lt (child i s) n ≡ b → s < slot i
      → ((j : ℕ) → has_child n i j ≡ true → part_in j parts ≡ Some (tree_fold combined n contribution (child i j) j))
      → gathered combined n i (Some (contribution i)) parts s ≡ Some (tree_fold combined n contribution i s)
      → (if b then joined combined (gathered combined n i (Some (contribution i)) parts s) (part_in s parts) else gathered combined n i (Some (contribution i)) parts s)
      ≡ Some (if nat_lt (child i s) n then combined (tree_fold combined n contribution i s)
      (tree_fold combined n contribution (child i s) s) else tree_fold combined n contribution i s)
  there_by s true test below there ih =
      let is_true : nat_lt (child i s) n ≡ true = grind (arith, nat_tests, test) in
      rw (is_true, ih, there s test) refl
  there_by s false test below there ih =
      let is_false : nat_lt (child i s) n ≡ false = grind (arith, nat_tests, test) in
      rw (is_false, ih) refl

  there_below : (s : ℕ) → s ≤ slot i → ((j : ℕ) → has_child n i j ≡ true → part_in j parts ≡ Some (tree_fold combined n contribution (child i j) j))
      → gathered combined n i (Some (contribution i)) parts s ≡ Some (tree_fold combined n contribution i s)
  unfolding gathered tree_fold
  there_below zero few there = refl
  there_below (suc s) few there = there_by s (has_child n i s) refl (omega arith) there (there_below s (omega arith) there)

pub goes_on_right : {V : Type 0} (combined : V → V → V) → GoesOnRight combined
goes_on_right combined n i contribution parts value right e =
    right_below combined n i contribution parts (slot i) value (omega arith) right (sym (all_slots combined n i (Some (contribution i)) parts) ∙ e)

pub goes_on : {V : Type 0} (combined : V → V → V) → GoesOn combined
goes_on combined n i contribution parts there =
    all_slots combined n i (Some (contribution i)) parts ∙ there_below combined n i contribution parts (slot i) (omega arith) there
