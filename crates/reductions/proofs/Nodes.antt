-- What is known of nodes.
use Rattle.std.proofs.Common.{◌≡◌, ℕ, zero, suc, ◌+◌, ◌-◌, ◌<◌, List, [], ◌∷◌, ◌++◌, ap, ◌∙◌, refl, sym, arith, Bool, true, false, Option, None, Some, ◌==◌, if◌then◌else◌, add-one}
use Rattle.reductions.specs.Nodes.{gathered, joined, part_in}
use Rattle.reductions.specs.Trees.{SLOTS, has_child, slot}
use Rattle.reductions.proofs.Trees.{all_slots}

first_by : {V : Type 0} (b : Bool) (x value : V) (rest longer : Option V) → (rest ≡ Some value → longer ≡ Some value)
    → (if b then Some x else rest) ≡ Some value → (if b then Some x else longer) ≡ Some value
first_by true x value rest longer more first = first
first_by false x value rest longer more first = more first

-- a part that is among the first is found there
pub part_first : {V : Type 0} (slot : ℕ) (parts more : List (ℕ × V)) (value : V) → part_in slot parts ≡ Some value → part_in slot (parts ++ more) ≡ Some value
part_first slot [] more value first = cc
part_first slot (x ∷ xs) more value first = first_by (x.0 == slot) x.1 value (part_in slot xs) (part_in slot (xs ++ more)) (part_first slot xs more value) first

later_by : {V : Type 0} (b : Bool) (x : V) (rest longer other : Option V) → (rest ≡ None → longer ≡ other) → (if b then Some x else rest) ≡ None
    → (if b then Some x else longer) ≡ other
later_by true x rest longer other more none = cc
later_by false x rest longer other more none = more none

-- and otherwise among the others
pub part_later : {V : Type 0} (slot : ℕ) (parts more : List (ℕ × V)) → part_in slot parts ≡ None → part_in slot (parts ++ more) ≡ part_in slot more
part_later slot [] more none = refl
part_later slot (x ∷ xs) more none = later_by (x.0 == slot) x.1 (part_in slot xs) (part_in slot (xs ++ more)) (part_in slot more) (part_later slot xs more) none

-- down to no slot there is the own contribution
pub gathered_none : {V : Type 0} (combined : V → V → V) (n i : ℕ) (own : Option V) (parts : List (ℕ × V)) → gathered combined n i own parts 0 ≡ own
unfolding gathered
gathered_none combined n i own parts = refl

-- with one slot more there is its part, if it is that of a child
pub gathered_more : {V : Type 0} (combined : V → V → V) (n i : ℕ) (own : Option V) (parts : List (ℕ × V)) (s : ℕ)
    → gathered combined n i own parts (s + 1) ≡ (if has_child n i s then joined combined (gathered combined n i own parts s)
    (part_in s parts) else gathered combined n i own parts s)
unfolding gathered
gathered_more combined n i own parts s = rw add-one refl

joined_none : {V : Type 0} (combined : V → V → V) (left : Option V) → joined combined left None ≡ None
joined_none combined (Some left) = refl
joined_none combined None = refl

module _ {V : Type 0} (combined : V → V → V) (n i : ℕ) (own : Option V) (parts : List (ℕ × V)) where
  -- what is missing once stays missing
  none_more : (s : ℕ) → gathered combined n i own parts s ≡ None → gathered combined n i own parts (suc s) ≡ None
  unfolding gathered
  none_more s none = by (has_child n i s)
    where
      by : (b : Bool) → (if b then joined combined (gathered combined n i own parts s) (part_in s parts) else gathered combined n i own parts s) ≡ None
      by true = rw none refl
      by false = none

  none_stays : (s d : ℕ) → gathered combined n i own parts s ≡ None → gathered combined n i own parts (s + d) ≡ None
  none_stays s zero none = let e : s + 0 ≡ s = omega arith in ap (gathered combined n i own parts) e ∙ none
  none_stays s (suc d) none =
      let e : s + suc d ≡ suc (s + d) = omega arith in
      ap (gathered combined n i own parts) e ∙ none_more (s + d) (none_stays s d none)

  none_to_end : (s : ℕ) → s < SLOTS + 1 → gathered combined n i own parts s ≡ None → gathered combined n i own parts SLOTS ≡ None
  none_to_end s below none = let e : 16 ≡ s + (16 - s) = omega (arith, below) in ap (gathered combined n i own parts) e ∙ none_stays s (16 - s) none

  lacking_one : (s : ℕ) → has_child n i s ≡ true → part_in s parts ≡ None → gathered combined n i own parts (suc s) ≡ None
  unfolding gathered
  lacking_one s has none = rw (has, none) (joined_none combined (gathered combined n i own parts s))

  -- with no contribution there is no value
  pub without_own : own ≡ None → gathered combined n i own parts SLOTS ≡ None
  without_own none = none_to_end 0 (omega arith) (gathered_none combined n i own parts ∙ none)

  -- nor without the part of a child
  pub without_part : (s : ℕ) → s < SLOTS → has_child n i s ≡ true → part_in s parts ≡ None → gathered combined n i own parts SLOTS ≡ None
  without_part s below has none = none_to_end (suc s) (omega (arith, below)) (lacking_one s has none)

  -- the slots below that of the element are enough
  pub gathered_below : gathered combined n i own parts (slot i) ≡ gathered combined n i own parts SLOTS
  gathered_below = sym (all_slots combined n i own parts)
