-- What goes up the tree, in terms of what the elements contribute.
use Rattle.std.specs.Prelude.{◌≡◌, ℕ, ◌-◌, ◌<◌, ◌≤◌, List, Some, true}
use Rattle.chare_index.specs.declared.limits.TheConstants.Limits.{ELEMENTS}
use Rattle.reductions.specs.Nodes.{gathered, part_in}
use Rattle.reductions.specs.Trees.{IsAssociative, SLOTS, child, has_child, in_order, parent, slot, tree_fold}

-- the children of an element are those whose parent it is, each in its own slot
abbrev pub IsTree : Type 0
IsTree = (n i j : ℕ) → has_child n i j ≡ true → (parent (child i j) ≡ i) × (slot (child i j) ≡ j) × (child i j < n)

-- each element but element 0 is the child of its parent
abbrev pub IsUnderRoot : Type 0
IsUnderRoot = (n i : ℕ) → 0 < i → i < n → n ≤ ELEMENTS → (has_child n (parent i) (slot i) ≡ true) × (child (parent i) (slot i) ≡ i) × (parent i < i)

module _ {V : Type 0} (combined : V → V → V) where
  -- each of these parts of element i is the fold of that child's subtree
  abbrev pub AreParts : ℕ → (ℕ → V) → ℕ → List (ℕ × V) → Type 0
  AreParts n contribution i parts = (j : ℕ) (value : V) → has_child n i j ≡ true → part_in j parts ≡ Some value → value ≡ tree_fold combined n contribution (child i j) j

  -- where its contribution and its parts are right, what goes on from an element is the fold of its subtree
  abbrev pub GoesOnRight : Type 0
  GoesOnRight = (n i : ℕ) (contribution : ℕ → V) (parts : List (ℕ × V)) (value : V) → AreParts n contribution i parts
      → gathered combined n i (Some (contribution i)) parts SLOTS ≡ Some value → value ≡ tree_fold combined n contribution i (slot i)

  -- and it goes on once the part of each child is there
  abbrev pub GoesOn : Type 0
  GoesOn = (n i : ℕ) (contribution : ℕ → V) (parts : List (ℕ × V))
      → ((j : ℕ) → has_child n i j ≡ true → part_in j parts ≡ Some (tree_fold combined n contribution (child i j) j))
      → gathered combined n i (Some (contribution i)) parts SLOTS ≡ Some (tree_fold combined n contribution i (slot i))

  -- of an associative operation the fold of the whole tree is the fold from the left in the order of the indices
  abbrev pub IsInOrder : Type 0
  IsInOrder = IsAssociative combined → (n : ℕ) (contribution : ℕ → V) → 0 < n → n ≤ ELEMENTS
      → tree_fold combined n contribution 0 (slot 0) ≡ in_order combined contribution 0 (n - 1)
