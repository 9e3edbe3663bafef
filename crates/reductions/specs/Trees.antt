-- The tree of a reduction, over the indices of the elements. Source: the binomial tree of collective operations (Johnsson and Ho 1989,
-- on hypercubes), in which the parent of an index is that index without its lowest 1. That parts are combined in the order of the
-- indices is this project's choice: the Charm++ manual, on reductions, promises no order.
use Rattle.std.specs.Prelude.{◌≡◌, ℕ, zero, suc, ◌+◌, ◌-◌, ◌^◌, ◌&&◌, Bool, nat_lt, if◌then◌else◌}
use Rattle.std.specs.Int.{w16, trailing_zeros}

-- a node has a slot for each of the 16 binary digits of an index
abbrev pub SLOTS : ℕ
SLOTS = 16

-- the slot that an element has in its parent: how many zeros its index ends with; element 0 ends with all 16
abbrev pub slot : ℕ → ℕ
slot i = trailing_zeros w16 i

-- the parent of each element but element 0: its index without its lowest 1
abbrev pub parent : ℕ → ℕ
parent i = i - 2 ^ slot i

-- the child that an element may have in a slot
abbrev pub child : ℕ → ℕ → ℕ
child i j = i + 2 ^ j

-- among n elements, an element has a child in each slot below its own for which there is that element
abbrev pub has_child : ℕ → ℕ → ℕ → Bool
has_child n i j = nat_lt j (slot i) && nat_lt (child i j) n

-- the fold of what the elements contribute, over the subtree of element i down to its children in the slots below s: its own value, then
-- the folds of its children in the order of their slots. These are the elements of the block of 2 ^ s indices from i on, in their order.
unfoldable pub tree_fold : {V : Type 0} → (V → V → V) → ℕ → (ℕ → V) → ℕ → ℕ → V
tree_fold combined n contribution i zero = contribution i
tree_fold combined n contribution i (suc s) =
    if nat_lt (child i s) n
    then combined (tree_fold combined n contribution i s) (tree_fold combined n contribution (child i s) s)
    else tree_fold combined n contribution i s

-- the fold from the left of what the elements i, i + 1, .. i + k contribute, in this order
unfoldable pub in_order : {V : Type 0} → (V → V → V) → (ℕ → V) → ℕ → ℕ → V
in_order combined contribution i zero = contribution i
in_order combined contribution i (suc k) = combined (in_order combined contribution i k) (contribution (i + suc k))

-- parentheses make no difference
abbrev pub IsAssociative : {V : Type 0} → (V → V → V) → Type 0
IsAssociative {V} combined = (x y z : V) → combined (combined x y) z ≡ combined x (combined y z)
