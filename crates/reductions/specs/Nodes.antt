-- What an element keeps of the reduction that is under way, and what it makes of a contribution and of a part.
use Rattle.std.specs.Prelude.{ℕ, zero, suc, ◌==◌, Bool, true, false, not, List, [], ◌∷◌, ◌++◌, length, Option, None, Some, nat_lt, if◌then◌else◌}
use Rattle.reductions.specs.Trees.{SLOTS, has_child}

-- its own contribution, the parts of its children that came, each with its slot, and whether it has contributed and not got the result
pub record NodeView (V : Type 0) : Type 0 where
  pub own : Option V
  pub parts : List (ℕ × V)
  pub waits : Bool

-- a node as it opens, with nothing in it
abbrev pub opening_node : {V : Type 0} → NodeView V
opening_node = record { own = None; parts = []; waits = false }

-- with its own contribution; with one more part; waiting or not; and once its value has gone on
abbrev pub with_own : {V : Type 0} → NodeView V → V → NodeView V
with_own node value = record { own = Some value; parts = node.parts; waits = true }

abbrev pub with_part : {V : Type 0} → NodeView V → ℕ × V → NodeView V
with_part node part = record { own = node.own; parts = node.parts ++ part ∷ []; waits = node.waits }

abbrev pub with_waits : {V : Type 0} → NodeView V → Bool → NodeView V
with_waits node waits = record { own = node.own; parts = node.parts; waits = waits }

abbrev pub emptied : {V : Type 0} → NodeView V → NodeView V
emptied node = record { own = None; parts = []; waits = node.waits }

-- the part in a slot, the first where there are several
abbrev pub part_in : {V : Type 0} → ℕ → List (ℕ × V) → Option V
part_in slot [] = None
part_in slot (part ∷ parts) = if part.0 == slot then Some part.1 else part_in slot parts

-- all places for parts are taken
abbrev pub is_full : {V : Type 0} → NodeView V → Bool
is_full node = not (nat_lt (length node.parts) SLOTS)

-- the parts, with one more where there is one
abbrev pub with_more : {V : Type 0} → List (ℕ × V) → Option (ℕ × V) → List (ℕ × V)
with_more parts None = parts
with_more parts (Some part) = parts ++ part ∷ []

-- what a node makes of what it got: the node after it, and the value that goes on from it, if it is whole
pub record Advance (V : Type 0) : Type 0 where
  pub node : NodeView V
  pub goes_on : Option V

abbrev pub stays : {V : Type 0} → NodeView V → Advance V
stays node = record { node = node; goes_on = None }

module _ {V : Type 0} (combined : V → V → V) where
  -- two values in order, where both are there
  abbrev pub joined : Option V → Option V → Option V
  joined (Some left) (Some right) = Some (combined left right)
  joined (Some left) None = None
  joined None right = None

  -- the own contribution of element i and then the parts of its children in the slots below s, in the order of the slots, among n
  -- elements; none while one of them is missing
  unfoldable pub gathered : ℕ → ℕ → Option V → List (ℕ × V) → ℕ → Option V
  gathered n i own parts zero = own
  gathered n i own parts (suc s) =
      if has_child n i s
      then joined (gathered n i own parts s) (part_in s parts)
      else gathered n i own parts s

  -- the value of its subtree goes on once it is whole, and nothing of it stays
  abbrev pub advanced : NodeView V → Option V → Advance V
  advanced node None = stays node
  advanced node (Some value) = record { node = emptied node; goes_on = Some value }

  abbrev pub advance : ℕ → ℕ → NodeView V → Advance V
  advance n i node = advanced node (gathered n i node.own node.parts SLOTS)

  -- a contribution while the last one waits for its result is passed over
  abbrev pub contributed : ℕ → ℕ → NodeView V → Option V → Advance V
  contributed n i node None = stays node
  contributed n i node (Some value) = if node.waits then stays node else advance n i (with_own node value)

  -- a part of a child comes at most once in a reduction; a part beyond the slots of a node would be passed over
  abbrev pub got_part : ℕ → ℕ → NodeView V → ℕ × V → Advance V
  got_part n i node part = if is_full node then stays node else advance n i (with_part node part)
