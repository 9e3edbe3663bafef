-- Reductions of a whole array: its elements contribute, and parts and results are under way among them. They come in any order, and may
-- even be lost. Where an element is, and which PE it is on, plays no part.
use Rattle.std.specs.Prelude.{◌≡◌, ℕ, ◌<◌, ◌≤◌, ◌==◌, List, [], ◌∷◌, ◌++◌, length, Option, None, Some, false, slice_get, if◌then◌else◌}
use Rattle.chare_index.specs.declared.limits.TheConstants.Limits.{ELEMENTS}
use Rattle.reductions.specs.declared.tree_message.TreeMessage.{TreeMessage}
use Rattle.reductions.specs.declared.tree_message.TreeMessage.TheVariants.{Part, Whole}
use Rattle.reductions.specs.Nodes.{NodeView, emptied, gathered, is_full, opening_node, with_own, with_part, with_waits}
use Rattle.reductions.specs.Stepping.{passed_on}
use Rattle.reductions.specs.Trees.{SLOTS, slot, tree_fold}

-- an element: its node, the values that it has contributed, and the results that it has got, each in order
pub record Member (V : Type 0) : Type 0 where
  pub node : NodeView V
  pub gave : List V
  pub got : List V

-- a part or a result that is under way, and the element that it is for
abbrev pub Way : Type 0 → Type 0
Way V = ℕ × TreeMessage ⊥ V

pub record Exchange (V : Type 0) : Type 0 where
  pub members : ℕ → Member V
  pub ways : List (Way V)

-- as it opens
abbrev pub opening_exchange : {V : Type 0} → Exchange V
opening_exchange = record { members = λ i. record { node = opening_node; gave = []; got = [] }; ways = [] }

-- another value at one place
abbrev pub set_at : {X : Type 0} → (ℕ → X) → ℕ → X → ℕ → X
set_at f i x j = if j == i then x else f j

module _ {V : Type 0} where
  -- element i contributes a value
  abbrev pub gives : Exchange V → ℕ → V → Exchange V
  gives x i value =
      record {
        members = set_at x.members i (record { node = with_own (x.members i).node value; gave = (x.members i).gave ++ value ∷ []; got = (x.members i).got });
        ways = x.ways;
      }

  -- a part comes to element i, and these stay under way
  abbrev pub keeps : Exchange V → ℕ → ℕ × V → List (Way V) → Exchange V
  keeps x i part ways =
      record {
        members = set_at x.members i (record { node = with_part (x.members i).node part; gave = (x.members i).gave; got = (x.members i).got });
        ways = ways;
      }

  -- a result comes to element i, and these stay under way
  abbrev pub hears : Exchange V → ℕ → V → List (Way V) → Exchange V
  hears x i value ways =
      record {
        members = set_at x.members i (record { node = with_waits (x.members i).node false; gave = (x.members i).gave; got = (x.members i).got ++ value ∷ [] });
        ways = ways;
      }

  -- the value of element i goes on, if it is whole
  abbrev pub sends_on : ℕ → Exchange V → ℕ → Option V → Exchange V
  sends_on n x i None = x
  sends_on n x i (Some value) =
      record {
        members = set_at x.members i (record { node = emptied (x.members i).node; gave = (x.members i).gave; got = (x.members i).got });
        ways = x.ways ++ passed_on n i (Some value);
      }

module _ {V : Type 0} (combined : V → V → V) (n : ℕ) where
  abbrev pub advances : Exchange V → ℕ → Exchange V
  advances x i = sends_on n x i (gathered combined n i (x.members i).node.own (x.members i).node.parts SLOTS)

  -- the exchanges that contributions and what comes, in any order, lead to from the opening of n elements
  pub data IsExchange : Exchange V → Type 0 where
    opens : IsExchange opening_exchange
    contributes : (x : Exchange V) (i : ℕ) (value : V) → IsExchange x → i < n → (x.members i).node.waits ≡ false → IsExchange (advances (gives x i value) i)
    part_comes : (x : Exchange V) (i j : ℕ) (value : V) (before after : List (Way V)) → IsExchange x → x.ways ≡ before ++ (i, Part j value) ∷ after
        → is_full (x.members i).node ≡ false → IsExchange (advances (keeps x i (j, value) (before ++ after)) i)
    result_comes : (x : Exchange V) (i : ℕ) (value : V) (before after : List (Way V)) → IsExchange x → x.ways ≡ before ++ (i, Whole value) ∷ after
        → IsExchange (hears x i value (before ++ after))
    is_lost : (x : Exchange V) (way : Way V) (before after : List (Way V)) → IsExchange x → x.ways ≡ before ++ way ∷ after
        → IsExchange (record x { ways = before ++ after })

-- The result that an element gets as number k is the fold, in the order of the tree, over what all elements contributed as number k; and
-- all have contributed so often.
abbrev pub AreResults : {V : Type 0} → (V → V → V) → ℕ → Exchange V → Type 0
AreResults {V} combined n x =
    (i k : ℕ) (value : V) → i < n → slice_get (x.members i).got k ≡ Some value
    → ((j : ℕ) → j < n → k < length (x.members j).gave)
    × ((contribution : ℕ → V) → ((j : ℕ) → j < n → slice_get (x.members j).gave k ≡ Some (contribution j)) → value ≡ tree_fold combined n contribution 0 (slot 0))

abbrev pub ExchangeLaw : {V : Type 0} → (V → V → V) → Type 0
ExchangeLaw {V} combined = (n : ℕ) (x : Exchange V) → 0 < n → n ≤ ELEMENTS → IsExchange combined n x → AreResults combined n x
