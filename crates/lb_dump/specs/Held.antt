-- What a reader holds of a text: the values of each part that is whole, and the bytes of the part that has begun. Of all public
-- items only the model of the reader uses these definitions.
use Rattle.std.specs.Prelude.{◌≡◌, ℕ, ◌+◌, ◌<◌, ◌≤◌, List, [], ◌++◌, drop, length, Option, Some, None}
use Rattle.std.specs.Int.{byte_len, from_be_bytes, w32}
use Rattle.chare_index.specs.declared.limits.TheConstants.Limits.{LOAD, PES, STATE_BYTES}
use Rattle.dump_format.specs.Dumps.{AreFields, IsRecorded}
use Rattle.dump_format.specs.Fields.{dump, ending}
use Rattle.dump_format.specs.Layout.{Unfinished, judge}
use Rattle.dump_format.specs.Text.{word}
use Rattle.dump_format.specs.declared.recorded.Recorded.{Recorded}
use Rattle.lb_dump.specs.Elements.{AreOf, elements_of}
use Rattle.lb_dump.specs.Heads.{IsHead, element_len, head_text, load_width}
use Rattle.lb_dump.specs.Moves.{AreMoves, moves_text}
use Rattle.lb_dump.specs.declared.head.Format.{Format}
use Rattle.lb_dump.specs.declared.head.Format.TheVariants.{Lbd1, Lbd2}
use Rattle.lb_dump.specs.declared.head.Head.{Head}
use Rattle.lb_dump.specs.Plans.{IsBegun, plan_bytes}
use Rattle.lb_dump.specs.declared.plan.DecisionPart.{DecisionPart}
use Rattle.lb_dump.specs.declared.plan.DecisionPart.TheVariants.{Begun, Nothing, Made}
use Rattle.lb_dump.specs.declared.held.Held.{Held}

-- the bytes of the parts that are whole
abbrev pub head_part : Option Head → List ℕ
head_part None = []
head_part (Some h) = head_text h

abbrev pub elements_part : Option Head → List ℕ → List (ℕ × ℕ) → List ℕ
elements_part None loads sizes = []
elements_part (Some h) loads sizes = elements_of h loads sizes

abbrev pub plan_part : {A : Type 0} → DecisionPart A → List ℕ
plan_part Begun = []
plan_part Nothing = word 0
plan_part (Made r moves) = word 1 ++ plan_bytes r moves

-- the text up to the last part that is whole
unfoldable pub front_text : {A : Type 0} → Option Head → List ℕ → List (ℕ × ℕ) → DecisionPart A → List (ℕ × ℕ × ℕ) → List ℕ
front_text head loads sizes plan moves =
    head_part head ++ (elements_part head loads sizes ++ (plan_part plan ++ moves_text moves))

-- the text so far
abbrev pub text_of : {A : Type 0} → Held A → List ℕ
text_of held = front_text held.head held.loads.items held.sizes.items held.plan held.moves.items ++ held.begun.items

-- these bytes have begun an element, and nothing is wrong with them
pub record HasBegunElement (format : Format) (bytes : List ℕ) : Type 0 where
  pub short : length bytes < element_len format
  pub load : byte_len (load_width format) ≤ length bytes → from_be_bytes (load_width format) bytes ≤ LOAD
  pub size : byte_len (load_width format) + 4 ≤ length bytes → from_be_bytes w32 (drop (byte_len (load_width format)) bytes) ≤ STATE_BYTES

-- these bytes have begun a move of one of this number of elements, and nothing is wrong with them
pub record HasBegunMove (count : ℕ) (bytes : List ℕ) : Type 0 where
  pub short : length bytes < 12
  pub index : 4 ≤ length bytes → from_be_bytes w32 bytes < count
  pub present : 8 ≤ length bytes → from_be_bytes w32 (drop 4 bytes) < PES

-- the head has begun, and no other part
pub record IsAtHead (loads : List ℕ) (sizes : List (ℕ × ℕ)) (moves : List (ℕ × ℕ × ℕ)) (begun : List ℕ) : Type 0 where
  pub no_loads : loads ≡ []
  pub no_sizes : sizes ≡ []
  pub no_moves : moves ≡ []
  pub short : length begun < 16
  pub unfinished : judge dump begun ≡ Unfinished

-- what has begun after this number of elements: nothing in LBD1, a plan in LBD2
abbrev pub HasBegunPlan : Format → ℕ → List ℕ → Type 0
HasBegunPlan Lbd1 count begun = begun ≡ []
HasBegunPlan Lbd2 count begun = IsBegun begun × (judge (ending count) begun ≡ Unfinished)

-- the head is whole, and some elements are
pub record AreSome (h : Head) (loads : List ℕ) (sizes : List (ℕ × ℕ)) : Type 0 where
  pub head : IsHead h
  pub kept : AreOf h loads sizes
  pub few : length loads ≤ h.count

-- an element has begun, or what follows the last one
pub record IsAtElements (h : Head) (loads : List ℕ) (sizes : List (ℕ × ℕ)) (moves : List (ℕ × ℕ × ℕ)) (begun : List ℕ) : Type 0 where
  pub some : AreSome h loads sizes
  pub no_moves : moves ≡ []
  pub element : length loads < h.count → HasBegunElement h.format begun
  pub plan : length loads ≡ h.count → HasBegunPlan h.format h.count begun

-- the text has ended with a flag of 0
pub record IsAtNothing (h : Head) (loads : List ℕ) (sizes : List (ℕ × ℕ)) (moves : List (ℕ × ℕ × ℕ)) (begun : List ℕ) : Type 0 where
  pub some : AreSome h loads sizes
  pub all : length loads ≡ h.count
  pub wide : h.format ≡ Lbd2
  pub no_moves : moves ≡ []
  pub no_bytes : begun ≡ []

-- a move has begun, or the last one is whole
pub record IsAtMoves {A : Type 0} (h : Head) (loads : List ℕ) (sizes : List (ℕ × ℕ)) (r : Recorded A) (all_moves : ℕ) (moves : List (ℕ × ℕ × ℕ)) (begun : List ℕ) : Type 0 where
  pub some : AreSome h loads sizes
  pub all : length loads ≡ h.count
  pub wide : h.format ≡ Lbd2
  pub recorded : IsRecorded h.count r
  pub fields : AreFields r
  pub plan_moves : r.decision.moves ≡ []
  pub few_told : all_moves ≤ h.count
  pub kept : AreMoves h.count moves
  pub few_moves : length moves ≤ all_moves
  pub move : length moves < all_moves → HasBegunMove h.count begun
  pub no_bytes : length moves ≡ all_moves → begun ≡ []

-- where a reader is in its text, and that nothing is wrong so far
abbrev pub IsAt : {A : Type 0} → Option Head → List ℕ → List (ℕ × ℕ) → DecisionPart A → List (ℕ × ℕ × ℕ) → List ℕ → Type 0
IsAt None loads sizes Begun moves begun = IsAtHead loads sizes moves begun
IsAt None loads sizes Nothing moves begun = ⊥
IsAt None loads sizes (Made r all) moves begun = ⊥
IsAt (Some h) loads sizes Begun moves begun = IsAtElements h loads sizes moves begun
IsAt (Some h) loads sizes Nothing moves begun = IsAtNothing h loads sizes moves begun
IsAt (Some h) loads sizes (Made r all) moves begun = IsAtMoves h loads sizes r all moves begun

abbrev pub IsHeld : {A : Type 0} → Held A → Type 0
IsHeld held = IsAt held.head held.loads.items held.sizes.items held.plan held.moves.items held.begun.items

-- the plan is whole, and says that this number of moves follow
abbrev pub HasMoves : {A : Type 0} → DecisionPart A → ℕ → Type 0
HasMoves Begun all = ⊥
HasMoves Nothing all = ⊥
HasMoves (Made r moves) all = moves ≡ all
