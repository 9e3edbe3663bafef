-- Windows of elements that begin runs of a merged chain, and where the runs of one part of the chain end.
use Rattle.std.specs.Prelude.{◌≡◌, ℕ, ◌<◌, ◌≤◌, ◌⊎◌, List, length, slice_index, ◌++◌}
use Rattle.std.specs.List.Sorted.{IsNonDecreasing}
use Rattle.merged_chains.specs.Merged.{IsStart}

-- the first element of each window, and the last
pub record WindowBounds : Type 0 where
  pub lower : List ℕ
  pub upper : List ℕ

-- no window is empty
abbrev pub NoneEmpty : List ℕ → List ℕ → Type 0
NoneEmpty lower upper =
    (k : ℕ) → k < length lower → slice_index lower k ≤ slice_index upper k

-- a window is empty
abbrev pub SomeEmpty : List ℕ → List ℕ → Type 0
SomeEmpty lower upper =
    (k : ℕ) × (k < length lower) × (slice_index upper k < slice_index lower k)

-- Window k is the elements from lower[k] to upper[k], both included, and neither bound is below that of an earlier window.
pub record AreOrdered (lower upper : List ℕ) : Type 0 where
  pub paired : length lower ≡ length upper
  pub lower_rises : IsNonDecreasing lower
  pub upper_rises : IsNonDecreasing upper
  pub some_element : NoneEmpty lower upper

-- the element lies in one of the windows
abbrev pub IsWithin : List ℕ → List ℕ → ℕ → Type 0
IsWithin lower upper element =
    (k : ℕ) × (k < length lower) × (slice_index lower k ≤ element) × (element ≤ slice_index upper k)

-- each element of a window, up to this one, begins a run
abbrev pub StartWithin : List ℕ → List ℕ → ℕ → List ℕ → Type 0
StartWithin lower upper last starts =
    (element : ℕ) → element ≤ last → IsWithin lower upper element → IsStart starts element

-- and so it does in the part behind first, up to last, where these elements begin runs too
abbrev pub KeepsStarts : List ℕ → List ℕ → ℕ → ℕ → List ℕ → Type 0
KeepsStarts lower upper first last ends =
    (starts : List ℕ) → StartWithin lower upper first starts → StartWithin lower upper last (starts ++ ends)

-- a run of the part first..last ends before the element: it lies behind the first one, in a window, or it is the last
abbrev pub EndsRun : List ℕ → List ℕ → ℕ → ℕ → ℕ → Type 0
EndsRun lower upper first last element =
    (first < element) × (element ≤ last) × (IsWithin lower upper element ⊎ (element ≡ last))

-- the elements up to this one before which a run of the part ends, and no others
pub record AreEnds (lower upper : List ℕ) (first last upto : ℕ) (ends : List ℕ) : Type 0 where
  pub only : (j : ℕ) → j < length ends → EndsRun lower upper first last (slice_index ends j)
  pub each : (element : ℕ) → EndsRun lower upper first last element → element ≤ upto → (j : ℕ) × (j < length ends) × (slice_index ends j ≡ element)

-- the first window whose last element lies behind this one, or the number of windows
pub record IsFirstBehind (upper : List ℕ) (element window : ℕ) : Type 0 where
  pub inside : window ≤ length upper
  pub before : (k : ℕ) → k < window → slice_index upper k ≤ element
  pub behind : window < length upper → element < slice_index upper window

-- the first element behind this one before which a run ends
pub record IsNextEnd (lower upper : List ℕ) (element last end : ℕ) : Type 0 where
  pub ends : EndsRun lower upper element last end
  pub next : (other : ℕ) → EndsRun lower upper element last other → end ≤ other
