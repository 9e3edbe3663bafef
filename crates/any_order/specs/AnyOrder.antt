-- Divisions of a chain of elements within a limit whose blocks may run on the PEs in any order: which of them, with which
-- names, moves the fewest bytes, and what shows that none moves fewer.
-- The bounds are the dual values of a shortest path through the cuts, layer by layer, each layer with two values at a place:
-- R. K. Ahuja, T. L. Magnanti and J. B. Orlin, "Network Flows", Prentice Hall 1993, chapter 4. To choose cuts and names
-- together is the remapping problem of repartitioning: L. Oliker and R. Biswas, "PLUM: parallel load balancing for adaptive
-- unstructured meshes", Journal of Parallel and Distributed Computing 52(2), 1998.
use Rattle.std.specs.Prelude.{Bool, ◌≡◌, ◌≢◌, ◌⊎◌, ℕ, ◌+◌, ◌-◌, ◌<◌, ◌≤◌, ◌==◌, ◌||◌, ◌&&◌, if◌then◌else◌, IsFalse, nat_le, List, [], ◌∷◌, length, slice_index_or, slice_range, sum_by}
use Rattle.chare_index.specs.declared.limits.TheConstants.Limits.{PES}
use Rattle.lb_snapshot.specs.Measured.{load}
use Rattle.lb_certificates.specs.Chain.{IsDivision}
use Rattle.lb_certificates.specs.Certificate.{IsCertified, NoneAbove}
use Rattle.lb_certificates.specs.Naming.{IsNaming, bytes_moved, moved_bytes}
use Rattle.chain_refinement.specs.Tolerances.{limit_of}
use Rattle.any_order.specs.declared.reordered.Reordered.{Reordered}

-- a plan: the cuts divide all elements into this number of blocks, none is above the limit, and each has a PE of its own
pub record IsPlan (loads : List ℕ) (blocks limit : ℕ) (cuts names : List ℕ) : Type 0 where
  pub divides : IsDivision 0 (length loads) blocks cuts
  pub within : NoneAbove loads blocks limit cuts
  pub naming : IsNaming blocks names

-- a plan that moves no more bytes than any other within the limit
pub record AreFewestOfAll (loads : List ℕ) (sizes : List (ℕ × ℕ)) (blocks limit : ℕ) (cuts names : List ℕ) : Type 0 where
  pub plan : IsPlan loads blocks limit cuts names
  pub fewest : (other_cuts other_names : List ℕ) → IsPlan loads blocks limit other_cuts other_names → bytes_moved sizes cuts names ≤ bytes_moved sizes other_cuts other_names

-- the home of a place: the PE that the element there is on; behind the last element any number will do
abbrev pub home : List (ℕ × ℕ) → ℕ → ℕ
home sizes x = (slice_index_or sizes x (0, 0)).1

-- the bytes that a block of the elements y..x brings to this PE
abbrev pub brought : List (ℕ × ℕ) → ℕ → ℕ → ℕ → ℕ
brought sizes y x pe = sum_by (λ size. moved_bytes size pe) (slice_range sizes y x)

-- Two lower bounds on the bytes that a number of blocks move which end at x: `any x` whatever their PEs are, and `free x` where
-- none of them is the home of x. One more block y..x moves what it brings to its PE, and none of those before it is on that PE.
-- So these move at least `free y` where it is the home of y, and otherwise `any y`. And a home of x that is to stay free behind
-- the block is free before it too. From the bounds for a number of blocks to the next ones at x, bounds rise by no more than
-- that, for each PE.
pub record RisesTo (sizes : List (ℕ × ℕ)) (any free next_any next_free : ℕ → ℕ) (y x : ℕ) : Type 0 where
  pub of_any : (pe : ℕ) → next_any x ≤ (if home sizes y == pe then free y else any y) + brought sizes y x pe
  pub of_free : (pe : ℕ) → home sizes x ≢ pe → next_free x ≤ (if (home sizes y == pe) || (home sizes y == home sizes x) then free y else any y) + brought sizes y x pe

-- bounds rise by no more than that for each block within the limit
abbrev pub IsRise : List ℕ → List (ℕ × ℕ) → ℕ → (ℕ → ℕ) → (ℕ → ℕ) → (ℕ → ℕ) → (ℕ → ℕ) → Type 0
IsRise loads sizes limit any free next_any next_free =
    (y x : ℕ) → y ≤ x → x ≤ length loads → load loads y x ≤ limit → RisesTo sizes any free next_any next_free y x

-- bounds for each number of blocks that show that no plan moves fewer than this number of bytes
pub record AreBounds (loads : List ℕ) (sizes : List (ℕ × ℕ)) (blocks limit : ℕ) (any free : ℕ → ℕ → ℕ) (bytes : ℕ) : Type 0 where
  pub any_starts : any 0 0 ≡ 0
  pub free_starts : free 0 0 ≡ 0
  pub rises : (b : ℕ) → b < blocks → IsRise loads sizes limit (any b) (free b) (any (b + 1)) (free (b + 1))
  pub ends : bytes ≤ any blocks (length loads)

-- neither the home nor a bound changes from this place to the next
abbrev pub is_level : List (ℕ × ℕ) → (ℕ → ℕ) → (ℕ → ℕ) → ℕ → Bool
is_level sizes any free x = (home sizes x == home sizes (x + 1)) && ((any x == any (x + 1)) && (free x == free (x + 1)))

-- The blocks at which bounds have to be looked at: the empty ones, and those that begin at the last place of a level of the
-- bounds and end at the first place of a level of the next ones.
abbrev pub IsCorner : List (ℕ × ℕ) → (ℕ → ℕ) → (ℕ → ℕ) → (ℕ → ℕ) → (ℕ → ℕ) → ℕ → ℕ → Type 0
IsCorner sizes any free next_any next_free y x =
    (y ≡ x) ⊎ (IsFalse (is_level sizes any free y) × IsFalse (is_level sizes next_any next_free (x - 1)))

-- bounds rise by no more than these blocks bring
abbrev pub IsRiseAtCorners : List ℕ → List (ℕ × ℕ) → ℕ → (ℕ → ℕ) → (ℕ → ℕ) → (ℕ → ℕ) → (ℕ → ℕ) → Type 0
IsRiseAtCorners loads sizes limit any free next_any next_free =
    (y x : ℕ) → y ≤ x → x ≤ length loads → load loads y x ≤ limit → IsCorner sizes any free next_any next_free y x → RisesTo sizes any free next_any next_free y x

-- the level at place x of steps (place, level): that of the last of the leading steps that are not behind x, or else `before`
abbrev pub level_at : List (ℕ × ℕ) → ℕ → ℕ → ℕ
level_at [] before x = before
level_at (step ∷ steps) before x = if nat_le step.0 x then level_at steps step.1 x else before

-- the bound at place x of row b, where each row is steps, and 0 before the first of them
abbrev pub bound_at : List (List (ℕ × ℕ)) → ℕ → ℕ → ℕ
bound_at rows b x = level_at (slice_index_or rows b []) 0 x

-- the limit of a reordered division: its tolerance above its bottleneck
abbrev pub reordered_limit : {A : Type 0} → Reordered A → ℕ
reordered_limit r = limit_of r.least.bottleneck r.tolerance

-- Every part of a reordered division for this number of PEs is right: its least division is certified, its cuts and names are a
-- plan within the limit, and its bounds show that none moves fewer bytes.
pub record IsReordered {A : Type 0} (loads : List ℕ) (sizes : List (ℕ × ℕ)) (pes : ℕ) (r : Reordered A) : Type 0 where
  pub least : IsCertified loads pes r.least
  pub some_pe : 0 < pes
  pub few_pes : pes ≤ PES
  pub plan : IsPlan loads pes (reordered_limit r) r.cuts r.names
  pub any_counted : length r.any ≡ pes + 1
  pub free_counted : length r.free ≡ pes + 1
  pub bounds : AreBounds loads sizes pes (reordered_limit r) (bound_at r.any) (bound_at r.free) (bytes_moved sizes r.cuts r.names)
