-- Divisions of a chain of elements whose blocks run on PEs in a given order, no block above a limit: which of them
-- move the fewest bytes, and what shows that none moves fewer. Block b runs on PE names[b].
-- The heights are the dual values of a shortest path through the cuts, layer by layer. Source: R. K. Ahuja,
-- T. L. Magnanti and J. B. Orlin, "Network Flows", Prentice Hall 1993, chapter 4.
use Rattle.std.specs.Prelude.{◌≡◌, ℕ, ◌+◌, ◌-◌, ◌<◌, ◌≤◌, ◌⊎◌, ◌==◌, nat_le, if◌then◌else◌, List, [], ◌∷◌, length, take, drop, slice_index, slice_index_or, sum_by}
use Rattle.chare_index.specs.declared.limits.TheConstants.Limits.{PES}
use Rattle.lb_snapshot.specs.Measured.{load}
use Rattle.lb_certificates.specs.Chain.{IsDivision}
use Rattle.lb_certificates.specs.Certificate.{IsCertified, NoneAbove}
use Rattle.lb_certificates.specs.Naming.{bytes_moved, total, IsNaming}
use Rattle.chain_refinement.specs.Tolerances.{limit_of}
use Rattle.chain_refinement.specs.declared.refinement.Refinement.{Refinement}

-- the cuts divide all elements into a block for each name, and no block is above the limit
pub record AreWithin (loads names : List ℕ) (limit : ℕ) (cuts : List ℕ) : Type 0 where
  pub divides : IsDivision 0 (length loads) (length names) cuts
  pub within : NoneAbove loads (length names) limit cuts

-- cuts within the limit that move no more bytes than any others within it
pub record AreFewest (loads : List ℕ) (sizes : List (ℕ × ℕ)) (names : List ℕ) (limit : ℕ) (cuts : List ℕ) : Type 0 where
  pub within : AreWithin loads names limit cuts
  pub fewest : (others : List ℕ) → AreWithin loads names limit others → bytes_moved sizes cuts names ≤ bytes_moved sizes others names

-- the bytes of an element that are on this PE
abbrev pub held_bytes : ℕ × ℕ → ℕ → ℕ
held_bytes size pe = if size.1 == pe then size.0 else 0

-- the bytes on this PE, of the elements before element x, of those from it on, and of all
abbrev pub held_before : List (ℕ × ℕ) → ℕ → ℕ → ℕ
held_before sizes pe x = sum_by (λ size. held_bytes size pe) (take x sizes)

abbrev pub held_from : List (ℕ × ℕ) → ℕ → ℕ → ℕ
held_from sizes pe x = sum_by (λ size. held_bytes size pe) (drop x sizes)

abbrev pub held : List (ℕ × ℕ) → ℕ → ℕ
held sizes pe = sum_by (λ size. held_bytes size pe) sizes

-- The bytes that a cut between block b and block b + 1 moves where it is made at x: those on block b's PE that are at x or
-- behind it, and those on the next block's PE that are before x.
abbrev pub cut_cost : List (ℕ × ℕ) → List ℕ → ℕ → ℕ → ℕ
cut_cost sizes names b x = held_from sizes (slice_index names b) x + held_before sizes (slice_index names (b + 1)) x

-- what all cuts between blocks cost
abbrev pub cuts_cost : List (ℕ × ℕ) → List ℕ → List ℕ → ℕ
cuts_cost sizes names cuts =
    total (length names - 1) (λ b. cut_cost sizes names b (slice_index cuts (b + 1)))

-- A step function of the places along the chain: from each step's place on it is higher by the step's rise, up to the first
-- step that is behind that place. So it never falls, whatever the list.
abbrev pub height : List (ℕ × ℕ) → ℕ → ℕ
height [] x = 0
height (step ∷ steps) x = if nat_le step.0 x then step.1 + height steps x else 0

-- the height at place x of a block that begins there
abbrev pub height_at : List (List (ℕ × ℕ)) → ℕ → ℕ → ℕ
height_at heights b x = height (slice_index_or heights b []) x

-- A height for each block and each place at which it may begin: 0 for the first block at the beginning of the chain; and
-- from the beginning of a block within the limit to that of the next the height rises by no more than the cut between
-- them costs. Then no cuts within the limit cost less than the height of the last block, wherever it begins.
pub record IsBound (loads : List ℕ) (sizes : List (ℕ × ℕ)) (names : List ℕ) (limit : ℕ) (at : ℕ → ℕ → ℕ) (bytes : ℕ) : Type 0 where
  pub starts : at 0 0 ≡ 0
  pub rises : (b x y : ℕ) → b + 1 < length names → y ≤ x → x ≤ length loads → load loads y x ≤ limit → at (b + 1) x ≤ at b y + cut_cost sizes names b x
  pub ends : (y : ℕ) → y ≤ length loads → load loads y (length loads) ≤ limit → bytes ≤ at (length names - 1) y

-- the cuts are within the limit, and the heights show that none within it cost less
pub record AreProved (loads : List ℕ) (sizes : List (ℕ × ℕ)) (names : List ℕ) (limit : ℕ) (cuts : List ℕ) (heights : List (List (ℕ × ℕ))) : Type 0 where
  pub some_block : 0 < length names
  pub few_blocks : length names ≤ PES
  pub counted : length heights ≡ length names
  pub within : AreWithin loads names limit cuts
  pub bound : IsBound loads sizes names limit (height_at heights) (cuts_cost sizes names cuts)

-- the limit of a refinement: its tolerance above its bottleneck
abbrev pub refined_limit : {A : Type 0} → Refinement A → ℕ
refined_limit r = limit_of r.least.bottleneck r.tolerance

-- Every part of a refinement for this number of PEs is right: its division is certified, its order names each PE once, and its
-- heights prove its cuts.
pub record IsRefinement {A : Type 0} (loads : List ℕ) (sizes : List (ℕ × ℕ)) (pes : ℕ) (r : Refinement A) : Type 0 where
  pub least : IsCertified loads pes r.least
  pub some_pe : 0 < pes
  pub few_pes : pes ≤ PES
  pub order : IsNaming pes r.order
  pub proved : AreProved loads sizes r.order (refined_limit r) r.cuts r.heights

-- a place is between two others, or is one of them
abbrev pub LiesBetween : ℕ → ℕ → ℕ → Type 0
LiesBetween one middle other = ((one ≤ middle) × (middle ≤ other)) ⊎ ((other ≤ middle) × (middle ≤ one))

-- Of all cuts that move the fewest bytes, those nearest to the present ones, chosen from the end of the chain: where others
-- have the same cuts behind cut b, this one is between their cut b and the present one. So there is one such list.
pub record AreNearest (loads : List ℕ) (sizes : List (ℕ × ℕ)) (names present : List ℕ) (limit : ℕ) (cuts : List ℕ) : Type 0 where
  pub fewest : AreFewest loads sizes names limit cuts
  pub nearest : (others : List ℕ) (b : ℕ) → AreFewest loads sizes names limit others → b < length names
      → ((k : ℕ) → b < k → k ≤ length names → slice_index others k ≡ slice_index cuts k)
      → LiesBetween (slice_index present b) (slice_index cuts b) (slice_index others b)
