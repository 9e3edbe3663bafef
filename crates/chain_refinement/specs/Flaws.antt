-- What can be wrong with a refinement, and which flaw of several is reported.
use Rattle.std.specs.Prelude.{◌≡◌, ◌≢◌, ◌⊎◌, ℕ, ◌+◌, ◌-◌, ◌<◌, ◌≤◌, List, length, slice_index}
use Rattle.chare_index.specs.declared.limits.TheConstants.Limits.{PES}
use Rattle.lb_snapshot.specs.Measured.{load}
use Rattle.lb_certificates.specs.Chain.{block_load, IsDivision}
use Rattle.lb_certificates.specs.Flaws.{flaw_number, flaw_place, HasFlaw, IsBefore, Repeats}
use Rattle.chain_refinement.specs.Refinement.{cut_cost, cuts_cost, height_at, refined_limit}
use Rattle.chain_refinement.specs.declared.refinement.Refinement.{Refinement}
use Rattle.chain_refinement.specs.declared.flaw.RefinementFlaw.{RefinementFlaw}
use Rattle.chain_refinement.specs.declared.flaw.RefinementFlaw.TheVariants.{Least, PeCount, NameCount, NameRange, NameTwice, CutCount, NoDivision, Heavy, HeightCount, HeightStart, Steep, HeightLow}

-- a place to which the height rises by more than the cut between block b and the next costs there, from a place at
-- which a block within the limit begins that ends there
abbrev pub IsSteep : List ℕ → List (ℕ × ℕ) → List ℕ → ℕ → (ℕ → ℕ → ℕ) → ℕ → ℕ → Type 0
IsSteep loads sizes names limit at b x =
    (y : ℕ) × (y ≤ x) × (x ≤ length loads) × (load loads y x ≤ limit) × (at b y + cut_cost sizes names b x < at (b + 1) x)

-- the height of the last block, where a block within the limit may begin, is below what the cuts cost
abbrev pub EndsLow : List ℕ → List (ℕ × ℕ) → List ℕ → ℕ → List ℕ → List (List (ℕ × ℕ)) → Type 0
EndsLow loads sizes names limit cuts heights =
    (y : ℕ) × (y ≤ length loads) × (load loads y (length loads) ≤ limit) × (height_at heights (length names - 1) y < cuts_cost sizes names cuts)

-- a flaw of a refinement that applies, whatever else is wrong
abbrev pub HasRefinementFlaw : {A : Type 0} → List ℕ → List (ℕ × ℕ) → ℕ → Refinement A → RefinementFlaw → Type 0
HasRefinementFlaw loads sizes pes r (Least flaw) = HasFlaw loads pes r.least flaw
HasRefinementFlaw loads sizes pes r PeCount = (pes ≡ 0) ⊎ (PES < pes)
HasRefinementFlaw loads sizes pes r NameCount = length r.order ≢ pes
HasRefinementFlaw loads sizes pes r NameRange = (b : ℕ) × (b < length r.order) × (pes ≤ slice_index r.order b)
HasRefinementFlaw loads sizes pes r NameTwice = Repeats r.order
HasRefinementFlaw loads sizes pes r CutCount = length r.cuts ≢ pes + 1
HasRefinementFlaw loads sizes pes r NoDivision = ¬ (IsDivision 0 (length loads) pes r.cuts)
HasRefinementFlaw loads sizes pes r (Heavy b) = (b < pes) × (refined_limit r < block_load loads r.cuts b)
HasRefinementFlaw loads sizes pes r HeightCount = length r.heights ≢ pes
HasRefinementFlaw loads sizes pes r HeightStart = height_at r.heights 0 0 ≢ 0
HasRefinementFlaw loads sizes pes r (Steep b x) =
    (b + 1 < pes) × IsSteep loads sizes r.order (refined_limit r) (height_at r.heights) b x
HasRefinementFlaw loads sizes pes r HeightLow = EndsLow loads sizes r.order (refined_limit r) r.cuts r.heights

-- the flaw's number in the order in which flaws are reported
abbrev pub refinement_flaw_number : RefinementFlaw → ℕ
refinement_flaw_number (Least flaw) = flaw_number flaw
refinement_flaw_number PeCount = 20
refinement_flaw_number NameCount = 21
refinement_flaw_number NameRange = 22
refinement_flaw_number NameTwice = 23
refinement_flaw_number CutCount = 24
refinement_flaw_number NoDivision = 25
refinement_flaw_number (Heavy b) = 26
refinement_flaw_number HeightCount = 27
refinement_flaw_number HeightStart = 28
refinement_flaw_number (Steep b x) = 29
refinement_flaw_number HeightLow = 30

-- the block, the stop, or the block and the place that the flaw names
abbrev pub refinement_flaw_place : RefinementFlaw → ℕ × ℕ
refinement_flaw_place (Least flaw) = flaw_place flaw
refinement_flaw_place (Heavy b) = (b, 0)
refinement_flaw_place (Steep b x) = (b, x)
refinement_flaw_place _ = (0, 0)

-- of the flaws that apply, the one with the least number, and at that number with the least place
pub record IsFirstRefinementFlaw (applies : RefinementFlaw → Type 0) (flaw : RefinementFlaw) : Type 0 where
  pub applies_itself : applies flaw
  pub no_lower_number : (other : RefinementFlaw) → refinement_flaw_number other < refinement_flaw_number flaw → ¬ (applies other)
  pub no_lower_place : (other : RefinementFlaw) → refinement_flaw_number other ≡ refinement_flaw_number flaw
      → IsBefore (refinement_flaw_place other) (refinement_flaw_place flaw) → ¬ (applies other)
