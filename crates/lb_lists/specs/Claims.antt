-- What somebody claims of a run, when the claim is right, and what is the first flaw of one that is not.
use Rattle.std.specs.Prelude.{◌≡◌, ◌≢◌, ◌⊎◌, ℕ, ◌+◌, List, [], ◌∷◌, length, take, ℤ}
use Rattle.lb_certificates.specs.Certificate.{IsCertified}
use Rattle.lb_certificates.specs.Chain.{IsLeastDivision}
use Rattle.lb_certificates.specs.Flaws.{HasFlaw, HasNamingFlawWithin, IsFirst}
use Rattle.lb_certificates.specs.Naming.{bytes_moved, IsCheapest, IsNamedWithin}
use Rattle.lb_certificates.specs.declared.division.Division.{Division}
use Rattle.lb_certificates.specs.declared.division.Floor.{Floor}
use Rattle.lb_certificates.specs.declared.division.Floor.TheVariants.{Zero, Fence}
use Rattle.lb_certificates.specs.declared.flaw.Flaw.{Flaw}
use Rattle.lb_certificates.specs.declared.flaw.Flaw.TheVariants.{MovedWrong, MovesWrong}
use Rattle.lb_lists.specs.declared.limits.TheConstants.RunLimits.{PES}
use Rattle.lb_lists.specs.Places.{ArePlaces}
use Rattle.lb_lists.specs.Runs.{Listed, sizes_of}

-- a decision as plain lists: no stops stand for a bottleneck of 0
pub record Claimed : Type 0 where
  pub bottleneck : ℕ
  pub moved : ℕ
  pub new_places : List ℕ
  pub cuts : List ℕ
  pub stops : List ℕ
  pub names : List ℕ
  pub block_prices : List ℤ
  pub pe_prices : List ℤ

-- the floor with these stops
abbrev pub floor_of : {A : Type 0} → List ℕ → Floor A
floor_of [] = Zero
floor_of (stop ∷ stops) = Fence (stop ∷ stops)

-- the division of these parts
abbrev pub division_of : {A : Type 0} → ℕ → List ℕ → List ℕ → Division A
division_of bottleneck cuts stops = record { bottleneck = bottleneck; cuts = cuts; floor = floor_of stops }

-- the division that is claimed
abbrev pub claimed_division : Claimed → Division (Unit {0})
claimed_division claim = division_of claim.bottleneck claim.cuts claim.stops

-- The claim with each list of its certificates cut off one entry past its proper length: a list that is too long is still too
-- long, and one that is right is whole.
abbrev pub shortened : ℕ → Claimed → Claimed
shortened pes claim =
    record {
      bottleneck = claim.bottleneck;
      moved = claim.moved;
      new_places = claim.new_places;
      cuts = take (pes + 2) claim.cuts;
      stops = take (pes + 2) claim.stops;
      names = take (pes + 1) claim.names;
      block_prices = take (pes + 1) claim.block_prices;
      pe_prices = take (pes + 1) claim.pe_prices;
    }

-- the cuts divide all elements into no more blocks than a run has PEs, the names are a naming of these, and the prices prove it
abbrev pub IsNamedRun : List (ℕ × ℕ) → List ℕ → List ℕ → List ℤ → List ℤ → Type 0
IsNamedRun sizes cuts names u v = IsNamedWithin PES sizes cuts names u v

-- the names and prices that are claimed are right
abbrev pub IsNamedRight : Listed → Claimed → Type 0
IsNamedRight run claim = IsNamedRun (sizes_of run) claim.cuts claim.names claim.block_prices claim.pe_prices

-- a flaw of the names and prices that are claimed, whatever else is wrong
abbrev pub HasNamesFlaw : Listed → Claimed → Flaw → Type 0
HasNamesFlaw run claim flaw =
    HasNamingFlawWithin PES (sizes_of run) claim.cuts claim.names claim.block_prices claim.pe_prices flaw

-- the bytes that the claimed names move
abbrev pub right_moved : Listed → Claimed → ℕ
right_moved run claim = bytes_moved (sizes_of run) claim.cuts claim.names

-- each element has the name of its block
abbrev pub IsPlacedRight : Listed → Claimed → Type 0
IsPlacedRight run claim = ArePlaces claim.cuts claim.names (length run.loads) claim.new_places

-- Every part of the claim is right: its division is certified, its prices prove its names, and it states the bytes that
-- these names move, and of each element the name of its block.
pub record IsRightClaim (run : Listed) (pes : ℕ) (claim : Claimed) : Type 0 where
  pub division : IsCertified run.loads pes (claimed_division claim)
  pub named : IsNamedRight run claim
  pub moved : claim.moved ≡ right_moved run claim
  pub placed : IsPlacedRight run claim

-- What a right claim implies: no division has a lighter heaviest block, no names of the blocks move fewer bytes, and the
-- bytes and the places are those of the blocks and their names.
pub record IsBest (run : Listed) (pes : ℕ) (claim : Claimed) : Type 0 where
  pub least : IsLeastDivision run.loads pes claim.bottleneck claim.cuts
  pub cheapest : IsCheapest (sizes_of run) claim.cuts pes claim.names
  pub moved : claim.moved ≡ right_moved run claim
  pub placed : IsPlacedRight run claim

-- the claim states this number of bytes, and for each of this number of elements the name of its block
abbrev pub IsToldRight : ℕ → ℕ → Claimed → Type 0
IsToldRight moved count claim = (claim.moved ≡ moved) × ArePlaces claim.cuts claim.names count claim.new_places

-- the claim states another number of bytes; or this one, and a wrong place
abbrev pub IsFlawTold : ℕ → ℕ → Claimed → Flaw → Type 0
IsFlawTold moved count claim flaw =
    ((flaw ≡ MovedWrong) × (claim.moved ≢ moved)) ⊎ ((flaw ≡ MovesWrong) × (claim.moved ≡ moved) × ¬ (ArePlaces claim.cuts claim.names count claim.new_places))

-- the first flaw of the claimed division
abbrev pub IsDivisionFlaw : Listed → ℕ → Claimed → Flaw → Type 0
IsDivisionFlaw run pes claim flaw = IsFirst (HasFlaw run.loads pes (claimed_division claim)) flaw

-- the first flaw of the names and prices, of a certified division
abbrev pub IsNamingFlaw : Listed → ℕ → Claimed → Flaw → Type 0
IsNamingFlaw run pes claim flaw =
    IsCertified run.loads pes (claimed_division claim) × IsFirst (HasNamesFlaw run claim) flaw

-- a wrong number of bytes moved, where the division and the names are right
abbrev pub IsMovedFlaw : Listed → ℕ → Claimed → Flaw → Type 0
IsMovedFlaw run pes claim flaw =
    IsCertified run.loads pes (claimed_division claim) × IsNamedRight run claim × (flaw ≡ MovedWrong) × (claim.moved ≢ right_moved run claim)

-- wrong places, where all else is right
abbrev pub IsPlacesFlaw : Listed → ℕ → Claimed → Flaw → Type 0
IsPlacesFlaw run pes claim flaw =
    IsCertified run.loads pes (claimed_division claim) × IsNamedRight run claim × (claim.moved ≡ right_moved run claim) × (flaw ≡ MovesWrong) × ¬ (IsPlacedRight run claim)

-- the first flaw of a claim that is not right
abbrev pub IsFirstFlaw : Listed → ℕ → Claimed → Flaw → Type 0
IsFirstFlaw run pes claim flaw =
    IsDivisionFlaw run pes claim flaw ⊎ (IsNamingFlaw run pes claim flaw ⊎ (IsMovedFlaw run pes claim flaw ⊎ IsPlacesFlaw run pes claim flaw))
