-- What a plan reports.
use Rattle.std.specs.Prelude.{◌≡◌, ℕ, List, [], length}
use Rattle.chain_partition.specs.Chosen.{IsChosen}
use Rattle.lb_certificates.specs.Chain.{IsLeastDivision}
use Rattle.lb_certificates.specs.Naming.{bytes_moved, IsLeastNaming}
use Rattle.lb_certificates.specs.declared.division.Floor.{Floor}
use Rattle.lb_certificates.specs.declared.division.Floor.TheVariants.{Zero, Fence}
use Rattle.lb_lists.specs.Claims.{division_of}
use Rattle.lb_lists.specs.Places.{ArePlaces}
use Rattle.lb_lists.specs.Runs.{Listed, sizes_of}

-- The places, the bottleneck and the bytes are those of a decision: there are cuts and stops, which are the chosen ones,
-- and names of the blocks, which are the least of those that move the fewest bytes; each element has the name of its
-- block, the bottleneck is the load of the heaviest block, and the bytes are those that the names move.
pub record IsPlan (run : Listed) (pes : ℕ) (new_places : List ℕ) (bottleneck moved : ℕ) : Type 0 where
  pub cuts : List ℕ
  pub stops : List ℕ
  pub names : List ℕ
  pub least : IsLeastDivision run.loads pes bottleneck cuts
  pub chosen : IsChosen run.loads pes (division_of {A = Unit {0}} bottleneck cuts stops)
  pub naming : IsLeastNaming (sizes_of run) cuts pes names
  pub moves : moved ≡ bytes_moved (sizes_of run) cuts names
  pub placed : ArePlaces cuts names (length run.loads) new_places

-- the stops of a floor: none where the bottleneck is 0
abbrev pub stops_in : {A : Type 0} → Floor A → List ℕ
stops_in Zero = []
stops_in (Fence stops) = stops
