-- What a caller of the library passes: lists, as a run, as a claim, or as buffers for a decision.
use Rattle.std.specs.Prelude.{Bool, not, ℕ, ◌==◌, List, ℤ, negsuc}
use Rattle.lb_lists.specs.Claims.{Claimed}
use Rattle.lb_lists.specs.RefinedClaims.{RefinedClaimed}
use Rattle.lb_lists.specs.RefinedRooms.{StandingLists}
use Rattle.lb_lists.specs.ReorderedClaims.{ReorderedClaimed}
use Rattle.lb_lists.specs.Reorderings.{LevelLists}
use Rattle.lb_lists.specs.Rooms.{Lists}
use Rattle.lb_lists.specs.Runs.{Listed}
use Rattle.lb_lists.specs.declared.error.RunError.{RunError}
use Rattle.lb_lists.specs.declared.error.RunError.TheVariants.{BadInput, BadLoad, OutOfMemory}
use Rattle.lb_lists.specs.declared.error.RefineError.{RefineError}
use Rattle.lb_lists.specs.declared.error.RefineError.TheVariants.{BadTolerance, TooLarge, Run}
use Rattle.lb_lists.specs.declared.scaling.ScaleError.{ScaleError}
use Rattle.lb_lists.specs.declared.scaling.ScaleError.TheVariants as Scale

-- the run of these lists
abbrev pub run_of : List ℕ → List ℕ → List ℕ → ℕ → Listed
run_of loads bytes places procs = record { loads = loads; bytes = bytes; places = places; procs = procs }

-- the lists of a room
abbrev pub room_of : List ℕ → List ℕ → List ℕ → List ℕ → List ℤ → List ℤ → Lists
room_of new_places cuts stops names block_prices pe_prices =
    record {
      new_places = new_places;
      cuts = cuts;
      stops = stops;
      names = names;
      block_prices = block_prices;
      pe_prices = pe_prices;
    }

-- the lists of the order, the present cuts, the least cuts and the steps
abbrev pub standing_room_of : List ℕ → List ℕ → List ℕ → List ℕ → List ℕ → List ℕ → StandingLists
standing_room_of least_cuts order present step_starts step_places step_rises =
    record {
      least_cuts = least_cuts;
      order = order;
      present = present;
      step_starts = step_starts;
      step_places = step_places;
      step_rises = step_rises;
    }

-- the claim of these lists
abbrev pub claim_of : ℕ → ℕ → List ℕ → List ℕ → List ℕ → List ℕ → List ℤ → List ℤ → Claimed
claim_of bottleneck moved new_places cuts stops names block_prices pe_prices =
    record {
      bottleneck = bottleneck;
      moved = moved;
      new_places = new_places;
      cuts = cuts;
      stops = stops;
      names = names;
      block_prices = block_prices;
      pe_prices = pe_prices;
    }

-- a number that says yes: any but 0
abbrev pub is_set : ℕ → Bool
is_set n = not (n == 0)

-- the claim of a decision within a tolerance, above this least possible load
abbrev pub refined_claim_of : Bool → ℕ → Claimed → StandingLists → RefinedClaimed
refined_claim_of keep_order least decision standing =
    record {
      decision = decision;
      keep_order = keep_order;
      least = least;
      least_cuts = standing.least_cuts;
      order = standing.order;
      present = standing.present;
      step_starts = standing.step_starts;
      step_places = standing.step_places;
      step_rises = standing.step_rises;
    }

-- the lists of the levels
abbrev pub level_room_of : List ℕ → List ℕ → List ℕ → LevelLists
level_room_of level_starts level_places level_bytes =
    record { level_starts = level_starts; level_places = level_places; level_bytes = level_bytes }

-- the claim of a decision in any order of the PEs, above this least possible load
abbrev pub reordered_claim_of : ℕ → Claimed → List ℕ → LevelLists → ReorderedClaimed
reordered_claim_of least decision least_cuts levels =
    record {
      decision = decision;
      least = least;
      least_cuts = least_cuts;
      level_starts = levels.level_starts;
      level_places = levels.level_places;
      level_bytes = levels.level_bytes;
    }

-- the status that says why a call was refused
abbrev pub refusal_status : RunError → ℤ
refusal_status BadInput = negsuc 0
refusal_status OutOfMemory = negsuc 1
refusal_status BadLoad = negsuc 2

-- the status that says why nothing was decided within a tolerance
abbrev pub refine_status : RefineError → ℤ
refine_status BadTolerance = negsuc 6
refine_status (Run error) = refusal_status error
refine_status TooLarge = negsuc 7

-- the status that says why loads were not scaled
abbrev pub scale_status : ScaleError → ℤ
scale_status Scale.BadInput = negsuc 0
scale_status Scale.NotANumber = negsuc 3
scale_status Scale.Negative = negsuc 4
scale_status Scale.Infinite = negsuc 5
