-- The lists that a decision within a tolerance is written to.
use Rattle.std.specs.Prelude.{◌≡◌, Bool, true, false, ℕ, ◌+◌, ◌<◌, ◌≤◌, List, length, take, drop}
use Rattle.lb_refinement.specs.Refined.{Kept}
use Rattle.lb_strategy.specs.declared.decision.Decision.{Decision}
use Rattle.lb_lists.specs.Plans.{stops_in}
use Rattle.lb_lists.specs.Refinings.{Standing, Told}
use Rattle.lb_lists.specs.Rooms.{HasRoom, Lists}
use Rattle.lb_lists.specs.Steps.{all_steps, first_steps, places_of, rises_of}
use Rattle.lb_lists.specs.declared.refining.StandingBuffers.{StandingBuffers}

-- the contents of the lists of the order, the present cuts, the least cuts and the steps
pub record StandingLists : Type 0 where
  pub least_cuts : List ℕ
  pub order : List ℕ
  pub present : List ℕ
  pub step_starts : List ℕ
  pub step_places : List ℕ
  pub step_rises : List ℕ

abbrev pub standing_lists_in : StandingBuffers → StandingLists
standing_lists_in room =
    record {
      least_cuts = room.least_cuts.now;
      order = room.order.now;
      present = room.present.now;
      step_starts = room.step_starts.now;
      step_places = room.step_places.now;
      step_rises = room.step_rises.now;
    }

-- the lists of one room are those of the other, whatever they hold
pub record HasStandingListsOf (other room : StandingBuffers) : Type 0 where
  pub least_cuts : room.least_cuts.ghost_name ≡ other.least_cuts.ghost_name
  pub order : room.order.ghost_name ≡ other.order.ghost_name
  pub present : room.present.ghost_name ≡ other.present.ghost_name
  pub step_starts : room.step_starts.ghost_name ≡ other.step_starts.ghost_name
  pub step_places : room.step_places.ghost_name ≡ other.step_places.ghost_name
  pub step_rises : room.step_rises.ghost_name ≡ other.step_rises.ghost_name

-- a cut and a first step more than PEs, a name for each PE, and as many rises of steps as places
pub record HasStandingRoom (pes : ℕ) (lists : StandingLists) : Type 0 where
  pub least_cuts : length lists.least_cuts ≡ pes + 1
  pub order : length lists.order ≡ pes
  pub present : length lists.present ≡ pes + 1
  pub step_starts : length lists.step_starts ≡ pes + 1
  pub step_rises : length lists.step_rises ≡ length lists.step_places

-- buffers for a decision on this number of elements, and for what proves it
pub record HasRefinedRoom (elements pes : ℕ) (decision : Lists) (standing : StandingLists) : Type 0 where
  pub decision_room : HasRoom elements pes decision
  pub standing_room : HasStandingRoom pes standing

-- the decision in these lists, with the first `stops` stops
abbrev pub told_in : ℕ → ℕ → ℕ → Lists → StandingLists → Told
told_in least moved stops decision standing =
    record {
      least = least;
      moved = moved;
      cuts = decision.cuts;
      names = decision.names;
      block_prices = decision.block_prices;
      pe_prices = decision.pe_prices;
      least_cuts = standing.least_cuts;
      stops = take stops decision.stops;
    }

-- what is to be reported of a plan, and of cuts near the present ones
abbrev pub told_of_plan : {A : Type 0} → Decision A → Told
told_of_plan d =
    record {
      least = d.division.bottleneck;
      moved = d.moved;
      cuts = d.division.cuts;
      names = d.naming;
      block_prices = d.prices.u;
      pe_prices = d.prices.v;
      least_cuts = d.division.cuts;
      stops = stops_in d.division.floor;
    }

abbrev pub told_of_kept : {A : Type 0} → Kept A → Told
told_of_kept k =
    record {
      least = k.1.least.bottleneck;
      moved = k.0.moved;
      cuts = k.0.division.cuts;
      names = k.0.naming;
      block_prices = k.0.prices.u;
      pe_prices = k.0.prices.v;
      least_cuts = k.1.least.cuts;
      stops = stops_in k.1.least.floor;
    }

-- The heights have this number of steps. They are written where the lists have the capacity for all of them: for each block the
-- number of its first step, and for each step the place and the rise. Past their end, or where there is no such capacity, the
-- lists are unchanged.
pub record AreStepsIn (heights : List (List (ℕ × ℕ))) (steps : ℕ) (old new : StandingLists) : Type 0 where
  pub counted : steps ≡ length (all_steps heights)
  pub starts : steps ≤ length old.step_places → new.step_starts ≡ first_steps 0 heights
  pub places : steps ≤ length old.step_places → take steps new.step_places ≡ places_of (all_steps heights)
  pub rises : steps ≤ length old.step_places → take steps new.step_rises ≡ rises_of (all_steps heights)
  pub starts_left : length old.step_places < steps → new.step_starts ≡ old.step_starts
  pub places_left : drop steps new.step_places ≡ drop steps old.step_places
  pub rises_left : drop steps new.step_rises ≡ drop steps old.step_rises

-- the order, the present cuts and the steps are unchanged
pub record IsStandingLeft (old new : StandingLists) : Type 0 where
  pub order : new.order ≡ old.order
  pub present : new.present ≡ old.present
  pub step_starts : new.step_starts ≡ old.step_starts
  pub step_places : new.step_places ≡ old.step_places
  pub step_rises : new.step_rises ≡ old.step_rises

-- what is written beside the decision: the steps of these heights, where its cuts are near the present ones
abbrev pub IsStandingIn : Bool → List (List (ℕ × ℕ)) → ℕ → StandingLists → StandingLists → Type 0
IsStandingIn true heights steps old new = AreStepsIn heights steps old new
IsStandingIn false heights steps old new = (steps ≡ 0) × IsStandingLeft old new

-- the order and the present cuts of these lists, with heights
abbrev pub standing_in : List (List (ℕ × ℕ)) → StandingLists → Standing
standing_in heights lists = record { order = lists.order; present = lists.present; heights = heights }
