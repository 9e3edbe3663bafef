-- A decision within a tolerance where the PEs may change their order, as plain lists.
use Rattle.std.specs.Prelude.{◌≡◌, Bool, true, false, ℕ, ◌+◌, ◌*◌, ◌<◌, ◌≤◌, ◌++◌, List, length, take, drop, pos, replicate}
use Rattle.lb_certificates.specs.Naming.{bytes_moved}
use Rattle.any_order.specs.AnyOrder.{AreFewestOfAll, IsReordered}
use Rattle.any_order.specs.declared.reordered.Reordered.{Reordered}
use Rattle.chain_refinement.specs.Tolerances.{limit_of}
use Rattle.lb_any_order.specs.Reorderings.{Fewest}
use Rattle.lb_lists.specs.Claims.{division_of}
use Rattle.lb_lists.specs.Plans.{stops_in}
use Rattle.lb_lists.specs.RefinedRooms.{HasRefinedRoom, StandingLists}
use Rattle.lb_lists.specs.Refinings.{IsRefinedRun, Standing, Told}
use Rattle.lb_lists.specs.Rooms.{Lists}
use Rattle.lb_lists.specs.Runs.{sizes_of, Listed}
use Rattle.lb_lists.specs.Steps.{all_steps, first_steps, places_of, rises_of}
use Rattle.lb_lists.specs.declared.bounds.BoundsBuffers.{BoundsBuffers}

-- The bounds for each number of blocks, from 0 on, as steps: `any` whatever the PEs of these blocks are, and `free` where none of
-- them is that of the element behind them.
pub record BoundRows : Type 0 where
  pub any : List (List (ℕ × ℕ))
  pub free : List (List (ℕ × ℕ))

-- the reordered division of what is reported, with these bounds
abbrev pub reordered_of : {A : Type 0} → ℕ → Told → BoundRows → Reordered A
reordered_of tolerance told rows =
    record {
      least = division_of told.least told.least_cuts told.stops;
      tolerance = tolerance;
      cuts = told.cuts;
      names = told.names;
      any = rows.any;
      free = rows.free;
    }

abbrev pub told_reordered : ℕ → Told → BoundRows → Reordered (Unit {0})
told_reordered tolerance told rows = reordered_of tolerance told rows

-- Cuts within the tolerance and names of their blocks of which none move fewer bytes, as the bounds show. Such names have no
-- prices.
pub record IsToldReordered (run : Listed) (pes tolerance : ℕ) (told : Told) (rows : BoundRows) : Type 0 where
  pub right : IsReordered run.loads (sizes_of run) pes (told_reordered tolerance told rows)
  pub fewest : AreFewestOfAll run.loads (sizes_of run) pes (limit_of told.least tolerance) told.cuts told.names
  pub moved : told.moved ≡ bytes_moved (sizes_of run) told.cuts told.names
  pub no_block_prices : told.block_prices ≡ replicate pes (pos 0)
  pub no_pe_prices : told.pe_prices ≡ replicate pes (pos 0)

-- What is decided where the PEs may change their order: such cuts and names; or what is decided where that is not asked for.
abbrev pub IsReorderedRun : Listed → ℕ → ℕ → Bool → Bool → Told → Standing → BoundRows → Type 0
IsReorderedRun run pes tolerance true near told standing rows = (near ≡ false) × IsToldReordered run pes tolerance told rows
IsReorderedRun run pes tolerance false near told standing rows = IsRefinedRun run pes tolerance near told standing

-- what is to be reported of cuts and names that move the fewest bytes of all
abbrev pub told_of_fewest : {A : Type 0} → Fewest A → Told
told_of_fewest f =
    record {
      least = f.1.least.bottleneck;
      moved = f.0.moved;
      cuts = f.0.division.cuts;
      names = f.0.naming;
      block_prices = replicate (length f.0.naming) (pos 0);
      pe_prices = replicate (length f.0.naming) (pos 0);
      least_cuts = f.1.least.cuts;
      stops = stops_in f.1.least.floor;
    }

-- the contents of the lists of bounds
pub record LevelLists : Type 0 where
  pub level_starts : List ℕ
  pub level_places : List ℕ
  pub level_bytes : List ℕ

abbrev pub level_lists_in : BoundsBuffers → LevelLists
level_lists_in room =
    record {
      level_starts = room.level_starts.now;
      level_places = room.level_places.now;
      level_bytes = room.level_bytes.now;
    }

-- the lists of one room are those of the other, whatever they hold
pub record HasLevelListsOf (other room : BoundsBuffers) : Type 0 where
  pub level_starts : room.level_starts.ghost_name ≡ other.level_starts.ghost_name
  pub level_places : room.level_places.ghost_name ≡ other.level_places.ghost_name
  pub level_bytes : room.level_bytes.ghost_name ≡ other.level_bytes.ghost_name

-- a first level for each number of blocks, twice, and one number more; and as many bytes as places
pub record HasLevelRoom (pes : ℕ) (lists : LevelLists) : Type 0 where
  pub level_starts : length lists.level_starts ≡ 2 * pes + 3
  pub level_bytes : length lists.level_bytes ≡ length lists.level_places

-- buffers for a decision on this number of elements in any order of the PEs, and for what proves it
pub record HasReorderedRoom (elements pes : ℕ) (decision : Lists) (standing : StandingLists) (levels : LevelLists) : Type 0 where
  pub refined_room : HasRefinedRoom elements pes decision standing
  pub level_room : HasLevelRoom pes levels

-- the rows of both bounds, those of `any` first
abbrev pub all_rows : BoundRows → List (List (ℕ × ℕ))
all_rows rows = rows.any ++ rows.free

-- rows in plain lists: the number of the first level of each, and of all levels; and of each level the place and the bytes
pub record AreFlat (rows : List (List (ℕ × ℕ))) (starts places bytes : List ℕ) : Type 0 where
  pub starts_are : starts ≡ first_steps 0 rows
  pub places_are : places ≡ places_of (all_steps rows)
  pub bytes_are : bytes ≡ rises_of (all_steps rows)

-- The bounds have this number of levels. They are written where the lists have the capacity for all of them: for each row the
-- number of its first level, and for each level the place from which on it holds, and its bytes. Past their end, or where there is
-- no such capacity, the lists are unchanged.
pub record AreLevelsIn (rows : BoundRows) (levels : ℕ) (old new : LevelLists) : Type 0 where
  pub counted : levels ≡ length (all_steps (all_rows rows))
  pub starts : levels ≤ length old.level_places → new.level_starts ≡ first_steps 0 (all_rows rows)
  pub places : levels ≤ length old.level_places → take levels new.level_places ≡ places_of (all_steps (all_rows rows))
  pub bytes : levels ≤ length old.level_places → take levels new.level_bytes ≡ rises_of (all_steps (all_rows rows))
  pub starts_left : length old.level_places < levels → new.level_starts ≡ old.level_starts
  pub places_left : drop levels new.level_places ≡ drop levels old.level_places
  pub bytes_left : drop levels new.level_bytes ≡ drop levels old.level_bytes

-- what is written of bounds: their levels, where no cuts and names move fewer bytes than the decision
abbrev pub AreBoundsIn : Bool → BoundRows → ℕ → LevelLists → LevelLists → Type 0
AreBoundsIn true rows levels old new = AreLevelsIn rows levels old new
AreBoundsIn false rows levels old new = (levels ≡ 0) × (new ≡ old)
