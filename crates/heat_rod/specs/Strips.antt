-- The step of a strip: what it makes of a resumption, of a ghost cell, and of the residual of a step.
use Rattle.std.specs.Prelude.{◌≡◌, ℕ, ◌+◌, ◌-◌, ◌<◌, List, [], ◌++◌, length, replicate, slice_get, Option, None, Some, Bool, true, false, not, ◌&&◌, nat_lt, if◌then◌else◌}
use Rattle.std.specs.Float.{Float}
use Rattle.chare_index.specs.declared.limits.TheConstants.Limits.{LETTERS}
use Rattle.chares.specs.declared.chare.Effect.{Effect}
use Rattle.chares.specs.declared.sends.SendError.{SendError}
use Rattle.chares.specs.declared.sends.SendError.TheVariants.{Worn}
use Rattle.reductions.specs.declared.contributes.Input.{Input}
use Rattle.reductions.specs.declared.contributes.Input.TheVariants.{Message, Reduced, Resumed}
use Rattle.reductions.specs.declared.greatest.Greatest.{Greatest}
use Rattle.reductions.specs.Reactions.{Reaction}
use Rattle.heat_rod.specs.declared.ghost_cell.GhostCell.{GhostCell}
use Rattle.heat_rod.specs.declared.plan.RodPlan.{RodPlan}
use Rattle.heat_rod.specs.declared.stage.Stage.{Stage}
use Rattle.heat_rod.specs.declared.sweep.TheConstants.{CELLS}
use Rattle.heat_rod.specs.GhostCells.{cells_to, left_of, right_of}
use Rattle.heat_rod.specs.Stages.{begins_step, cell_of, ends_step, has_cells, heat_in, hears, is_due, is_over, keeps, opening_stage}
use Rattle.heat_rod.specs.Sweeps.{greatest_change, next_cells, work_of}

-- the plan, how far the strip has come, and its cells
pub record RodStripView : Type 0 where
  pub plan : RodPlan
  pub stage : Stage
  pub cells : List Float

-- what changes: how far it has come, and its cells where they were computed
pub record ChangeView : Type 0 where
  pub stage : Stage
  pub cells : Option (List Float)

abbrev pub are_few : List Float → Bool
are_few cells = not (nat_lt CELLS (length cells))

abbrev pub is_strip : RodStripView → Bool
is_strip s = are_few s.cells

abbrev pub cells_or : List Float → Option (List Float) → List Float
cells_or old None = old
cells_or old (Some new) = new

abbrev pub is_change : ChangeView → Bool
is_change c = are_few (cells_or [] c.cells)

abbrev pub changed : RodStripView → ChangeView → RodStripView
changed s c = record { plan = s.plan; stage = c.stage; cells = cells_or s.cells c.cells }

abbrev pub at_stage : RodStripView → Stage → RodStripView
at_stage s stage = record { plan = s.plan; stage = stage; cells = s.cells }

-- as it opens
abbrev pub opening_strip : RodPlan → Float → RodStripView
opening_strip plan heat = record { plan = plan; stage = opening_stage; cells = replicate CELLS heat }

-- the first cell goes to the neighbor on the left, and the last one to that on the right; a strip without cells is cold
abbrev pub shown_left : RodStripView → ℕ → List (ℕ × GhostCell)
shown_left s me = cells_to (left_of me) (cell_of s.stage false (slice_get s.cells 0))

abbrev pub shown_right : RodStripView → ℕ → ℕ → List (ℕ × GhostCell)
shown_right s me n = cells_to (right_of me n) (cell_of s.stage true (slice_get s.cells (length s.cells - 1)))

abbrev pub shown : RodStripView → ℕ → ℕ → List (ℕ × GhostCell)
shown s me n = shown_left s me ++ shown_right s me n

abbrev pub RodReaction : Type 0
RodReaction = Reaction RodStripView GhostCell (Greatest Float)

abbrev pub idle : Bool → Bool → Effect
idle at_sync finished = record { units = 0; at_sync = at_sync; finished = finished }

-- it takes no work, and contributes nothing
abbrev pub rests : RodStripView → Effect → List (ℕ × GhostCell) → RodReaction
rests s effect sends = record { state = s; effect = effect; sends = sends; contribution = None }

-- it computes the step that it has begun, and contributes the greatest change of a cell
abbrev pub computes : RodStripView → List (ℕ × GhostCell) → RodReaction
computes s sends =
    let left = heat_in s.stage.left in
    let right = heat_in s.stage.right in
    record {
      state = record { plan = s.plan; stage = ends_step s.stage; cells = next_cells left s.cells right };
      effect = record { units = work_of s.cells; at_sync = false; finished = false };
      sends = sends;
      contribution = Some (record { 0 = greatest_change left s.cells right });
    }

-- it begins a step, and computes it if its ghost cells are there already; at the end of the plan it has finished
abbrev pub begins : RodStripView → ℕ → ℕ → RodReaction
begins s me n =
    let t = at_stage s (begins_step s.stage) in
    if is_over s.plan s.stage
    then rests s (idle false true) []
    else (if has_cells t.stage me n then computes t (shown s me n) else rests t (idle false false) (shown s me n))

-- it keeps a ghost cell, and computes the step if it has begun that and has all of its ghost cells
abbrev pub takes : RodStripView → ℕ → ℕ → GhostCell → RodReaction
takes s me n cell =
    let t = at_stage s (keeps s.stage cell) in
    if nat_lt t.stage.done t.stage.begun && has_cells t.stage me n then computes t [] else rests t (idle false false) []

-- with the residual of a step it is at sync, if it goes on and is to be balanced; else it begins the next step
abbrev pub goes_on : RodStripView → ℕ → ℕ → Float → RodReaction
goes_on s me n x =
    let t = at_stage s (hears s.stage x) in
    if not (is_over t.plan t.stage) && is_due t.plan t.stage then rests t (idle true false) [] else begins t me n

abbrev pub rod_step : RodStripView → ℕ → ℕ → Input GhostCell (Greatest Float) → RodReaction
rod_step s me n (Resumed round) = begins s me n
rod_step s me n (Message cell) = takes s me n cell
rod_step s me n (Reduced value) = goes_on s me n value.0

-- it returns an error only where too few letter numbers are left for what it sends
abbrev pub RodRefuses : RodStripView → ℕ → ℕ → ℕ → Input GhostCell (Greatest Float) → SendError → Type 0
RodRefuses s me n count input e = (e ≡ Worn) × (LETTERS < count + length (rod_step s me n input).sends)
