-- How far a strip has come, and what its plan says of that.
use Rattle.std.specs.Prelude.{ℕ, ◌+◌, ◌%◌, ◌==◌, Option, None, Some, is_some, Bool, not, ◌&&◌, ◌||◌, nat_lt, if◌then◌else◌}
use Rattle.std.specs.Float.{Float}
use Rattle.std.specs.Float.Ieee.{lt}
use Rattle.std.specs.Option.{unwrap_or}
use Rattle.heat_rod.specs.declared.ghost_cell.GhostCell.{GhostCell}
use Rattle.heat_rod.specs.declared.heating.TheConstants.{COLD}
use Rattle.heat_rod.specs.declared.plan.RodPlan.{RodPlan}
use Rattle.heat_rod.specs.declared.stage.Stage.{Stage}
use Rattle.heat_rod.specs.declared.stage.TheConstants.{NO_RESIDUAL}
use Rattle.heat_rod.specs.GhostCells.{left_of, right_of}

abbrev pub opening_stage : Stage
opening_stage = record { begun = 0; done = 0; residual = NO_RESIDUAL; left = None; right = None }

-- all steps are taken, or the last one changed no cell of the rod by much
abbrev pub is_over : RodPlan → Stage → Bool
is_over plan stage = not (nat_lt stage.done plan.steps) || lt stage.residual plan.small

abbrev pub is_due : RodPlan → Stage → Bool
is_due plan stage = not (plan.every == 0) && (stage.done % plan.every) == 0

-- a ghost cell is kept where it is of the step that is next
abbrev pub keeps : Stage → GhostCell → Stage
keeps stage cell =
    if cell.step == stage.done
    then (if cell.from_left then record stage { left = Some cell.heat } else record stage { right = Some cell.heat })
    else stage

abbrev pub hears : Stage → Float → Stage
hears stage x = record stage { residual = x }

-- a step is begun; once it is computed its ghost cells are gone
abbrev pub begins_step : Stage → Stage
begins_step stage = record stage { begun = stage.done + 1 }

abbrev pub ends_step : Stage → Stage
ends_step stage = record stage { done = stage.done + 1; left = None; right = None }

-- a ghost cell has come, or there is no strip on that side
abbrev pub is_beside : Option ℕ → Option Float → Bool
is_beside neighbor cell = not (is_some neighbor) || is_some cell

abbrev pub has_cells : Stage → ℕ → ℕ → Bool
has_cells stage me n = is_beside (left_of me) stage.left && is_beside (right_of me n) stage.right

-- the temperature of a cell; beyond an end of the rod it is cold
abbrev pub heat_in : Option Float → Float
heat_in cell = unwrap_or cell COLD

-- the cell at an end of a strip, for the step that is next
abbrev pub cell_of : Stage → Bool → Option Float → GhostCell
cell_of stage from_left cell = record { from_left = from_left; step = stage.done; heat = heat_in cell }
