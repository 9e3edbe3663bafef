-- The strips of a rod, as they open.
use Rattle.std.specs.Prelude.{ℕ, ◌==◌, List, map, if◌then◌else◌}
use Rattle.std.specs.Float.{Float}
use Rattle.std.specs.List.{range_with_len}
use Rattle.reductions.specs.Nodes.{opening_node}
use Rattle.reductions.specs.Stepping.{ReducingView}
use Rattle.reductions.specs.declared.greatest.Greatest.{Greatest}
use Rattle.heat_rod.specs.declared.heating.TheConstants.{COLD, FLAME}
use Rattle.heat_rod.specs.declared.plan.RodPlan.{RodPlan}
use Rattle.heat_rod.specs.Strips.{RodStripView, opening_strip}

-- the fire starts in the first strip
abbrev pub opening_heat : ℕ → Float
opening_heat i = if i == 0 then FLAME else COLD

-- a strip that has contributed nothing yet
abbrev pub opening_chare : RodPlan → ℕ → ReducingView RodStripView (Greatest Float)
opening_chare plan i = record { chare = opening_strip plan (opening_heat i); node = opening_node }

abbrev pub opening_rod : RodPlan → ℕ → List (ReducingView RodStripView (Greatest Float))
opening_rod plan n = map (opening_chare plan) (range_with_len 0 n)
