-- When a chain does not run.
use Rattle.std.proofs.Common.{◌≡◌, ℕ, ◌+◌, List, [], ◌∷◌, length, suc, refl, ap}
use Rattle.hot_spot_strip.specs.Openings.{opening_strips}
use Rattle.hot_spot_strip.specs.declared.mode.Mode.{Mode}
use Rattle.rts_run.specs.Configs.{IsFirstOutside, MayBegin}
use Rattle.rts_run.specs.declared.config.Config.{Config}
use Rattle.rts_run.specs.declared.error.Setting.{Setting}
use Rattle.rts_run.specs.declared.error.Setting.TheVariants as Of

-- there is a strip for each number of cells
pub many_strips : (mode : Mode) (rounds work first : ℕ) (counts : List ℕ) → length (opening_strips mode rounds work first counts) ≡ length counts
many_strips mode rounds work first [] = refl
many_strips mode rounds work first (count ∷ counts) = ap suc (many_strips mode rounds work (first + count) counts)

-- a run of which a number is out of its limits may not begin
pub may_not_begin : (config : Config) (n : ℕ) (setting : Setting) → IsFirstOutside config n setting → ¬ (MayBegin config n)
may_not_begin config n Of.Pes out may = out (may.0.some_pe, may.0.few_pes)
may_not_begin config n Of.Capacity (pes, out) may = out (may.0.some_capacity, may.0.few_parcels)
may_not_begin config n Of.Turns (pes, capacity, out) may = out (may.0.some_turn, may.0.few_turns)
may_not_begin config n Of.ProbeWorkers (pes, capacity, turns, out) may = out (may.0.some_worker, may.0.few_workers)
may_not_begin config n Of.Elements (within, out) may = out may.1
