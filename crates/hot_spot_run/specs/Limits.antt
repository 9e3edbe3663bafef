-- When a chain of strips runs: each number of the chain and of the config is within its limits, and there are no more strips than an
-- array may have.
use Rattle.std.specs.Prelude.{ℕ, List, length}
use Rattle.hot_spot_strip.specs.Openings.{IsChain}
use Rattle.hot_spot_strip.specs.declared.mode.Mode.{Mode}
use Rattle.rts_run.specs.Configs.{MayBegin}
use Rattle.rts_run.specs.declared.config.Config.{Config}

abbrev pub MayRun : Mode → ℕ → ℕ → List ℕ → Config → Type 0
MayRun mode rounds work counts config = IsChain mode rounds work counts × MayBegin config (length counts)
