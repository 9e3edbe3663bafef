-- What a run does that is asked for nothing but its numbers.
use Rattle.chare_index.specs.declared.limits.TheConstants.Limits.{BODY_BYTES}
use Rattle.chares.specs.declared.history.History.TheVariants.{Kept}
use Rattle.rts_run.specs.declared.options.Idle.TheVariants.{Turns}
use Rattle.rts_run.specs.declared.options.Options.{Options}
use Rattle.sync_board.specs.declared.strategy.Strategy.TheVariants.{Least}

-- bodies of up to 1,024 bytes, rounds decided by the least strategy, journals that are kept, and an end after so many idle turns
abbrev pub usual_options : Options
usual_options = record { longest = BODY_BYTES; strategy = Least; history = Kept; idle = Turns }
