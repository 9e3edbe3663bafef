use Rattle.std.specs.Prelude.{map}
use Rattle.rts_core.specs.Worlds.{opening_world}
use Rattle.overtaking_laws.specs.StaleRuns.{freely}
use Rattle.overtaking_laws.proofs.ByCopies.{free_is_stale}
use Rattle.overtaking_laws.proofs.StaleJournals.{stale_own}
use Rattle.overtaking_laws.proofs.letters.free_journal_law.Goals as goal

pub returns : goal.returns
returns g c =
    record { own = λ pes chares strategy steps last some run. stale_own g.C.Chare.step g.C.Pup.pack g.C.Pup.unpack pes chares strategy (map freely steps) last (free_is_stale g.C.Chare.step g.C.Pup.pack g.C.Pup.unpack (opening_world pes chares strategy) steps last run) }
