use Rattle.std.specs.Prelude.{map}
use Rattle.rts_core.specs.Worlds.{opening_world}
use Rattle.overtaking_laws.specs.StaleRuns.{freely}
use Rattle.overtaking_laws.proofs.ByCopies.{free_is_stale}
use Rattle.overtaking_laws.proofs.StaleBarrier.{stale_barrier, stale_stands, stale_in_order, stale_measured}
use Rattle.overtaking_laws.proofs.barrier.free_barrier_law.Goals as goal

pub returns-clause-barrier : goal.returns-clause-barrier
returns-clause-barrier g c = λ pes chares strategy steps last some run.
    stale_barrier g.C.Chare.step g.C.Pup.pack g.C.Pup.unpack pes chares strategy some (map freely steps) last (free_is_stale g.C.Chare.step g.C.Pup.pack g.C.Pup.unpack (opening_world pes chares strategy) steps last run)

pub returns-clause-stands : goal.returns-clause-stands
returns-clause-stands g c = λ pes chares strategy steps w trace event next some run happens e r there later.
    stale_stands g.C.Chare.step g.C.Pup.pack g.C.Pup.unpack pes chares strategy some (map freely steps) w trace event next (free_is_stale g.C.Chare.step g.C.Pup.pack g.C.Pup.unpack (opening_world pes chares strategy) steps (w, trace) run) happens e r there later

pub returns-clause-in_order : goal.returns-clause-in_order
returns-clause-in_order g c = λ pes chares strategy steps last some run.
    stale_in_order g.C.Chare.step g.C.Pup.pack g.C.Pup.unpack pes chares strategy (map freely steps) last (free_is_stale g.C.Chare.step g.C.Pup.pack g.C.Pup.unpack (opening_world pes chares strategy) steps last run)

pub returns-clause-measured : goal.returns-clause-measured
returns-clause-measured g c = λ pes chares strategy steps w trace event next some run happens r are there.
    stale_measured g.C.Chare.step g.C.Pup.pack g.C.Pup.unpack pes chares strategy some (map freely steps) w trace event next (free_is_stale g.C.Chare.step g.C.Pup.pack g.C.Pup.unpack (opening_world pes chares strategy) steps (w, trace) run) happens g.C.Pup.fits r are there
