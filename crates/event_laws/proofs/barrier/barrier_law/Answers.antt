use Rattle.event_laws.proofs.KeptRounds.{event_keeps}
use Rattle.event_laws.proofs.Measured.{measured}
use Rattle.event_laws.proofs.BarrierRuns.{barrier, stands, in_order}
use Rattle.event_laws.proofs.barrier.barrier_law.Goals as goal

-- src/barrier.rt:30:1
pub returns-clause-barrier : goal.returns-clause-barrier
returns-clause-barrier g c = λ pes chares strategy events last some run. barrier g.C.Chare.step g.C.Pup.pack g.C.Pup.unpack pes chares strategy events last some run

-- src/barrier.rt:30:1
pub returns-clause-stands : goal.returns-clause-stands
returns-clause-stands g c = λ pes chares strategy events w trace event next some run happens e r there first. stands g.C.Chare.step
    g.C.Pup.pack g.C.Pup.unpack pes chares strategy events w trace event next e r some run happens there first

-- src/barrier.rt:30:1
pub returns-clause-kept : goal.returns-clause-kept
returns-clause-kept g c = λ w event next happens r kept is. event_keeps g.C.Chare.step g.C.Pup.pack g.C.Pup.unpack w event next r kept happens is

-- src/barrier.rt:30:1
pub returns-clause-in_order : goal.returns-clause-in_order
returns-clause-in_order g c = λ pes chares strategy events last run. in_order g.C.Chare.step g.C.Pup.pack g.C.Pup.unpack pes chares strategy events last run

-- src/barrier.rt:30:1
pub returns-clause-measured : goal.returns-clause-measured
returns-clause-measured g c = λ pes chares strategy events w trace event next some run happens r are there. measured g.C.Chare.step
    g.C.Pup.fits g.C.Pup.pack g.C.Pup.unpack pes chares strategy some events w trace event next r run are happens there
