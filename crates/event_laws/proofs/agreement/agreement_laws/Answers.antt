use Rattle.std.specs.Prelude.{length}
use Rattle.event_laws.proofs.Taken.{all_taken}
use Rattle.event_laws.proofs.AgreeingEvents.{run_agrees}
use Rattle.event_laws.proofs.Finished.{run_finished}
use Rattle.event_laws.proofs.Snapshots.{run_snaps}
use Rattle.event_laws.proofs.agreement.agreement_laws.Goals as goal

-- src/agreement.rt:25:1
pub returns-clause-agreement : goal.returns-clause-agreement
returns-clause-agreement g c = λ pes chares strategy events last some run. run_agrees g.C.Chare.step g.C.Pup.pack g.C.Pup.unpack pes chares strategy some events last run

-- src/agreement.rt:25:1
pub returns-clause-snapshot : goal.returns-clause-snapshot
returns-clause-snapshot g c = λ pes chares strategy events w trace event next some run happens r here. run_snaps g.C.Chare.step g.C.Pup.pack
    g.C.Pup.unpack pes chares strategy some events w trace event next r run happens here

pub returns-clause-notes : goal.returns-clause-notes
returns-clause-notes g c = λ pes chares strategy events last some run. all_taken (length chares) last.0
    (run_agrees g.C.Chare.step g.C.Pup.pack g.C.Pup.unpack pes chares strategy some events last run)

pub returns-clause-finished : goal.returns-clause-finished
returns-clause-finished g c = λ pes chares strategy events last some run. run_finished g.C.Chare.step g.C.Pup.pack g.C.Pup.unpack pes chares strategy some events last run
