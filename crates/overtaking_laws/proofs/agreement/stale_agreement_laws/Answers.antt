use Rattle.std.specs.Prelude.{length}
use Rattle.event_laws.proofs.Finished.{finished_as_said}
use Rattle.event_laws.proofs.Taken.{all_taken}
use Rattle.overtaking_laws.proofs.StaleAgreement.{stale_said}
use Rattle.overtaking_laws.proofs.StaleBarrier.{stale_snaps}
use Rattle.overtaking_laws.proofs.agreement.stale_agreement_laws.Goals as goal

pub returns-clause-agreement : goal.returns-clause-agreement
returns-clause-agreement g c = λ pes chares strategy steps last some run.
    (stale_said g.C.Chare.step g.C.Pup.pack g.C.Pup.unpack pes chares strategy some steps last run).sound.agrees

pub returns-clause-notes : goal.returns-clause-notes
returns-clause-notes g c = λ pes chares strategy steps last some run.
    all_taken (length chares) last.0 (stale_said g.C.Chare.step g.C.Pup.pack g.C.Pup.unpack pes chares strategy some steps last run).sound.agrees

pub returns-clause-snapshot : goal.returns-clause-snapshot
returns-clause-snapshot g c = λ pes chares strategy steps w trace event next some run happens r there.
    stale_snaps g.C.Chare.step g.C.Pup.pack g.C.Pup.unpack pes chares strategy some steps w trace event next run happens r there

pub returns-clause-finished : goal.returns-clause-finished
returns-clause-finished g c = λ pes chares strategy steps last some run.
    finished_as_said (length chares) last.0 (stale_said g.C.Chare.step g.C.Pup.pack g.C.Pup.unpack pes chares strategy some steps last run)
