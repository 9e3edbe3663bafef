use Rattle.std.proofs.Common.{refl}
use Rattle.workload_run.proofs.Endings.{known_fault, known_text}
use Rattle.schedule_run.proofs.workload_file.read_from.Goals as goal

pub returns-in-Ok-clause-reads : goal.returns-in-Ok-clause-reads
returns-in-Ok-clause-reads g c = (known_text _ c.in-Ok.workload c.in-Ok.ensures.known, refl)

pub returns-in-Err-clause-reads : goal.returns-in-Err-clause-reads
returns-in-Err-clause-reads g c =
    let read = c.in-Err.ensures.read in (
      c.in-Err.fault,
      (λ other. record { text = read.0; consumed = read.1; told = read.3; end_ = c.in-Err.ensures.at_end; known = known_fault _ c.in-Err.fault other c.in-Err.ensures.known }),
      c.report_fault.ensures.reported,
    )
