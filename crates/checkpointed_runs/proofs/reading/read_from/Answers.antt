use Rattle.std.proofs.Common.{refl}
use Rattle.checkpointed_runs.proofs.Readings.{known_fault, known_text}
use Rattle.checkpointed_runs.proofs.reading.read_from.Goals as goal

pub returns-in-Ok : goal.returns-in-Ok
returns-in-Ok g c = record {
  within = c.in-Ok.ensures.read.3.within;
  read = (known_text _ c.in-Ok.checkpoint c.in-Ok.ensures.known, refl);
}

pub returns-in-Err-clause-read : goal.returns-in-Err-clause-read
returns-in-Err-clause-read g c = (c.in-Err.fault, known_fault _ c.in-Err.fault c.in-Err.ensures.known, c.report.ensures.reported)
