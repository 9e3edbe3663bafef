use Rattle.workload.proofs.Pieces.{text_or_fault}
use Rattle.workload.proofs.Texts.{beginning, open_front}
use Rattle.workload.proofs.laws.workload_laws.Goals as goal

pub returns-clause-open_front : goal.returns-clause-open_front
returns-clause-open_front c = open_front

pub returns-clause-beginning : goal.returns-clause-beginning
returns-clause-beginning c = beginning

pub returns-clause-text_or_fault : goal.returns-clause-text_or_fault
returns-clause-text_or_fault c = text_or_fault
