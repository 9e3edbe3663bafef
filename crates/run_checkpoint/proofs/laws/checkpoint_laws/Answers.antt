use Rattle.run_checkpoint.proofs.Lengths.{text_is_short}
use Rattle.run_checkpoint.proofs.Lone.{no_fault, one_fault}
use Rattle.run_checkpoint.proofs.NextRounds.{takes_round}
use Rattle.run_checkpoint.proofs.TextLaws.{one_checkpoint, one_text, opening, written}
use Rattle.run_checkpoint.proofs.laws.checkpoint_laws.Goals as goal

pub returns-clause-one_checkpoint : goal.returns-clause-one_checkpoint
returns-clause-one_checkpoint c = one_checkpoint

pub returns-clause-one_text : goal.returns-clause-one_text
returns-clause-one_text c = one_text

pub returns-clause-one_fault : goal.returns-clause-one_fault
returns-clause-one_fault c = one_fault

pub returns-clause-no_fault : goal.returns-clause-no_fault
returns-clause-no_fault c = no_fault

pub returns-clause-written : goal.returns-clause-written
returns-clause-written c = written

pub returns-clause-short : goal.returns-clause-short
returns-clause-short c = text_is_short

pub returns-clause-opening : goal.returns-clause-opening
returns-clause-opening c = opening

pub returns-clause-next : goal.returns-clause-next
returns-clause-next c = takes_round
