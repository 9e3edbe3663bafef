use Rattle.event_lists.proofs.Texts.{text_or_fault}
use Rattle.event_lists.proofs.laws.event_list_laws.Goals as goal

pub returns-clause-text_or_fault : goal.returns-clause-text_or_fault
returns-clause-text_or_fault c = text_or_fault
