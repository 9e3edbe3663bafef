use Rattle.dump_format.proofs.OneText.{no_fault}
use Rattle.dump_format.proofs.DecodedTexts.{text_or_fault, whole_is_text}
use Rattle.dump_format.proofs.laws.dump_laws.Goals as goal

pub returns : goal.returns
returns g c = record { text_or_fault = text_or_fault; never_both = no_fault; whole_is_text = whole_is_text }
