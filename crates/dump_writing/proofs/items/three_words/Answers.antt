use Rattle.std.proofs.Common.{rules}
use Rattle.dump_writing.proofs.items.three_words.Goals as goal

pub returns : goal.returns
returns c = search rules
