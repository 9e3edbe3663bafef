use Rattle.run_checkpoint.proofs.Words.{stripped_as}
use Rattle.run_checkpoint.proofs.numbers.behind.Goals as goal

pub returns : goal.returns
returns c = stripped_as c.args.word.now c.args.bytes.now c.strip_prefix.result c.strip_prefix.ensures.cases
