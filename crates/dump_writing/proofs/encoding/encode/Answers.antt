use Rattle.std.proofs.Common.{rules}
use Rattle.dump_writing.proofs.encoding.encode.Goals as goal

pub returns-in_err-text-clause-refused : goal.returns-in_err-text-clause-refused
returns-in_err-text-clause-refused g c = search rules
