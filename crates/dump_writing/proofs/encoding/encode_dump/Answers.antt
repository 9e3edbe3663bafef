use Rattle.std.proofs.Common.{rules}
use Rattle.dump_writing.proofs.encoding.encode_dump.Goals as goal

pub returns : goal.returns
returns g c = search rules
