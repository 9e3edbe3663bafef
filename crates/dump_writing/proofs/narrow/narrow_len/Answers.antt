use Rattle.std.proofs.Common.{arith}
use Rattle.dump_format.proofs.Spelling.{elements_length_word}
use Rattle.dump_writing.proofs.narrow.narrow_len.Goals as goal

pub returns : goal.returns
returns c =
    let it = c.args.snapshot.now in
    omega (arith, elements_length_word it.loads.now it.sizes.now it.narrow.snapshot.placed.paired)
