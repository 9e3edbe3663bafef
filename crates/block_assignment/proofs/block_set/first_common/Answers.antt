use Rattle.std.proofs.Common.{◌<◌, ◌^◌, arith, rules, bit_and, slice_index}
use Rattle.block_assignment.proofs.BlockBits.{none_common, lowest_common}
use Rattle.block_assignment.proofs.block_set.first_common.Goals as goal

pub returns-then-both-ne0 : goal.returns-then-both-ne0
returns-then-both-ne0 c =
    let fits : bit_and (slice_index c.args.one.now c.loop-word.word) (slice_index c.args.other.now c.loop-word.word) < 2 ^ 64 = search rules in
    lowest_common c.args.one.now c.args.other.now c.loop-word.word (omega arith) (omega arith) fits

pub returns : goal.returns
returns c =
    none_common c.args.one.now c.args.other.now c.loop-word.word (omega arith) c.loop-word.invariant
