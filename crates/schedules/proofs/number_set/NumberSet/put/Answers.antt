use Rattle.std.proofs.Common.{arith}
use Rattle.schedules.proofs.Counts.{few_in_all, few_in_block, put_off, put_on, some_in_all, some_in_block}
use Rattle.schedules.proofs.number_set.NumberSet.put.Goals as goal

pub overflow_add-block : goal.overflow_add-block
overflow_add-block g c =
    record {
      fits = few_in_block c.self.inside.flags.items c.self.inside.blocks.items c.self.inside.len c.args.number c.args.member
          c.index.result.now c.index_mut-block.result.now c.self.invariant
          (omega (arith, c.if-len-at.false, c.len.ensures)) c.if-index-member.false c.index.ensures c.index_mut-block.ensures.value;
    }

pub overflow_add-self : goal.overflow_add-self
overflow_add-self g c =
    record {
      fits = few_in_all c.self.inside.flags.items c.self.inside.blocks.items c.self.inside.len c.args.number c.args.member
          c.index.result.now c.index_mut-block.result.now c.self.invariant
          (omega (arith, c.if-len-at.false, c.len.ensures)) c.if-index-member.false c.index.ensures c.index_mut-block.ensures.value;
    }

pub invariant_of-self : goal.invariant_of-self
invariant_of-self g c =
    put_on c.self.inside.flags.items c.self.inside.blocks.items c.self.inside.len c.args.number c.args.member c.index.result.now c.index_mut-block.result.now c.self.invariant
    (omega (arith, c.if-len-at.false, c.len.ensures)) c.if-index-member.false c.index.ensures c.index_mut-block.ensures.value c.if-member.true

pub overflow_sub-block : goal.overflow_sub-block
overflow_sub-block g c =
    some_in_block c.self.inside.flags.items c.self.inside.blocks.items c.self.inside.len c.args.number c.args.member c.index.result.now
    c.index_mut-block.result.now c.self.invariant
    (omega (arith, c.if-len-at.false, c.len.ensures)) c.if-index-member.false c.index.ensures c.index_mut-block.ensures.value c.if-member.false

pub overflow_sub-self : goal.overflow_sub-self
overflow_sub-self g c =
    some_in_all c.self.inside.flags.items c.self.inside.blocks.items c.self.inside.len c.args.number c.args.member c.index.result.now c.index_mut-block.result.now c.self.invariant
    (omega (arith, c.if-len-at.false, c.len.ensures)) c.if-index-member.false c.index.ensures c.index_mut-block.ensures.value c.if-member.false

pub invariant_of-self-else-member : goal.invariant_of-self-else-member
invariant_of-self-else-member g c =
    put_off c.self.inside.flags.items c.self.inside.blocks.items c.self.inside.len c.args.number c.args.member c.index.result.now c.index_mut-block.result.now c.self.invariant
    (omega (arith, c.if-len-at.false, c.len.ensures)) c.if-index-member.false c.index.ensures c.index_mut-block.ensures.value c.if-member.false
