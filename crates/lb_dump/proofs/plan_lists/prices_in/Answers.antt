use Rattle.std.proofs.Common.{arith}
use Rattle.dump_format.proofs.Bytes.{are_bytes}
use Rattle.lb_dump.proofs.NumbersRead.{prices_more}
use Rattle.lb_dump.proofs.plan_lists.prices_in.Goals as goal

pub loop-preserved : goal.loop-preserved
loop-preserved g c =
    record {
      left = omega arith;
      counted = omega arith;
      room = omega arith;
      read = prices_more c.loop.prices.items c.push_reserved.new.self.items c.long.result c.cast_signed.result c.loop.rest.now
          c.split_at.result.0.now c.split_at.result.1.now c.args.bytes.now
          (are_bytes c.args.bytes.now c.type_inv.bytes) c.loop.invariant.read c.split_at.ensures.by_index.0 c.split_at.ensures.front_len
          c.long.ensures.value c.long.type_inv c.cast_signed.ensures (record { sfits = c.cast_signed.type_inv }) c.push_reserved.ensures.items;
    }
