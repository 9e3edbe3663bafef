use Rattle.std.proofs.Common.{arith}
use Rattle.lb_dump.proofs.Heads.{fourth_wrong, magic_wrong}
use Rattle.lb_dump.proofs.head.judge_magic.Goals as goal

pub returns-then-bytes-k : goal.returns-then-bytes-k
returns-then-bytes-k c = magic_wrong c.args.bytes.now c.loop-k.k (omega arith) (omega arith) c.loop-k.invariant c.if-bytes-k.true

pub returns-then-bytes-ne50 : goal.returns-then-bytes-ne50
returns-then-bytes-ne50 c = fourth_wrong c.args.bytes.now (omega arith) (λ j below. c.loop-k.invariant j (omega arith)) c.if-bytes-ne49.true c.if-bytes-ne50.true
