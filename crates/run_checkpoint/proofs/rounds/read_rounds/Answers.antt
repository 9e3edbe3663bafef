use Rattle.std.proofs.Common.{arith, inr}
use Rattle.run_checkpoint.proofs.RoundLines.{none_before, one_more, all_read, not_rounds}
use Rattle.run_checkpoint.proofs.rounds.read_rounds.Goals as goal

pub loop-i-init : goal.loop-i-init
loop-i-init g c = none_before c.args.bytes.now c.args.decided.now.items c.requires.empty

pub loop-i-preserved : goal.loop-i-preserved
loop-i-preserved g c =
    one_more c.args.bytes.now c.loop-i.decided.items c.append.new.decided.items c.loop-i.i c.loop-i.rest.now c.in-Ok.behind.now c.in-Ok.round
    c.loop-i.invariant c.in-Ok.ensures c.in_ok-append-in-Ok.ensures

pub returns-in-Err : goal.returns-in-Err
returns-in-Err g c =
    inr (not_rounds c.args.count c.args.bytes.now c.loop-i.decided.items c.loop-i.i c.loop-i.rest.now c.in-Err.fault c.loop-i.invariant c.loop-i-test.true c.in-Err.ensures)

pub returns : goal.returns
returns g c =
    all_read c.args.count c.args.bytes.now c.loop-i.decided.items c.loop-i.i c.loop-i.rest.now c.loop-i.invariant (omega arith)
