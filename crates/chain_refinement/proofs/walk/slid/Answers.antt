use Rattle.std.proofs.Common.{◌+◌, arith}
use Rattle.chain_refinement.proofs.Windows.{element_in, element_out, never_back, stops, window_fits}
use Rattle.chain_refinement.proofs.walk.slid.Goals as goal

pub overflow_add-weight : goal.overflow_add-weight
overflow_add-weight c =
    let before = c.requires.before in
    omega (arith, before.weighed, window_fits c.args.loads.now c.args.window.start c.args.element 0 c.requires.measured before.start_is.inside c.requires.inside)

pub loop-weight-init : goal.loop-weight-init
loop-weight-init c =
    element_in c.args.loads.now c.args.element c.args.limit c.args.window.start c.args.window.weight 0 c.requires.before c.requires.inside

pub overflow_sub-weight : goal.overflow_sub-weight
overflow_sub-weight c =
    (element_out c.args.loads.now (c.args.element + 1) c.args.limit c.loop-weight.start c.loop-weight.weight 0 c.loop-weight.invariant (omega arith) c.loop-weight-test.true).0

pub loop-weight-preserved : goal.loop-weight-preserved
loop-weight-preserved c =
    (element_out c.args.loads.now (c.args.element + 1) c.args.limit c.loop-weight.start c.loop-weight.weight 0 c.loop-weight.invariant (omega arith) c.loop-weight-test.true).2

pub returns : goal.returns
returns c =
    let there = stops c.args.loads.now (c.args.element + 1) c.args.limit c.loop-weight.start c.loop-weight.weight c.loop-weight.invariant c.loop-weight-test.false in
    record {
      window = there;
      onward = never_back c.args.loads.now c.args.element c.args.limit c.args.window.start c.args.window.weight c.loop-weight.start c.loop-weight.weight c.requires.before there;
    }
