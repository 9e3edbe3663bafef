use Rattle.std.proofs.Common.{◌≡◌, ◌+◌, ◌∙◌, sym, get_or, arith}
use Rattle.std.proofs.lemmas.Grind.{common_steps}
use Rattle.std.proofs.lemmas.Option.{unwrap_or-slice_get}
use Rattle.hot_spot_strip.proofs.Sweeps.{computed_all, computed_more}
use Rattle.hot_spot_strip.proofs.cells.compute.Goals as goal

pub loop-i-preserved : goal.loop-i-preserved
loop-i-preserved c =
    let right : c.unwrap_or-right.result ≡ get_or c.loop-i.cells (c.loop-i.i + 1) c.args.after = grind (arith, common_steps, unwrap_or-slice_get) in
    record {
      counted = grind (arith, common_steps);
      whole = computed_more c.args.rounds c.loop-i.left c.loop-i.cells c.loop-i.i c.args.after c.mixed.result (omega arith) (cc) ∙ c.loop-i.invariant.whole;
    }

pub returns : goal.returns
returns c =
    record {
      value = sym (computed_all c.args.rounds c.loop-i.left c.loop-i.cells c.loop-i.i c.args.after (omega arith)) ∙ c.loop-i.invariant.whole;
    }
