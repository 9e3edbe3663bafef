use Rattle.std.proofs.Common.{◌≡◌, ◌∙◌, ap, arith}
use Rattle.reductions.specs.Nodes.{gathered, with_more}
use Rattle.reductions.specs.Trees.{slot}
use Rattle.reductions.proofs.Nodes.{gathered_below}
use Rattle.reductions.proofs.node.Node.whole.Goals as goal

pub returns : goal.returns
returns g c =
    let parts = with_more c.args.self.now.parts c.args.more in
    let end : c.loop-in_slot.in_slot ≡ slot c.args.me = grind (arith, c.loop-in_slot.auto.in_slot-end, c.loop-in_slot-test.false, c.slot-in_slot-end.ensures.value) in
    record {
      value = c.loop-in_slot.invariant ∙ ap (gathered g.V.Combines.combined c.args.n c.args.me c.args.own parts) end
          ∙ gathered_below g.V.Combines.combined c.args.n c.args.me c.args.own parts;
    }
