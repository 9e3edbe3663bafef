use Rattle.std.proofs.Common.{◌≡◌, Some}
use Rattle.reductions.specs.Nodes.{gathered, with_more}
use Rattle.reductions.proofs.node.Node.whole.Given as goal

abbrev pub invariant-loop-in_slot : goal.invariant-loop-in_slot
invariant-loop-in_slot g l = Some l.value ≡ gathered g.V.Combines.combined l.n l.me l.fn.own (with_more l.self.parts l.more) l.in_slot
