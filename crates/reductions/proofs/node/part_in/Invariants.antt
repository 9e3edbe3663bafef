use Rattle.std.proofs.Common.{◌≡◌, drop}
use Rattle.reductions.specs.Nodes.{part_in}
use Rattle.reductions.proofs.node.part_in.Given as goal

abbrev pub invariant-loop-part : goal.invariant-loop-part
invariant-loop-part g l = part_in l.in_slot (drop l.part-index l.parts) ≡ part_in l.in_slot l.parts
