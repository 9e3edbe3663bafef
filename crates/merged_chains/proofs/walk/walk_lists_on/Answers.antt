use Rattle.std.proofs.Common.{◌∙◌, arith, get_or-set_other}
use Rattle.std.proofs.lemmas.List.{length-set}
use Rattle.merged_chains.specs.declared.walk.Walk.{Walk}
use Rattle.merged_chains.proofs.WalkedParts.{lists_more}
use Rattle.merged_chains.proofs.walk.walk_lists_on.Goals as goal

pub loop-i-preserved : goal.loop-i-preserved
loop-i-preserved g c =
    let old = c.loop-i.invariant in
    let behind : Walk = c.walk_on-behind.result in
    record {
      closed_room = length-set c.loop-i.closed c.loop-i.i behind.closed ∙ old.closed_room;
      filled_room = length-set c.loop-i.filled c.loop-i.i behind.filled ∙ old.filled_room;
      closed_kept = λ k later. get_or-set_other c.loop-i.closed c.loop-i.i k behind.closed 0 (omega arith) ∙ old.closed_kept k (omega arith);
      filled_kept = λ k later. get_or-set_other c.loop-i.filled c.loop-i.i k behind.filled 0 (omega arith) ∙ old.filled_kept k (omega arith);
      walked = lists_more c.args.part.now c.args.pes c.args.limits.now c.args.closed.now c.args.filled.now c.loop-i.closed c.loop-i.filled
          c.loop-i.i behind (omega (arith, c.loop-i-test.true, old.closed_room)) (omega (arith, c.loop-i-test.true, old.filled_room))
          (old.closed_kept c.loop-i.i (omega arith)) (old.filled_kept c.loop-i.i (omega arith)) old.walked c.walk_on-behind.ensures.walked;
    }
