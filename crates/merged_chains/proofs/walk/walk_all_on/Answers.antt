use Rattle.std.proofs.Common.{◌∙◌, arith}
use Rattle.std.proofs.lemmas.List.{get_or-set_other}
use Rattle.merged_chains.specs.declared.walk.Walk.{Walk}
use Rattle.merged_chains.proofs.WalkedParts.{walks_more}
use Rattle.merged_chains.proofs.walk.walk_all_on.Goals as goal

pub loop-walk-preserved : goal.loop-walk-preserved
loop-walk-preserved g c =
    let old = c.loop-walk.invariant in
    let none : Walk = record { limit = 0; closed = 0; filled = 0 } in
    record {
      kept = λ i d later. get_or-set_other c.loop-walk.walks c.loop-walk.walk-index i c.walk_on.result d (omega arith) ∙ old.kept i d (omega arith);
      walked = walks_more c.args.part.now c.args.pes c.args.walks.now c.loop-walk.walks c.loop-walk.walk-index none c.walk_on.result
          (omega arith) old.kept old.walked c.walk_on.ensures.walked;
    }
