use Rattle.std.proofs.Common.{◌≡◌, ◌+◌, [], arith, refl}
use Rattle.lb_snapshot.specs.Measured.{load}
use Rattle.merged_chains.specs.declared.walk.Walk.{Walk}
use Rattle.merged_chains.proofs.WalkedParts.{at_begins, stands_closes, stands_ends, stands_stays}
use Rattle.merged_chains.proofs.walk.walk_on.Goals as goal

pub loop-closed-init : goal.loop-closed-init
loop-closed-init g c =
    record {
      inside = omega arith;
      stands = λ offset. ([], at_begins c.args.part.now c.args.pes c.args.walk offset);
      fits = λ small. small;
    }

pub overflow_add-filled : goal.overflow_add-filled
overflow_add-filled g c =
    omega (arith, c.saturating_sub.ensures, c.reach-end.ensures.greatest.fits, c.load.ensures.value)

pub loop-closed-preserved : goal.loop-closed-preserved
loop-closed-preserved g c =
    record {
      inside = c.reach-end.ensures.greatest.inside;
      stands = stands_closes c.args.part.now c.args.pes c.args.walk c.loop-closed.closed c.loop-closed.first c.loop-closed.filled
          c.saturating_sub.result c.reach-end.result c.loop-closed.invariant.stands (omega arith) c.reach-end.ensures.onward
          c.reach-end.ensures.greatest c.saturating_sub.ensures (omega arith);
      fits = λ _. omega arith;
    }

pub returns-then-end-all : goal.returns-then-end-all
returns-then-end-all g c =
    let new : Walk = record { limit = c.args.walk.limit; closed = c.loop-closed.closed; filled = c.loop-closed.filled + c.load.result } in
    let weighs : c.loop-closed.filled + c.load.result ≡ c.loop-closed.filled + load c.args.part.now c.loop-closed.first c.reach-end.result = omega (arith, c.load.ensures.value) in
    record {
      walked = stands_stays c.args.part.now c.args.pes c.args.walk c.loop-closed.first c.loop-closed.filled c.saturating_sub.result
          c.reach-end.result new c.loop-closed.invariant.stands (omega arith) c.reach-end.ensures.onward c.reach-end.ensures.greatest
          c.saturating_sub.ensures (omega arith) refl weighs (omega arith) c.loop-closed.invariant.fits;
    }

pub returns : goal.returns
returns g c =
    let new : Walk = record { limit = c.args.walk.limit; closed = c.args.pes; filled = 0 } in
    record {
      walked = stands_ends c.args.part.now c.args.pes c.args.walk c.loop-closed.closed c.loop-closed.first c.loop-closed.filled new
          c.loop-closed.invariant.stands (λ few. omega arith) refl refl refl;
    }
