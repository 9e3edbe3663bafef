use Rattle.std.proofs.Common.{◌≡◌, ◌+◌, ◌≤◌, length, arith, refl}
use Rattle.std.proofs.lemmas.List.Elements.{All-nil, All-push}
use Rattle.lb_snapshot.specs.Measured.{load}
use Rattle.merged_chains.specs.declared.walk.Walk.{Walk}
use Rattle.merged_chains.proofs.WalkedParts.{at_begins, at_closes, at_ends, at_stays}
use Rattle.merged_chains.proofs.walk.ends_on.Goals as goal

pub loop-closed-init : goal.loop-closed-init
loop-closed-init g c =
    record {
      inside = omega arith;
      stands = rw c.in_ok-ends.ensures.items (at_begins c.args.part.now c.args.pes c.args.walk c.args.first);
      counted = omega (arith, c.in_ok-ends.ensures.len);
      fits = λ small. small;
      inside_part = rw c.in_ok-ends.ensures.items (All-nil (λ end. (c.args.first ≤ end) × (end ≤ c.args.first + length c.args.part.now)));
      room = omega (arith, c.in_ok-ends.ensures.len, c.in_ok-ends.ensures.capacity, c.saturating_sub.ensures);
    }

pub overflow_add-filled : goal.overflow_add-filled
overflow_add-filled g c =
    omega (arith, c.saturating_sub-in-loop-closed.ensures, c.reach-end.ensures.greatest.fits, c.load.ensures.value)

pub loop-closed-preserved : goal.loop-closed-preserved
loop-closed-preserved g c =
    record {
      inside = c.reach-end.ensures.greatest.inside;
      stands = rw c.push_reserved.ensures.items (at_closes c.args.part.now c.args.pes c.args.walk c.args.first c.loop-closed.ends.items
          c.loop-closed.closed c.loop-closed.begin c.loop-closed.filled c.saturating_sub-in-loop-closed.result c.reach-end.result
          c.loop-closed.invariant.stands (omega arith) c.reach-end.ensures.onward c.reach-end.ensures.greatest
          c.saturating_sub-in-loop-closed.ensures (omega arith));
      counted = omega (arith, c.loop-closed.invariant.counted, c.push_reserved.ensures.len);
      fits = λ _. omega arith;
      inside_part = rw c.push_reserved.ensures.items (All-push (λ end. (c.args.first ≤ end) × (end ≤ c.args.first + length c.args.part.now))
          c.loop-closed.ends.items (c.args.first + c.reach-end.result) c.loop-closed.invariant.inside_part
          (omega arith, omega (arith, c.reach-end.ensures.greatest.inside)));
      room = omega (arith, c.loop-closed.invariant.room, c.push_reserved.ensures.len, c.push_reserved.ensures.capacity);
    }

pub returns-then-end-all-clause-walked : goal.returns-then-end-all-clause-walked
returns-then-end-all-clause-walked g c =
    let new : Walk = record { limit = c.args.walk.limit; closed = c.loop-closed.closed; filled = c.loop-closed.filled + c.load.result } in
    let weighs : c.loop-closed.filled + c.load.result ≡ c.loop-closed.filled + load c.args.part.now c.loop-closed.begin c.reach-end.result = omega (arith, c.load.ensures.value) in
    at_stays c.args.part.now c.args.pes c.args.walk c.args.first c.loop-closed.ends.items c.loop-closed.begin c.loop-closed.filled
    c.saturating_sub-in-loop-closed.result c.reach-end.result new c.loop-closed.invariant.stands (omega arith)
    c.reach-end.ensures.onward c.reach-end.ensures.greatest c.saturating_sub-in-loop-closed.ensures (omega arith) refl weighs

pub returns-clause-walked : goal.returns-clause-walked
returns-clause-walked g c =
    let new : Walk = record { limit = c.args.walk.limit; closed = c.args.pes; filled = 0 } in
    at_ends c.args.part.now c.args.pes c.args.walk c.args.first c.loop-closed.ends.items c.loop-closed.closed c.loop-closed.begin
    c.loop-closed.filled new c.loop-closed.invariant.stands (λ few. omega arith) refl refl refl
