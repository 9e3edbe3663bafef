use Rattle.std.proofs.Common.{◌<◌, ◌∙◌, ◌∷◌, length, ap, arith, rules, length-append, []}
use Rattle.crossbeam_queue.specs.Passes.{view}
use Rattle.pe_queues.proofs.Steps.{pops, looks, all_counted, drained_none, drained_more, drained_counts, drained_all}
use Rattle.pe_queues.proofs.queue.pop_all.Goals as goal

pub pop_as-requires-clause-rule : goal.pop_as-requires-clause-rule
pop_as-requires-clause-rule g c =
    let seated : 0 < (view c.loop-value.pass).seats = rw (ap (λ v. v.seats) c.loop-value.invariant.traffic) (search rules) in
    (pops _ _ seated, looks _ _)

pub loop-value-init : goal.loop-value-init
loop-value-init g c =
    let counted = c.len_as-left.ensures in
    let own = c.requires.own in
    let held = counted.rule.1 in
    record {
      own = (counted.queue.0.0 ∙ own.0, counted.queue.0.2 ∙ own.1);
      traffic = counted.queue.1 ∙ drained_none (view c.args.pass.now) c.args.room.now.items c.requires.empty;
      count = (let n = all_counted _ held.0 held.2 c.requires.all in let e = held.1 in omega arith);
      wide = (let a = counted.rule.0 in let b = c.requires.wide in omega arith);
      few = counted.rule.0;
      held = (let e = ap length c.requires.empty in omega arith);
    }

pub push_reserved-requires : goal.push_reserved-requires
push_reserved-requires g c =
    let i = c.loop-value.invariant in
    let popped = c.in-Some.ensures.rule in
    let n = drained_counts (view c.args.pass.now) (view c.pop_as.new.pass) _ popped.1.0 c.len_as-left.result
    (drained_more (view c.args.pass.now) _ _ _ c.in-Some.value i.traffic popped.0) c.requires.all i.count popped.1.1 in
    let l = length-append c.loop-value.room.items (c.in-Some.value ∷ []) in
    let w = i.wide in
    omega arith

pub loop-value-preserved : goal.loop-value-preserved
loop-value-preserved g c =
    let i = c.loop-value.invariant in
    let popped = c.in-Some.ensures in
    let n = drained_counts (view c.args.pass.now) (view c.pop_as.new.pass) _ popped.rule.1.0 c.len_as-left.result
    (drained_more (view c.args.pass.now) _ _ _ c.in-Some.value i.traffic popped.rule.0) c.requires.all i.count popped.rule.1.1 in
    let l = length-append c.loop-value.room.items (c.in-Some.value ∷ []) in
    let m = ap length c.push_reserved.ensures.items in
    record {
      own = (popped.queue.0 ∙ i.own.0, popped.queue.2 ∙ i.own.1);
      traffic = rw c.push_reserved.ensures.items (drained_more (view c.args.pass.now) _ _ _ c.in-Some.value i.traffic popped.rule.0);
      count = i.count;
      wide = (let w = i.wide in let e = c.push_reserved.ensures.capacity in omega arith);
      few = i.few;
      held = omega arith;
    }

pub loop-value-smaller : goal.loop-value-smaller
loop-value-smaller g c =
    let i = c.loop-value.invariant in
    let popped = c.in-Some.ensures.rule in
    let n = drained_counts (view c.args.pass.now) (view c.pop_as.new.pass) _ popped.1.0 c.len_as-left.result
    (drained_more (view c.args.pass.now) _ _ _ c.in-Some.value i.traffic popped.0) c.requires.all i.count popped.1.1 in
    let l = length-append c.loop-value.room.items (c.in-Some.value ∷ []) in
    let e = ap length c.push_reserved.ensures.items in
    omega arith

pub returns-clause-left : goal.returns-clause-left
returns-clause-left g c = drained_all (view c.args.pass.now) (view c.loop-value.pass) c.loop-value.room.items c.loop-value.invariant.traffic
    c.requires.all c.in_default.ensures.rule.1
