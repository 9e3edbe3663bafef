use Rattle.std.proofs.Common.{rules, ◌≡◌, ◌+◌, ◌-◌, suc, [], ◌∷◌, length, length-append, Err, arith, sym, ◌∙◌, take, drop}
use Rattle.pup_pack.specs.Lists.{unpack_items}
use Rattle.pup_pack.specs.Packing.{UnpackAnswer}
use Rattle.pup_pack.proofs.Resumed.{resumed_more, resumed_end, resumed_refused, refused_by, from_end}
use Rattle.pup_pack.proofs.lists.unpack_items.Goals as goal

pub returns-in_err-item-clause-answer : goal.returns-in_err-item-clause-answer
returns-in_err-item-clause-answer g c =
    let one : c.args.count - c.loop.counter ≡ suc (c.args.count - (c.loop.counter + 1)) = omega arith in
    let read = rw one at c.loop.invariant.read in
    let whole : UnpackAnswer (unpack_items g.T.Pup.unpack c.args.count c.args.bytes.now) (Err c.in_err-item.field-0.0) =
    refused_by (g.T.Pup.unpack (take (length c.args.bytes.now - c.loop.end) (drop c.loop.end c.args.bytes.now)))
    (unpack_items g.T.Pup.unpack c.args.count c.args.bytes.now) c.in_err-item.field-0.0
    (λ f e. sym read ∙ resumed_refused g.T.Pup.unpack c.args.bytes.now c.loop.items c.loop.end (c.args.count - (c.loop.counter + 1)) f
    (rw (from_end c.args.bytes.now c.loop.end) at e))
    c.in_err-item.ensures.answer in
    search (rules, whole)

pub loop-preserved : goal.loop-preserved
loop-preserved g c =
    let one : c.args.count - c.loop.counter ≡ suc (c.args.count - (c.loop.counter + 1)) = omega arith in
    let read = rw one at c.loop.invariant.read in
    let item = rw (from_end c.args.bytes.now c.loop.end) at c.in_ok-item.ensures.answer in
    let more = resumed_more g.T.Pup.unpack c.args.bytes.now c.loop.items c.loop.end (c.args.count - (c.loop.counter + 1)) c.in_ok-item.item c.in_ok-item.len item in
    record {
      within = search rules;
      left = omega arith;
      found = rw c.in_ok-push.ensures.appended (omega (arith, length-append c.loop.items (c.in_ok-item.item ∷ []), c.loop.invariant.found));
      read = rw c.in_ok-push.ensures.appended (sym more ∙ read);
    }

pub returns-clause-answer : goal.returns-clause-answer
returns-clause-answer g c =
    let none : c.args.count - c.loop.counter ≡ 0 = omega arith in
    let read = rw none at c.loop.invariant.read in
    sym read ∙ resumed_end g.T.Pup.unpack c.args.bytes.now c.loop.items c.loop.end
