use Rattle.std.proofs.Common.{◌≡◌, ◌≤◌, ◌∙◌, ◌∷◌, [], length, length-append, sum_by, ap, sym, arith, rules}
use Rattle.std.proofs.lemmas.List.Elements.{All-push}
use Rattle.std.proofs.lemmas.List.Sums.{sum_by_push}
use Rattle.chare_index.specs.declared.limits.TheConstants.Limits.{SEATS}
use Rattle.pe_queues.specs.Seats.{new_seat}
use Rattle.pe_queues.proofs.post.Post.hand_out.Goals as goal

pub split-requires-clause-own : goal.split-requires-clause-own
split-requires-clause-own g c = ap (λ s. s.post) c.loop-n.invariant.rest

pub split-requires-clause-fresh : goal.split-requires-clause-fresh
split-requires-clause-fresh g c = c.loop-n.invariant.rest

pub split-requires-clause-more : goal.split-requires-clause-more
split-requires-clause-more g c =
    let few : c.args.seats ≤ SEATS = search rules in
    let n = c.loop-n.invariant.seats in
    let lt = c.loop-n-test.true in
    omega arith

pub loop-n-preserved : goal.loop-n-preserved
loop-n-preserved g c =
    let i = c.loop-n.invariant in
    let given = c.loop-n.given.items in
    let left = c.in_ok-left.ensures.left in
    let one = c.in_ok-left.ensures.one in
    let less = ap (λ s. s.seats) left in
    let single = ap (λ s. s.seats) one in
    let few : c.args.seats ≤ SEATS = search rules in
    let lt = c.loop-n-test.true in
    let n = i.seats in
    let m = i.count in
    let s = i.shared in
    let more = ap length c.push_reserved.ensures.items ∙ length-append given (c.in_ok-left.one ∷ []) in
    let sum = ap (sum_by (λ s. s.seats)) c.push_reserved.ensures.items ∙ sum_by_push (λ s. s.seats) given c.in_ok-left.one in
    record {
      rest = left ∙ ap (new_seat c.args.self.now) (sym less);
      seats = omega arith;
      count = omega arith;
      wide = search rules;
      fresh = rw c.push_reserved.ensures.items (All-push (λ s. s ≡ new_seat c.args.self.now s.seats) given c.in_ok-left.one i.fresh
          (one ∙ ap (new_seat c.args.self.now) (sym single)));
      shared = omega arith;
    }

pub returns-clause-fresh : goal.returns-clause-fresh
returns-clause-fresh g c = rw c.push_reserved-2.ensures.items
    (All-push (λ s. s ≡ new_seat c.args.self.now s.seats) c.loop-n.given.items c.loop-n.rest c.loop-n.invariant.fresh c.loop-n.invariant.rest)
