use Rattle.std.proofs.Common.{◌≡◌, ℕ, ◌+◌, ◌-◌, ◌<◌, inl, inr, Some, None, length, slice_index, slice_index_or, slice_set, arith, ap}
use Rattle.std.proofs.lemmas.Bool.{cases_eq}
use Rattle.std.proofs.lemmas.List.{get_or-set_same, get_or-set_other}
use Rattle.block_assignment.proofs.Settlings.{pes_set}
use Rattle.block_assignment.proofs.auction.make_bids.Goals as goal

pub best_bid-bid-requires-clause-small : goal.best_bid-bid-requires-clause-small
best_bid-bid-requires-clause-small c =
    λ p inside.
    let within : p < c.args.table.now.blocks = omega (arith, inside, c.row.ensures.counted) in
    omega (arith, c.row.ensures.small p within, c.loop-used.invariant.small p within, c.requires.most)

pub loop-used-preserved : goal.loop-used-preserved
loop-used-preserved c =
    let blocks : ℕ = c.args.table.now.blocks in
    let bid = c.best_bid-bid.result in
    let raised : ℕ = slice_index c.loop-used.discount bid.pe + bid.by + c.args.step in
    let waits : c.loop-used.count - 1 < length c.loop-used.waiting = omega (arith, c.loop-used.invariant.count, c.if-count-eq0.false) in
    let b : ℕ = slice_index c.loop-used.waiting (c.loop-used.count - 1) in
    let block : b < blocks = c.loop-used.invariant.below (c.loop-used.count - 1) waits in
    let held : (p b : ℕ) → slice_index_or c.hand_over-count.new.holders p None ≡ Some b → b < blocks = c.hand_over-count.ensures.held blocks block c.loop-used.invariant.held in
    let below : (i : ℕ) → i < length c.hand_over-count.new.waiting
    → slice_index c.hand_over-count.new.waiting i < blocks = c.hand_over-count.ensures.below blocks c.loop-used.invariant.held
    c.loop-used.invariant.below in
    record {
      count = omega (arith, c.hand_over-count.ensures.counted, c.hand_over-count.auto.waiting);
      small = λ p inside. elim (cases_eq p bid.pe) [
        | inl here ↦
            let at : bid.pe < length c.loop-used.discount = omega (arith, inside, here, c.loop-used.auto.discount, c.requires.discounts) in
            omega (
              arith,
              ap (λ q. slice_index (slice_set c.loop-used.discount bid.pe raised) q) here,
              get_or-set_same c.loop-used.discount bid.pe raised 0 at,
              c.if-raised-most.false,
            )
        | inr other ↦ omega (arith, get_or-set_other c.loop-used.discount bid.pe p raised 0 other, c.loop-used.invariant.small p inside)
      ];
      held = held;
      below = below;
      best = pes_set blocks c.loop-used.best b bid.pe c.loop-used.invariant.best (omega (arith, c.best_bid-bid.ensures.inside, c.row.ensures.counted));
      next = pes_set blocks c.loop-used.next b bid.next c.loop-used.invariant.next (omega (arith, c.best_bid-bid.ensures.next_inside, c.row.ensures.counted));
    }

pub overflow_cast-best-in-loop-used : goal.overflow_cast-best-in-loop-used
overflow_cast-best-in-loop-used c = omega (arith, c.best_bid-bid.ensures.inside, c.row.ensures.counted, c.requires.few)

pub overflow_cast-next-in-loop-used : goal.overflow_cast-next-in-loop-used
overflow_cast-next-in-loop-used c = omega (arith, c.best_bid-bid.ensures.next_inside, c.row.ensures.counted, c.requires.few)
