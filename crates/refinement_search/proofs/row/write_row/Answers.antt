use Rattle.std.proofs.Common.{◌≡◌, ◌+◌, ◌-◌, ◌<◌, ◌≤◌, arith, length, max, min, rules, slice_index, sym, ◌∙◌, ap}
use Rattle.std.proofs.lemmas.List.{get_or-set_same}
use Rattle.refinement_search.specs.Rows.{sum_at}
use Rattle.refinement_search.proofs.CostsBack.{cost_few}
use Rattle.refinement_search.proofs.WrittenRows.{cost_at_far, sum_read, written_first, written_one}
use Rattle.refinement_search.proofs.row.write_row.Goals as goal

pub loop-x-init : goal.loop-x-init
loop-x-init c =
    let sizes = c.args.sizes.now in
    let starts = c.args.starts.now in
    let row = c.args.row.now in
    let span = c.args.span in
    let sides = c.args.sides in
    let inside : span.far < length row = omega (arith, c.requires.far, c.requires.room) in
    let cost = c.held_by-cost.ensures.value ∙ cost_at_far sizes sides.from sides.to span.present span.far c.requires.apart c.requires.present c.requires.far in
    let place : c.max.result ≡ max (slice_index starts span.far) span.below = search rules in
    let is : slice_index row c.max.result + c.held_by-cost.result ≡ sum_at sizes starts row span.below sides.from sides.to span.far = omega
    (arith, ap (slice_index row) place, cost) in
    record {
      from = omega (arith, c.requires.near, c.requires.present);
      to = omega arith;
      cost_is = cost;
      least_is = sym (get_or-set_same row span.far (slice_index row c.max.result + c.held_by-cost.result) 0 inside);
      written = written_first span.far (sum_at sizes starts row span.below sides.from sides.to) row (slice_index row c.max.result + c.held_by-cost.result) inside is;
    }

pub overflow_add-row : goal.overflow_add-row
overflow_add-row c =
    let h = c.loop-x.invariant in
    let x = c.loop-x.x - 1 in
    let before : slice_index c.args.starts.now x ≤ x = c.requires.before x (omega (arith, h.to, c.requires.far, c.requires.counted)) in
    let place : c.max-in-loop-x.result ≡ max (slice_index c.args.starts.now x) c.args.span.below = search rules in
    let early : c.max-in-loop-x.result < c.loop-x.x = omega (arith, place, before, c.requires.below, h.from, c.loop-x-test.true) in
    omega (
      arith,
      h.written.same c.max-in-loop-x.result early,
      c.requires.small c.max-in-loop-x.result (omega (arith, early, h.to, c.requires.far, c.requires.room)),
      cost_few c.args.sizes.now c.args.sides.from c.args.sides.to x c.requires.valid,
      c.cost_before-cost.ensures.here,
    )

pub loop-x-preserved : goal.loop-x-preserved
loop-x-preserved c =
    let h = c.loop-x.invariant in
    let sizes = c.args.sizes.now in
    let starts = c.args.starts.now in
    let old = c.args.row.now in
    let row = c.loop-x.row in
    let span = c.args.span in
    let sides = c.args.sides in
    let x = c.loop-x.x in
    let some : 0 < x = omega (arith, c.loop-x-test.true) in
    let before : slice_index starts (x - 1) ≤ x - 1 = c.requires.before (x - 1) (omega (arith, h.to, c.requires.far, c.requires.counted)) in
    let place : c.max-in-loop-x.result ≡ max (slice_index starts (x - 1)) span.below = search rules in
    let read = sum_read span.far sizes starts old row span.below sides.from sides.to x
    (sum_at sizes starts old span.below sides.from sides.to) h.written some before (omega (arith, c.requires.below, c.loop-x-test.true)) in
    let sum : slice_index row c.max-in-loop-x.result + c.cost_before-cost.result ≡ sum_at sizes starts old span.below sides.from sides.to
    (x - 1) = omega (arith, ap (slice_index row) place, c.cost_before-cost.ensures.here, read) in
    let less : c.min-least.result ≡ min c.loop-x.least (slice_index row c.max-in-loop-x.result + c.cost_before-cost.result) = search rules in
    let is : c.min-least.result ≡ min (slice_index row x) (sum_at sizes starts old span.below sides.from sides.to (x - 1)) = omega (arith, less, sum, h.least_is) in
    record {
      from = omega (arith, c.loop-x-test.true);
      to = omega (arith, h.to);
      cost_is = c.cost_before-cost.ensures.here;
      least_is = sym (get_or-set_same row (x - 1) c.min-least.result 0 (omega (arith, h.written.counted, h.to, c.requires.far, c.requires.room)));
      written = written_one span.far (sum_at sizes starts old span.below sides.from sides.to) old row x c.min-least.result
          (omega (arith, c.requires.far, c.requires.room)) h.written some h.to is;
    }
