use Rattle.std.proofs.Common.{◌≡◌, ◌+◌, ◌<◌, arith, length, rules}
use Rattle.refinement_search.proofs.Piles.{IsWrittenOn, piled_more, topped_more}
use Rattle.refinement_search.proofs.rows.pile.Goals as goal

pub loop-b-preserved : goal.loop-b-preserved
loop-b-preserved g c =
    let h = c.loop-b.invariant in
    let chain = c.args.chain.now in
    let b = c.loop-b.b in
    let rows = c.loop-b.rows.items in
    let below = c.loop-b.row in
    let above = c.write_row.new.row in
    let steps = c.in_ok-steps_of.field-0 in
    let inside : b + 1 < length chain.names.now = omega (arith, c.loop-b-test.true) in
    let counted : length rows ≡ b + 1 = omega (arith, c.loop-b.rows.ok.0, h.filled) in
    let written : IsWrittenOn chain b below above = rw
    (← c.span_of.ensures.far, ← c.span_of.ensures.near, ← c.span_of.ensures.below, ← c.sides_of.ensures.from, ← c.sides_of.ensures.to)
    c.write_row.ensures.written in
    record {
      counted = search rules;
      room = search rules;
      filled = search rules;
      topped = rw c.push_reserved.ensures.items (topped_more chain b rows below above steps c.requires.chain inside counted h.counted
          h.topped written c.in_ok-steps_of.ensures.steps);
      piled = rw c.push_reserved.ensures.items (piled_more chain b rows below above steps c.requires.chain inside counted h.piled h.topped written c.in_ok-steps_of.ensures.steps);
    }
