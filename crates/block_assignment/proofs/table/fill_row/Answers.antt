use Rattle.std.proofs.Common.{List, ℕ, slice_index, arith, ap, ◌∙◌}
use Rattle.std.proofs.lemmas.List.{get_or-replicate}
use Rattle.block_assignment.proofs.Steps.{taken_there, taken_nowhere}
use Rattle.block_assignment.proofs.table.fill_row.Goals as goal
use Rattle.block_assignment.proofs.table.fill_row.Goals.{then-place-row, else-place-row}

pub loop-size-init : goal.loop-size-init
loop-size-init c =
    let filled = c.fill.ensures.after (λ _ same. same) in
    λ p inside. omega (arith, ap (λ (row : List ℕ). slice_index row p) filled ∙ get_or-replicate _ p _ 0 (omega (arith, inside, c.fill.ensures.len)))

pub loop-size-preserved : goal.loop-size-preserved
loop-size-preserved c =
    let i = c.loop-size.size-index in
    let stands = c.loop-size.invariant in
    let place = c.get-place.result in
    elim c.if-place-row.branch [
      | then-place-row w ↦ taken_there c.args.pairs.now i c.loop-size.row c.if-place-row.row place w.from.result c.loop-size-item.result
          stands c.loop-size-test.true c.loop-size-item.is c.get-place.ensures.value w.from.ensures w.if-place-row.true w.row-is
      | else-place-row w ↦ taken_nowhere c.args.pairs.now i c.loop-size.row c.if-place-row.row place c.loop-size-item.result stands
          c.loop-size-test.true c.loop-size-item.is c.get-place.ensures.value w.if-place-row.false w.row-is
    ]
