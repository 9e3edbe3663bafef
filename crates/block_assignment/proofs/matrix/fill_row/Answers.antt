use Rattle.std.proofs.Common.{◌≡◌, ◌+◌, ◌<◌, ◌≤◌, List, ℕ, length, get_or, slice_index, sum_by, arith, ap, refl, subst, ◌∙◌}
use Rattle.std.specs.List.{zip}
use Rattle.std.proofs.lemmas.List.{get_or-replicate, take_all}
use Rattle.lb_certificates.specs.Naming.{moved_bytes}
use Rattle.lb_certificates.proofs.BlockCosts.{taken_off}
use Rattle.lb_certificates.proofs.ListedElements.{bytes_of_zip, pair_at, zip_counted}
use Rattle.block_assignment.proofs.Steps.{taken_there, taken_nowhere}
use Rattle.block_assignment.proofs.matrix.fill_row.Goals as goal
use Rattle.block_assignment.proofs.matrix.fill_row.Goals.{then-place-row, else-place-row}

pub loop-i-init : goal.loop-i-init
loop-i-init c =
    let filled = c.fill.ensures.after (λ _ same. same) in
    λ p inside. omega (
      arith,
      ap (λ (row : List ℕ). slice_index row p) filled
          ∙ get_or-replicate _ p _ 0 (omega (arith, inside, c.fill.ensures.len)),
      c.sum_of.ensures,
      bytes_of_zip c.args.bytes.now c.args.places.now c.requires.paired,
    )

pub loop-i-preserved : goal.loop-i-preserved
loop-i-preserved c =
    let i : ℕ = c.loop-i.i in
    let pairs : List (ℕ × ℕ) = zip c.args.bytes.now c.args.places.now in
    let place : ℕ = slice_index c.args.places.now i in
    let pair : ℕ × ℕ = (slice_index c.args.bytes.now i, place) in
    let before : i < length pairs = omega (arith, c.loop-i-test.true, zip_counted c.args.bytes.now c.args.places.now c.requires.paired) in
    let item = pair_at c.args.bytes.now c.args.places.now i c.requires.paired c.loop-i-test.true in
    elim c.if-place-row.branch [
      | then-place-row w ↦ taken_there pairs i c.loop-i.row c.if-place-row.row place w.from.result pair c.loop-i.invariant before item refl
          w.from.ensures w.if-place-row.true w.row-is
      | else-place-row w ↦ taken_nowhere pairs i c.loop-i.row c.if-place-row.row place pair c.loop-i.invariant before item refl w.if-place-row.false w.row-is
    ]

pub overflow_sub-row : goal.overflow_sub-row
overflow_sub-row c =
    let i : ℕ = c.loop-i.i in
    let pairs : List (ℕ × ℕ) = zip c.args.bytes.now c.args.places.now in
    let place : ℕ = slice_index c.args.places.now i in
    let pair : ℕ × ℕ = (slice_index c.args.bytes.now i, place) in
    let before : i < length pairs = omega (arith, c.loop-i-test.true, zip_counted c.args.bytes.now c.args.places.now c.requires.paired) in
    let item : pair ≡ get_or pairs i pair = pair_at c.args.bytes.now c.args.places.now i c.requires.paired c.loop-i-test.true in
    let off : (get_or pairs i pair).0 ≤ slice_index c.loop-i.row place = taken_off pairs i c.loop-i.row place pair c.loop-i.invariant c.if-place-row.true before in
    omega (arith, off, ap (λ (size : ℕ × ℕ). size.0) item, c.from.ensures)

pub returns : goal.returns
returns c = λ p inside.
    let pairs : List (ℕ × ℕ) = zip c.args.bytes.now c.args.places.now in
    let all = take_all c.loop-i.i pairs (omega (arith, c.loop-i-test.false, zip_counted c.args.bytes.now c.args.places.now c.requires.paired)) in
    omega (
      arith,
      subst (λ xs. slice_index c.loop-i.row p + sum_by (λ size. size.0) xs ≡ sum_by (λ size. size.0) pairs + sum_by
          (λ size. moved_bytes size p) xs) all (c.loop-i.invariant p inside),
    )
