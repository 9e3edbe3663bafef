use Rattle.std.proofs.Common.{◌≡◌, ◌+◌, ◌-◌, ◌<◌, ◌≤◌, List, ℕ, length, get_or, set, slice_index, sum_by, arith, ap, subst, sym, ◌∙◌}
use Rattle.std.specs.List.{zip}
use Rattle.std.proofs.lemmas.List.{get_or-replicate, take_all}
use Rattle.lb_certificates.specs.Naming.{moved_bytes}
use Rattle.lb_certificates.proofs.BlockCosts.{Stands, stands_after, stands_behind, taken_off}
use Rattle.lb_certificates.proofs.ListedElements.{bytes_of_zip, pair_at, zip_counted}
use Rattle.lb_certificates.proofs.listed_costs.write_listed_costs.Goals as goal
use Rattle.lb_certificates.proofs.listed_costs.write_listed_costs.Goals.{then-place-costs, else-place-costs}

pub loop-i-init : goal.loop-i-init
loop-i-init c =
    let filled = c.fill.ensures.after (λ _ same. same) in
    λ p inside. omega (
      arith,
      ap (λ (costs : List ℕ). slice_index costs p) filled
          ∙ get_or-replicate _ p _ 0 (omega (arith, inside, c.fill.ensures.len)),
      c.listed_bytes.ensures,
      bytes_of_zip c.args.bytes.now c.args.places.now c.requires.paired,
    )

pub loop-i-preserved : goal.loop-i-preserved
loop-i-preserved c =
    let i : ℕ = c.loop-i.i in
    let costs = c.loop-i.costs in
    let pairs : List (ℕ × ℕ) = zip c.args.bytes.now c.args.places.now in
    let place : ℕ = slice_index c.args.places.now i in
    let pair : ℕ × ℕ = (slice_index c.args.bytes.now i, place) in
    let before : i < length pairs = omega (arith, c.loop-i-test.true, zip_counted c.args.bytes.now c.args.places.now c.requires.paired) in
    let item : pair ≡ get_or pairs i pair = pair_at c.args.bytes.now c.args.places.now i c.requires.paired c.loop-i-test.true in
    elim c.if-place-costs.branch [
      | then-place-costs w ↦
          let on = subst (λ (size : ℕ × ℕ). size.1 < length costs) item w.if-place-costs.true in
          let taken : c.if-place-costs.costs ≡ set costs (get_or pairs i pair).1
          (slice_index costs (get_or pairs i pair).1 - (get_or pairs i pair).0) = w.costs-is
          ∙ ap (λ n. set costs place (slice_index costs place - n)) w.from.ensures
          ∙ ap (λ (size : ℕ × ℕ). set costs size.1 (slice_index costs size.1 - size.0)) item in
          subst (λ after. Stands pairs (i + 1) after) (sym taken) (stands_after pairs i costs pair c.loop-i.invariant before on)
      | else-place-costs w ↦
          let behind = subst (λ (size : ℕ × ℕ). length costs ≤ size.1) item w.if-place-costs.false in
          subst (λ after. Stands pairs (i + 1) after) (sym w.costs-is) (stands_behind pairs i costs pair c.loop-i.invariant before behind)
    ]

pub overflow_sub-costs : goal.overflow_sub-costs
overflow_sub-costs c =
    let i : ℕ = c.loop-i.i in
    let pairs : List (ℕ × ℕ) = zip c.args.bytes.now c.args.places.now in
    let place : ℕ = slice_index c.args.places.now i in
    let pair : ℕ × ℕ = (slice_index c.args.bytes.now i, place) in
    let before : i < length pairs = omega (arith, c.loop-i-test.true, zip_counted c.args.bytes.now c.args.places.now c.requires.paired) in
    let item : pair ≡ get_or pairs i pair = pair_at c.args.bytes.now c.args.places.now i c.requires.paired c.loop-i-test.true in
    let off : (get_or pairs i pair).0 ≤ slice_index c.loop-i.costs place = taken_off pairs i c.loop-i.costs place pair c.loop-i.invariant c.if-place-costs.true before in
    omega (arith, off, ap (λ (size : ℕ × ℕ). size.0) item, c.from.ensures)

pub returns : goal.returns
returns c = λ p inside.
    let pairs : List (ℕ × ℕ) = zip c.args.bytes.now c.args.places.now in
    let all = take_all c.loop-i.i pairs (omega (arith, c.loop-i-test.false, zip_counted c.args.bytes.now c.args.places.now c.requires.paired)) in
    omega (
      arith,
      subst (λ xs. slice_index c.loop-i.costs p + sum_by (λ size. size.0) xs ≡ sum_by (λ size. size.0) pairs + sum_by
          (λ size. moved_bytes size p) xs) all (c.loop-i.invariant p inside),
    )
