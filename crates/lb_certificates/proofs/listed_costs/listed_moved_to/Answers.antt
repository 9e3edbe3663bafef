use Rattle.std.proofs.Common.{◌≡◌, ◌+◌, ◌<◌, List, ℕ, length, get_or, slice_index, sum_by, take, arith, ap, ◌∙◌}
use Rattle.std.specs.List.{zip}
use Rattle.std.proofs.lemmas.List.{take_all}
use Rattle.std.proofs.lemmas.List.Sums.{sum_by_more}
use Rattle.lb_certificates.specs.Naming.{moved_bytes}
use Rattle.lb_certificates.proofs.ListedElements.{pair_at, zip_counted}
use Rattle.lb_certificates.proofs.listed_costs.listed_moved_to.Goals as goal

pub loop-i-preserved : goal.loop-i-preserved
loop-i-preserved c =
    let i : ℕ = c.loop-i.i in
    let pairs : List (ℕ × ℕ) = zip c.args.bytes.now c.args.places.now in
    let pair : ℕ × ℕ = (slice_index c.args.bytes.now i, slice_index c.args.places.now i) in
    let before : i < length pairs = omega (arith, c.loop-i-test.true, zip_counted c.args.bytes.now c.args.places.now c.requires.paired) in
    let item : moved_bytes pair c.args.pe ≡ moved_bytes (get_or pairs i pair) c.args.pe = ap (λ (size : ℕ × ℕ). moved_bytes size c.args.pe)
    (pair_at c.args.bytes.now c.args.places.now i c.requires.paired c.loop-i-test.true) in
    let more : sum_by (λ size. moved_bytes size c.args.pe) (take (i + 1) pairs) ≡ sum_by (λ size. moved_bytes size c.args.pe)
    (take i pairs) + moved_bytes (get_or pairs i pair) c.args.pe = sum_by_more (λ size. moved_bytes size c.args.pe) pairs i pair before in
    let value : c.from-moved.result ≡ moved_bytes pair c.args.pe = c.from-moved.ensures ∙ c.size_to.ensures in
    (omega (arith, item, more, value, c.loop-i.invariant.0), omega (arith, c.loop-i.invariant.1))

pub returns-clause-value : goal.returns-clause-value
returns-clause-value c =
    let pairs : List (ℕ × ℕ) = zip c.args.bytes.now c.args.places.now in
    let all = take_all c.loop-i.i pairs (omega (arith, c.loop-i-test.false, zip_counted c.args.bytes.now c.args.places.now c.requires.paired)) in
    c.loop-i.invariant.0 ∙ ap (λ xs. sum_by (λ size. moved_bytes size c.args.pe) xs) all
