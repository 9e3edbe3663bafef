use Rattle.std.proofs.Common.{◌≡◌, ◌+◌, ◌<◌, ◌^◌, sum_by, take, get_or, arith, ap, ◌∙◌}
use Rattle.std.proofs.lemmas.List.{take_all}
use Rattle.std.proofs.lemmas.List.Sums.{sum_by_more}
use Rattle.lb_certificates.specs.Naming.{moved_bytes}
use Rattle.lb_certificates.proofs.MovedBytes.{moved_small, next_moved_fits}
use Rattle.any_order.proofs.moved.moved_to.Goals as goal

pub overflow_add-moved : goal.overflow_add-moved
overflow_add-moved c =
    let item : moved_bytes c.element-item.result c.args.pe ≡ moved_bytes
    (get_or c.args.elements.now c.loop-element.element-index c.element-item.result) c.args.pe = ap (λ s. moved_bytes s c.args.pe) c.element-item.is in
    let fits : sum_by (λ size. moved_bytes size c.args.pe) (take c.loop-element.element-index c.args.elements.now) + moved_bytes
    (get_or c.args.elements.now c.loop-element.element-index c.element-item.result) c.args.pe < 2 ^ 64 = next_moved_fits
    c.args.elements.now c.args.pe c.loop-element.element-index c.element-item.result c.requires c.loop-element-test.true in
    let value : c.from-moved.result ≡ moved_bytes c.element-item.result c.args.pe = c.from-moved.ensures ∙ c.bytes_to.ensures in
    omega (arith, item, fits, value, c.loop-element.invariant)

pub loop-element-preserved : goal.loop-element-preserved
loop-element-preserved c =
    let item : moved_bytes c.element-item.result c.args.pe ≡ moved_bytes
    (get_or c.args.elements.now c.loop-element.element-index c.element-item.result) c.args.pe = ap (λ s. moved_bytes s c.args.pe) c.element-item.is in
    let more = sum_by_more (λ size. moved_bytes size c.args.pe) c.args.elements.now c.loop-element.element-index c.element-item.result c.loop-element-test.true in
    let value : c.from-moved.result ≡ moved_bytes c.element-item.result c.args.pe = c.from-moved.ensures ∙ c.bytes_to.ensures in
    omega (arith, item, more, value, c.loop-element.invariant)

pub returns-clause-small : goal.returns-clause-small
returns-clause-small c =
    let all = ap (λ xs. sum_by (λ size. moved_bytes size c.args.pe) xs) (take_all c.loop-element.element-index c.args.elements.now c.loop-element-test.false) in
    omega (arith, all, moved_small c.args.elements.now c.args.pe c.requires, c.loop-element.invariant)
