use Rattle.std.proofs.Common.{◌≡◌, get_or, arith, ap, ◌∙◌}
use Rattle.std.proofs.lemmas.List.Sums.{sum_by_more}
use Rattle.lb_certificates.specs.Naming.{moved_bytes}
use Rattle.lb_certificates.proofs.block_costs.moved_to.Goals as goal

pub loop-element-preserved : goal.loop-element-preserved
loop-element-preserved c =
    let item : moved_bytes c.element-item.result c.args.pe ≡ moved_bytes
    (get_or c.args.elements.now c.loop-element.element-index c.element-item.result) c.args.pe = ap (λ s. moved_bytes s c.args.pe) c.element-item.is in
    let more = sum_by_more (λ size. moved_bytes size c.args.pe) c.args.elements.now c.loop-element.element-index c.element-item.result c.loop-element-test.true in
    let value : c.from-moved.result ≡ moved_bytes c.element-item.result c.args.pe = c.from-moved.ensures ∙ c.bytes_to.ensures in
    (omega (arith, item, more, value, c.loop-element.invariant.0), omega (arith, c.loop-element.invariant.1))
