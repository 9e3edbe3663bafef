use Rattle.std.proofs.Common.{◌≡◌, ◌<◌, ◌∙◌, length, length-append, inl, inr, subst, ap, arith}
use Rattle.std.proofs.lemmas.Result.{err_from_is_err_and}
use Rattle.lb_dump.specs.Elements.{BreaksElement}
use Rattle.lb_dump.specs.Heads.{element_len}
use Rattle.lb_dump.proofs.ElementSteps.{begun_breaks, old, one_breaks, one_ends, one_goes_on}
use Rattle.lb_dump.proofs.held.take_element_bytes.Goals as goal

pub returns-in_err-judge_element-clause-broken : goal.returns-in_err-judge_element-clause-broken
returns-in_err-judge_element-clause-broken g c =
    let held = c.args.held.now in
    let e = c.in_err-judge_element.field-0.0 in
    let p = err_from_is_err_and c.from_residual-in_err-judge_element.result c.from_residual-in_err-judge_element.ensures.1 in
    let before = old g.row.A.Denot held.head held.loads.items held.sizes.items held.plan held.moves.items held.begun.items c.args.bytes.now
    c.args.head c.requires.held c.requires.headed c.requires.missing in
    let index : c.len-then-len.result ≡ length held.loads.items = omega arith in
    let here = begun_breaks c.args.head held.loads.items held.sizes.items c.deref.result.now e before.some c.requires.missing
    (subst (λ k. BreaksElement c.args.head.format c.args.head.procs k c.deref.result.now e) index
    (c.in_err-judge_element.ensures.broken c.args.head.procs)) in
    rw (p.1, p.2) (inr (one_breaks g.row.A.Denot held.head held.loads.items held.sizes.items held.plan held.moves.items held.begun.items
    c.args.bytes.now c.args.head c.requires.held c.requires.headed c.requires.missing
    c.split_at.result.0.now c.split_at.result.1.now c.deref.result.now e c.split_at.ensures.by_index.0 (c.deref.ensures.value ∙ c.in_ok-extend_from_slice.ensures.items) here))

pub returns-then-len-clause-taken : goal.returns-then-len-clause-taken
returns-then-len-clause-taken g c =
    let held = c.args.held.now in
    let value = c.deref.ensures.value in
    one_goes_on g.row.A.Denot held.head held.loads.items held.sizes.items held.plan held.moves.items held.begun.items c.args.bytes.now
    c.args.head c.requires.held c.requires.headed c.requires.missing
    c.split_at.result.0.now c.split_at.result.1.now c.extend_from_slice.new.self.items c.split_at.ensures.by_index.0 c.in_ok-extend_from_slice.ensures.items
    (record { short = omega arith; load = rw value at c.in_ok-judge_element.ensures.load; size = rw value at c.in_ok-judge_element.ensures.size })

pub returns-in_err-take_elements-clause-broken : goal.returns-in_err-take_elements-clause-broken
returns-in_err-take_elements-clause-broken g c =
    let held = c.args.held.now in
    let p = err_from_is_err_and c.from_residual-in_err-take_elements.result c.from_residual-in_err-take_elements.ensures.1 in
    rw (p.1, p.2) (elim c.in_err-take_elements.ensures.broken [
      | inl memory ↦ inl memory
      | inr broken ↦ inr (one_breaks g.row.A.Denot held.head held.loads.items held.sizes.items held.plan held.moves.items held.begun.items
          c.args.bytes.now c.args.head c.requires.held c.requires.headed c.requires.missing
          c.split_at.result.0.now c.split_at.result.1.now c.deref-2.result.now _ c.split_at.ensures.by_index.0
          (c.deref-2.ensures.value ∙ c.in_ok-extend_from_slice.ensures.items) broken)
    ])

pub returns-clause-taken : goal.returns-clause-taken
returns-clause-taken g c =
    let held = c.args.held.now in
    let value = c.deref-2.ensures.value in
    let items = c.in_ok-extend_from_slice.ensures.items in
    let before = old g.row.A.Denot held.head held.loads.items held.sizes.items held.plan held.moves.items held.begun.items c.args.bytes.now
    c.args.head c.requires.held c.requires.headed c.requires.missing in
    let begun : length held.begun.items < element_len c.args.head.format = (before.element c.requires.missing).short in
    let full : length c.deref-2.result.now ≡ element_len c.args.head.format = omega
    (arith, ap length value, ap length items, length-append held.begun.items c.split_at.result.0.now) in
    rw c.clear.ensures.items
    (one_ends g.row.A.Denot held.head held.loads.items held.sizes.items held.plan held.moves.items held.begun.items c.args.bytes.now
    c.args.head c.requires.held c.requires.headed c.requires.missing
    c.take_elements.new.loads.items c.take_elements.new.sizes.items c.split_at.result.0.now c.in_ok-take_elements.field-0.now
    c.split_at.result.1.now c.deref-2.result.now c.split_at.ensures.by_index.0 (value ∙ items) full
    c.in_ok-take_elements.ensures.joined c.in_ok-take_elements.ensures.kept c.in_ok-take_elements.ensures.few c.in_ok-take_elements.ensures.short)
