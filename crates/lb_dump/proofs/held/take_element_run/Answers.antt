use Rattle.std.proofs.Common.{◌≡◌, ◌∙◌, ◌<◌, length, inl, inr, sym, subst, ap, arith}
use Rattle.std.proofs.lemmas.Result.{err_from_is_err_and}
use Rattle.dump_format.specs.Layout.{judge}
use Rattle.lb_dump.specs.Elements.{BreaksElement, body_of}
use Rattle.lb_dump.specs.Held.{AreSome}
use Rattle.lb_dump.proofs.ElementSteps.{all_come, begun_breaks, old, one_begins, run_breaks, run_shorter}
use Rattle.lb_dump.proofs.held.take_element_run.Goals as goal

pub returns-in_err-rest-clause-broken : goal.returns-in_err-rest-clause-broken
returns-in_err-rest-clause-broken g c =
    let held = c.args.held.now in
    let p = err_from_is_err_and c.from_residual.result c.from_residual.ensures.1 in
    rw (p.1, p.2) (elim c.in_err-rest.ensures.broken [
      | inl memory ↦ inl memory
      | inr broken ↦ inr (run_breaks g.row.A.Denot held.head held.loads.items held.sizes.items held.plan held.moves.items held.begun.items
          c.args.bytes.now c.args.head c.requires.held c.requires.headed c.requires.missing _ c.requires.fresh broken)
    ])

pub returns-then-len-head-clause-taken : goal.returns-then-len-head-clause-taken
returns-then-len-head-clause-taken g c =
    let held = c.args.held.now in
    all_come g.row.A.Denot held.head held.loads.items held.sizes.items held.plan held.moves.items held.begun.items c.args.bytes.now
    c.args.head c.requires.held c.requires.headed c.requires.missing
    c.take_elements.new.loads.items c.take_elements.new.sizes.items c.in_ok-rest.rest.now c.requires.fresh c.in_ok-rest.ensures.joined c.in_ok-rest.ensures.kept (omega arith)

pub returns-then-len-head-clause-shorter : goal.returns-then-len-head-clause-shorter
returns-then-len-head-clause-shorter g c =
    let held = c.args.held.now in
    let before = old g.row.A.Denot held.head held.loads.items held.sizes.items held.plan held.moves.items held.begun.items c.args.bytes.now
    c.args.head c.requires.held c.requires.headed c.requires.missing in
    run_shorter c.args.head held.loads.items c.take_elements.new.loads.items held.sizes.items c.take_elements.new.sizes.items
    c.in_ok-rest.rest.now c.args.bytes.now before.some.kept c.in_ok-rest.ensures.kept c.in_ok-rest.ensures.joined (omega arith)

pub returns-in_err-judge_element-clause-broken : goal.returns-in_err-judge_element-clause-broken
returns-in_err-judge_element-clause-broken g c =
    let held = c.args.held.now in
    let e = c.in_err-judge_element.field-0.0 in
    let p = err_from_is_err_and c.from_residual-in_err-judge_element.result c.from_residual-in_err-judge_element.ensures.1 in
    let before = old g.row.A.Denot held.head held.loads.items held.sizes.items held.plan held.moves.items held.begun.items c.args.bytes.now
    c.args.head c.requires.held c.requires.headed c.requires.missing in
    let some : AreSome c.args.head c.take_elements.new.loads.items c.take_elements.new.sizes.items = record
    { head = before.some.head; kept = c.in_ok-rest.ensures.kept; few = c.in_ok-rest.ensures.few } in
    let index : c.len-2.result ≡ length c.take_elements.new.loads.items = omega arith in
    let here = begun_breaks c.args.head c.take_elements.new.loads.items c.take_elements.new.sizes.items c.in_ok-rest.rest.now e some
    (omega arith) (subst (λ k. BreaksElement c.args.head.format c.args.head.procs k c.in_ok-rest.rest.now e) index
    (c.in_err-judge_element.ensures.broken c.args.head.procs)) in
    rw (p.1, p.2) (inr (run_breaks g.row.A.Denot held.head held.loads.items held.sizes.items held.plan held.moves.items held.begun.items
    c.args.bytes.now c.args.head c.requires.held c.requires.headed c.requires.missing e c.requires.fresh
    (ap (judge (body_of c.args.head)) (sym c.in_ok-rest.ensures.joined) ∙ here)))

pub returns-clause-taken : goal.returns-clause-taken
returns-clause-taken g c =
    let held = c.args.held.now in
    let few : length c.take_elements.new.loads.items < c.args.head.count = omega (arith, c.in_ok-rest.ensures.few) in
    one_begins g.row.A.Denot held.head held.loads.items held.sizes.items held.plan held.moves.items held.begun.items c.args.bytes.now
    c.args.head c.requires.held c.requires.headed c.requires.missing
    c.take_elements.new.loads.items c.take_elements.new.sizes.items c.in_ok-rest.rest.now c.extend_from_slice.new.self.items
    c.requires.fresh c.in_ok-rest.ensures.joined c.in_ok-rest.ensures.kept few
    (record {
      short = c.in_ok-rest.ensures.short few;
      load = c.in_ok-judge_element.ensures.load;
      size = c.in_ok-judge_element.ensures.size;
    }) c.in_ok-extend_from_slice.ensures.items
