use Rattle.std.proofs.Common.{◌≡◌, ◌∙◌, ◌<◌, length, inl, inr, sym, subst, ap, arith}
use Rattle.std.proofs.lemmas.Result.{err_from_is_err_and}
use Rattle.dump_format.specs.Fields.{moves}
use Rattle.dump_format.specs.Layout.{judge}
use Rattle.lb_dump.specs.Moves.{BreaksMove}
use Rattle.lb_dump.proofs.MoveSteps.{all_come, at, begun_breaks, one_begins, run_breaks, run_shorter}
use Rattle.lb_dump.proofs.held.take_move_run.Goals as goal

pub returns-in_err-rest-clause-broken : goal.returns-in_err-rest-clause-broken
returns-in_err-rest-clause-broken g c =
    let held = c.args.held.now in
    let p = err_from_is_err_and c.from_residual.result c.from_residual.ensures.1 in
    rw (p.1, p.2) (elim c.in_err-rest.ensures.broken [
      | inl memory ↦ inl memory
      | inr broken ↦ inr (run_breaks g.row.A.Denot held.head held.loads.items held.sizes.items held.plan held.moves.items held.begun.items
          c.args.bytes.now c.args.count c.args.all c.requires.held c.requires.headed c.requires.told c.requires.missing _ c.requires.fresh broken)
    ])

pub returns-then-len-all-clause-taken : goal.returns-then-len-all-clause-taken
returns-then-len-all-clause-taken g c =
    let held = c.args.held.now in
    all_come g.row.A.Denot held.head held.loads.items held.sizes.items held.plan held.moves.items held.begun.items c.args.bytes.now
    c.args.count c.args.all c.requires.held c.requires.headed c.requires.told c.requires.missing
    c.take_moves.new.moves.items c.in_ok-rest.rest.now c.requires.fresh c.in_ok-rest.ensures.joined c.in_ok-rest.ensures.kept (omega arith)

pub returns-then-len-all-clause-shorter : goal.returns-then-len-all-clause-shorter
returns-then-len-all-clause-shorter g c =
    run_shorter c.args.held.now.moves.items c.take_moves.new.moves.items c.in_ok-rest.rest.now c.args.bytes.now c.in_ok-rest.ensures.joined (omega arith)

pub returns-in_err-judge_move-clause-broken : goal.returns-in_err-judge_move-clause-broken
returns-in_err-judge_move-clause-broken g c =
    let held = c.args.held.now in
    let e = c.in_err-judge_move.field-0.0 in
    let p = err_from_is_err_and c.from_residual-in_err-judge_move.result c.from_residual-in_err-judge_move.ensures.1 in
    let before = at g.row.A.Denot held.head held.loads.items held.sizes.items held.plan held.moves.items held.begun.items c.args.bytes.now
    c.args.count c.args.all c.requires.held c.requires.headed c.requires.told c.requires.missing in
    let index : c.len-2.result ≡ length c.take_moves.new.moves.items = omega arith in
    let here = begun_breaks c.args.count c.args.all c.take_moves.new.moves.items c.in_ok-rest.rest.now e
    (omega (arith, before.counted, before.stands.some.head.few)) c.in_ok-rest.ensures.kept (omega (arith, c.in_ok-rest.ensures.few))
    (subst (λ k. BreaksMove c.args.count k c.in_ok-rest.rest.now e) index c.in_err-judge_move.ensures.broken) in
    rw (p.1, p.2) (inr (run_breaks g.row.A.Denot held.head held.loads.items held.sizes.items held.plan held.moves.items held.begun.items
    c.args.bytes.now c.args.count c.args.all c.requires.held c.requires.headed c.requires.told c.requires.missing e c.requires.fresh
    (ap (judge (moves c.args.count 0 c.args.all)) (sym c.in_ok-rest.ensures.joined) ∙ here)))

pub returns-clause-taken : goal.returns-clause-taken
returns-clause-taken g c =
    let held = c.args.held.now in
    let few : length c.take_moves.new.moves.items < c.args.all = omega (arith, c.in_ok-rest.ensures.few) in
    one_begins g.row.A.Denot held.head held.loads.items held.sizes.items held.plan held.moves.items held.begun.items c.args.bytes.now
    c.args.count c.args.all c.requires.held c.requires.headed c.requires.told c.requires.missing
    c.take_moves.new.moves.items c.in_ok-rest.rest.now c.extend_from_slice.new.self.items c.requires.fresh c.in_ok-rest.ensures.joined c.in_ok-rest.ensures.kept few
    (record {
      short = c.in_ok-rest.ensures.short few;
      index = c.in_ok-judge_move.ensures.index;
      present = c.in_ok-judge_move.ensures.present;
    }) c.in_ok-extend_from_slice.ensures.items
