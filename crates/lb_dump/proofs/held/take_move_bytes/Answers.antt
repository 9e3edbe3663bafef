use Rattle.std.proofs.Common.{◌≡◌, ◌<◌, ◌∙◌, length, length-append, inl, inr, subst, ap, arith}
use Rattle.std.proofs.lemmas.Result.{err_from_is_err_and}
use Rattle.lb_dump.specs.Moves.{BreaksMove}
use Rattle.lb_dump.proofs.MoveSteps.{at, begun_breaks, few_elements, kept_moves, one_breaks, one_ends, one_goes_on}
use Rattle.lb_dump.proofs.held.take_move_bytes.Goals as goal

pub returns-in_err-judge_move-clause-broken : goal.returns-in_err-judge_move-clause-broken
returns-in_err-judge_move-clause-broken g c =
    let held = c.args.held.now in
    let e = c.in_err-judge_move.field-0.0 in
    let p = err_from_is_err_and c.from_residual-in_err-judge_move.result c.from_residual-in_err-judge_move.ensures.1 in
    let before = at g.row.A.Denot held.head held.loads.items held.sizes.items held.plan held.moves.items held.begun.items c.args.bytes.now
    c.args.count c.args.all c.requires.held c.requires.headed c.requires.told c.requires.missing in
    let index : c.len-then-len-lt-MOVE_LEN.result ≡ length held.moves.items = omega arith in
    let here = begun_breaks c.args.count c.args.all held.moves.items c.deref.result.now e (few_elements before) (kept_moves before)
    c.requires.missing (subst (λ k. BreaksMove c.args.count k c.deref.result.now e) index c.in_err-judge_move.ensures.broken) in
    rw (p.1, p.2) (inr (one_breaks g.row.A.Denot held.head held.loads.items held.sizes.items held.plan held.moves.items held.begun.items
    c.args.bytes.now c.args.count c.args.all c.requires.held c.requires.headed c.requires.told c.requires.missing
    c.split_at.result.0.now c.split_at.result.1.now c.deref.result.now e c.split_at.ensures.by_index.0 (c.deref.ensures.value ∙ c.in_ok-extend_from_slice.ensures.items) here))

pub returns-then-len-lt-MOVE_LEN-clause-taken : goal.returns-then-len-lt-MOVE_LEN-clause-taken
returns-then-len-lt-MOVE_LEN-clause-taken g c =
    let held = c.args.held.now in
    let value = c.deref.ensures.value in
    one_goes_on g.row.A.Denot held.head held.loads.items held.sizes.items held.plan held.moves.items held.begun.items c.args.bytes.now
    c.args.count c.args.all c.requires.held c.requires.headed c.requires.told c.requires.missing
    c.split_at.result.0.now c.split_at.result.1.now c.extend_from_slice.new.self.items c.split_at.ensures.by_index.0 c.in_ok-extend_from_slice.ensures.items
    (record { short = omega arith; index = rw value at c.in_ok-judge_move.ensures.index; present = rw value at c.in_ok-judge_move.ensures.present })

pub returns-in_err-take_moves-clause-broken : goal.returns-in_err-take_moves-clause-broken
returns-in_err-take_moves-clause-broken g c =
    let held = c.args.held.now in
    let p = err_from_is_err_and c.from_residual-in_err-take_moves.result c.from_residual-in_err-take_moves.ensures.1 in
    rw (p.1, p.2) (elim c.in_err-take_moves.ensures.broken [
      | inl memory ↦ inl memory
      | inr broken ↦ inr (one_breaks g.row.A.Denot held.head held.loads.items held.sizes.items held.plan held.moves.items held.begun.items
          c.args.bytes.now c.args.count c.args.all c.requires.held c.requires.headed c.requires.told c.requires.missing
          c.split_at.result.0.now c.split_at.result.1.now c.deref-2.result.now _ c.split_at.ensures.by_index.0
          (c.deref-2.ensures.value ∙ c.in_ok-extend_from_slice.ensures.items) broken)
    ])

pub returns-clause-taken : goal.returns-clause-taken
returns-clause-taken g c =
    let held = c.args.held.now in
    let value = c.deref-2.ensures.value in
    let items = c.in_ok-extend_from_slice.ensures.items in
    let before = at g.row.A.Denot held.head held.loads.items held.sizes.items held.plan held.moves.items held.begun.items c.args.bytes.now
    c.args.count c.args.all c.requires.held c.requires.headed c.requires.told c.requires.missing in
    let begun : length held.begun.items < 12 = (before.stands.move c.requires.missing).short in
    let full : length c.deref-2.result.now ≡ 12 = omega (arith, ap length value, ap length items, length-append held.begun.items c.split_at.result.0.now) in
    rw c.clear.ensures.items
    (one_ends g.row.A.Denot held.head held.loads.items held.sizes.items held.plan held.moves.items held.begun.items c.args.bytes.now
    c.args.count c.args.all c.requires.held c.requires.headed c.requires.told c.requires.missing
    c.take_moves.new.moves.items c.split_at.result.0.now c.in_ok-take_moves.field-0.now c.split_at.result.1.now c.deref-2.result.now
    c.split_at.ensures.by_index.0 (value ∙ items) full
    c.in_ok-take_moves.ensures.joined c.in_ok-take_moves.ensures.kept c.in_ok-take_moves.ensures.few c.in_ok-take_moves.ensures.short)
