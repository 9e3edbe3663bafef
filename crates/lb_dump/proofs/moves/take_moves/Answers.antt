use Rattle.std.proofs.Common.{◌≡◌, ◌++◌, ◌+◌, length, subst, inr, lit<, arith}
use Rattle.std.proofs.lemmas.Result.{err_from_is_err_and}
use Rattle.lb_dump.specs.Moves.{BreaksMove, moves_text}
use Rattle.lb_dump.proofs.ElementTexts.{grown}
use Rattle.lb_dump.proofs.MoveTexts.{move_fault_behind, moves_joined_next, moves_kept_next}
use Rattle.lb_dump.proofs.WholePieces.{next_is_there, no_more_whole, spent_next}
use Rattle.lb_dump.proofs.moves.take_moves.Goals as goal

pub split_at-requires : goal.split_at-requires
split_at-requires g c =
    next_is_there 12 (length c.args.moves.now.items) (length c.args.bytes.now) (length c.loop-rest.moves.items)
    (length c.loop-rest.rest.now) c.loop-rest.invariant.spent (omega arith)

pub returns-clause-short : goal.returns-clause-short
returns-clause-short g c = λ inside.
    no_more_whole 12 (length c.args.moves.now.items) (length c.args.bytes.now) (length c.loop-rest.moves.items)
    (length c.loop-rest.rest.now) c.loop-rest.invariant.spent (lit< tt) (omega arith)

pub returns-in_err-step-clause-broken : goal.returns-in_err-step-clause-broken
returns-in_err-step-clause-broken g c =
    let before = c.loop-rest.invariant in
    let e = c.in_err-step.field-0.0 in
    let p = err_from_is_err_and c.from_residual-in_err-step.result c.from_residual-in_err-step.ensures.1 in
    let same : c.min-count.result ≡ c.args.count = omega arith in
    let breaks = subst (λ count. BreaksMove count c.len-in-loop-rest-2.result c.split_at.result.0.now e) same c.in_err-step.ensures.broken in
    rw (p.1, p.2) (inr (move_fault_behind c.args.count c.args.all c.loop-rest.moves.items c.args.moves.now.items c.len-in-loop-rest-2.result
    c.split_at.result.0.now c.split_at.result.1.now
    c.loop-rest.rest.now c.args.bytes.now e c.requires.elements before.kept (omega arith) (omega arith) breaks c.split_at.ensures.by_index.0 before.joined))

pub loop-rest-preserved : goal.loop-rest-preserved
loop-rest-preserved g c =
    let before = c.loop-rest.invariant in
    let moves = c.loop-rest.moves.items in
    let more = c.push_reserved.new.self.items in
    let step = c.in_ok-step.step in
    let told = c.in_ok-step.ensures in
    let longer : length more ≡ length moves + 1 = grown moves more step c.push_reserved.ensures.items in
    record {
      joined = moves_joined_next c.args.count moves more step c.push_reserved.ensures.items c.split_at.result.0.now c.split_at.result.1.now
          c.loop-rest.rest.now (moves_text c.args.moves.now.items ++ c.args.bytes.now)
          told.spelled c.split_at.ensures.by_index.0 before.joined;
      kept = moves_kept_next c.args.count moves more step c.push_reserved.ensures.items before.kept (omega arith) told.present told.planned;
      spent = spent_next 12 (length c.args.moves.now.items) (length c.args.bytes.now) (length moves) (length c.loop-rest.rest.now)
          before.spent (length more) (length c.split_at.result.1.now) longer c.split_at.ensures.back_len;
      few = omega arith;
      moves = omega arith;
      room = omega arith;
    }
