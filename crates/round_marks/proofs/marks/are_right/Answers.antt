use Rattle.std.proofs.Common.{length, ap, sym, ◌∙◌, arith}
use Rattle.std.proofs.lemmas.Bool.{false≢true, iff_false, le-leb, leb-true}
use Rattle.chares.specs.declared.note.Mark.TheVariants.{Synced, Resumed}
use Rattle.round_marks.proofs.Right.{are_right, walked, walked_by}
use Rattle.round_marks.proofs.marks.are_right.Goals as goal

pub returns-then-not-is_next_sync : goal.returns-then-not-is_next_sync
returns-then-not-is_next_sync g c =
    let on = walked_by c.args.board.now c.args.e c.args.home c.loop-mark.reached c.loop-mark.least c.loop-mark.mark-index c.args.marks.now c.mark-item.result
    (Synced c.in-Synced.note) c.loop-mark-test.true c.mark-item.is (sym c.get.ensures.value ∙ c.in-Synced.is) c.loop-mark.invariant.same in (
      λ t. absurd (false≢true t),
      λ h. absurd (iff_false c.is_next_sync.ensures.value c.if-not-is_next_sync.true (on.1 ((are_right c.args.board.now c.args.e c.args.home c.args.marks.now).1 h)).0),
    )

pub returns-then-not-is_next_resumption : goal.returns-then-not-is_next_resumption
returns-then-not-is_next_resumption g c =
    let on = walked_by c.args.board.now c.args.e c.args.home c.loop-mark.reached c.loop-mark.least c.loop-mark.mark-index c.args.marks.now c.mark-item.result
    (Resumed c.in-Resumed.round c.in-Resumed.pe) c.loop-mark-test.true c.mark-item.is (sym c.get.ensures.value ∙ c.in-Resumed.is) c.loop-mark.invariant.same in (
      λ t. absurd (false≢true t),
      λ h. absurd (iff_false c.is_next_resumption.ensures c.if-not-is_next_resumption.true (on.1 ((are_right c.args.board.now c.args.e c.args.home c.args.marks.now).1 h)).0),
    )

pub returns : goal.returns
returns g c =
    let decided = ap length c.rounds.ensures.value in
    let ended = walked c.args.board.now c.args.e c.args.home c.loop-mark.reached c.loop-mark.least c.loop-mark.mark-index c.args.marks.now
    c.loop-mark-test.false c.loop-mark.invariant.same in (
      λ t. ended.0 (omega (arith, decided, leb-true (length c.rounds.result.now) c.loop-mark.reached t)),
      λ h. le-leb (length c.rounds.result.now) c.loop-mark.reached (omega (arith, decided, ended.1 h)),
    )
