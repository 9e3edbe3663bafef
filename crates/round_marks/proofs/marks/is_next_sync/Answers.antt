use Rattle.std.proofs.Common.{◌≡◌, length, None, ap, sym, ◌∙◌}
use Rattle.std.specs.Option.{option_copied}
use Rattle.std.proofs.lemmas.Bool.{eqb-true, not-false}
use Rattle.sync_board.specs.Boards.{kept_of}
use Rattle.round_marks.proofs.Reached.{under_way}
use Rattle.round_marks.proofs.marks.is_next_sync.Goals as goal

pub returns-in_default-kept_for-clause-value : goal.returns-in_default-kept_for-clause-value
returns-in_default-kept_for-clause-value g c =
    let s = c.in-Sync in
    let none : kept_of c.args.board.now.rounds s.round ≡ None = sym c.kept_for.ensures.value ∙ ap option_copied c.in_default-kept_for.is in
    let own : s.index ≡ c.args.e = eqb-true _ _ (not-false _ (sym c.ne.ensures ∙ c.if-ne.false)) in
    let next = sym c.get.ensures.value ∙ c.if-get-reached.false in
    rw s.is (under_way c.args.board.now c.args.e c.args.reached (length c.rounds.result.now) s.index s.round s.units s.bytes s.pe none own next (ap length c.rounds.ensures.value))
