use Rattle.std.proofs.Common.{◌≡◌, ◌<◌, ◌∙◌, inl, inr, ℕ, [], ◌++◌, length, length-append, take, Ok, ap, sym, arith, refl, rules}
use Rattle.std.proofs.KnownBytes.{Consumes-nil, Consumes-trans}
use Rattle.std.proofs.lemmas.List.{length-take, length-take-le}
use Rattle.workload.specs.Machine.{start}
use Rattle.workload.proofs.Runs.{run_none}
use Rattle.workload.proofs.Pieces.{AtEnd, end_known, end_shown, end_unread, on_error, nothing_more, shows_long}
use Rattle.workload.proofs.reading.feed_from.Goals as goal

pub loop-call-init : goal.loop-call-init
loop-call-init g c =
    ([], Consumes-nil (g.R.Read.remaining c.args.reader.now), (run_none (start []) ∙ ap Ok (sym c.requires.fresh), c.requires.held), refl, omega arith, c.requires.room, omega arith)

pub returns-then-len-eq0-clause-fault : goal.returns-then-len-eq0-clause-fault
returns-then-len-eq0-clause-fault g c =
    let before = c.loop-call.invariant in
    let old = g.R.Read.remaining c.args.reader.now in
    let new = g.R.Read.remaining c.read_piece.new.reader in
    let some : 0 < length c.read_piece.new.room = omega (arith, before.3, before.4, before.5, c.min.ensures, c.read_piece.auto.room, length-take {A = ℕ}) in
    let is : AtEnd old new before.0 = nothing_more old (g.R.Read.remaining c.loop-call.reader) new before.0 c.read_piece.new.room c.in_ok-len.len before.1 c.in_ok-len.ensures.bytes.0
    c.if-len-eq0.true (c.in_ok-len.ensures.bytes.1 c.if-len-eq0.true some) (omega (arith, before.3, before.4)) in
    end_known old new before.0 c.loop-call.judge is c.loop-call.judged before.2

pub returns-then-len-eq0-clause-stopped : goal.returns-then-len-eq0-clause-stopped
returns-then-len-eq0-clause-stopped g c =
    let before = c.loop-call.invariant in
    let old = g.R.Read.remaining c.args.reader.now in
    let new = g.R.Read.remaining c.read_piece.new.reader in
    let some : 0 < length c.read_piece.new.room = omega (arith, before.3, before.4, before.5, c.min.ensures, c.read_piece.auto.room, length-take {A = ℕ}) in
    let is : AtEnd old new before.0 = nothing_more old (g.R.Read.remaining c.loop-call.reader) new before.0 c.read_piece.new.room c.in_ok-len.len before.1 c.in_ok-len.ensures.bytes.0
    c.if-len-eq0.true (c.in_ok-len.ensures.bytes.1 c.if-len-eq0.true some) (omega (arith, before.3, before.4)) in
    end_shown old new before.0 c.loop-call.judge is c.loop-call.judged before.2

pub returns-then-len-taken-clause-stopped : goal.returns-then-len-taken-clause-stopped
returns-then-len-taken-clause-stopped g c =
    let before = c.loop-call.invariant in
    let len = c.in_ok-len.len in
    let whole : length (take len c.read_piece.new.room) ≡ len = length-take-le len c.read_piece.new.room c.in_ok-len.ensures.bound in
    shows_long (g.R.Read.remaining c.args.reader.now) (g.R.Read.remaining c.loop-call.reader) (g.R.Read.remaining c.read_piece.new.reader) before.0 (take len c.read_piece.new.room)
    before.1 c.in_ok-len.ensures.bytes.0 (omega (arith, whole, before.3, before.4, c.if-len-taken.true))
    (omega (arith, whole, before.3, before.4, c.in_ok-len.ensures.bound, c.min.ensures, c.read_piece.auto.room, length-take {A = ℕ}))

pub loop-call-preserved : goal.loop-call-preserved
loop-call-preserved g c =
    let before = c.loop-call.invariant in
    let len = c.in_ok-len.len in
    let piece = take len c.read_piece.new.room in
    let whole : length piece ≡ len = length-take-le len c.read_piece.new.room c.in_ok-len.ensures.bound in (
      before.0 ++ piece,
      Consumes-trans (g.R.Read.remaining c.args.reader.now) (g.R.Read.remaining c.loop-call.reader) (g.R.Read.remaining c.read_piece.new.reader)
          before.0 piece before.1 c.in_ok-len.ensures.bytes.0,
      c.judge_piece-judged.ensures.judged before.0 before.2,
      length-append before.0 piece ∙ (omega (arith, whole, before.3)),
      omega (arith, before.3, before.4, c.if-len-taken.false),
      search rules,
      omega (arith, before.6, c.in_ok-len.ensures.counted),
    )

pub returns-then-len-eq0-clause-failed : goal.returns-then-len-eq0-clause-failed
returns-then-len-eq0-clause-failed g c =
    end_unread c.loop-call.invariant.0 c.loop-call.judge c.loop-call.judged _ c.loop-call.invariant.2

pub returns-in_err-len-clause-failed : goal.returns-in_err-len-clause-failed
returns-in_err-len-clause-failed g c = on_error _ _ _ (inl c.in_err-len.ensures.failed)

-- the reader was called as often as it may be
pub returns-clause-failed : goal.returns-clause-failed
returns-clause-failed g c = λ _. inr (omega (arith, c.loop-call.invariant.6))
