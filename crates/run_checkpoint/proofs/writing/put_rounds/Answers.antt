use Rattle.std.proofs.Common.{get_or, subst}
use Rattle.std.specs.Io.KnownBytes.{Appends}
use Rattle.std.proofs.lemmas.List.{take_all}
use Rattle.std.proofs.KnownBytes.{Appends-nil}
use Rattle.run_checkpoint.specs.declared.checkpoint.DecidedRound.{DecidedRound}
use Rattle.run_checkpoint.specs.Text.{round_lines}
use Rattle.run_checkpoint.proofs.WrittenParts.{any_default, line_put, line_fails}
use Rattle.run_checkpoint.proofs.writing.put_rounds.Goals as goal

abbrev zero_round : DecidedRound
zero_round = record { bottleneck = 0; moved = 0 }

pub loop-i-init : goal.loop-i-init
loop-i-init g c = Appends-nil (g.W.Write.contents c.args.writer.now)

pub loop-i-preserved : goal.loop-i-preserved
loop-i-preserved g c =
    line_put c.args.decided.now c.loop-i.i (get_or c.args.decided.now c.loop-i.i zero_round) c.loop-i-test.true (any_default c.args.decided.now c.loop-i.i zero_round (get_or c.args.decided.now c.loop-i.i zero_round) c.loop-i-test.true)
    (g.W.Write.contents c.args.writer.now) (g.W.Write.contents c.loop-i.writer) (g.W.Write.contents c.put_round.new.writer) c.loop-i.invariant c.in_ok-put_round.ensures

pub returns-in_err-put_round : goal.returns-in_err-put_round
returns-in_err-put_round g c =
    line_fails c.args.decided.now c.loop-i.i (get_or c.args.decided.now c.loop-i.i zero_round) c.loop-i-test.true (any_default c.args.decided.now c.loop-i.i zero_round (get_or c.args.decided.now c.loop-i.i zero_round) c.loop-i-test.true) _
    (g.W.Write.contents c.args.writer.now) (g.W.Write.contents c.loop-i.writer) (g.W.Write.contents c.put_round.new.writer) c.in_err-put_round.field-0.0 c.from_residual.result
    c.loop-i.invariant c.in_err-put_round.ensures c.from_residual.ensures.1

pub returns : goal.returns
returns g c =
    subst (λ decided. Appends (g.W.Write.contents c.args.writer.now) (g.W.Write.contents c.loop-i.writer) (round_lines 1 decided))
    (take_all c.loop-i.i c.args.decided.now c.loop-i-test.false) c.loop-i.invariant
