use Rattle.std.proofs.Common.{◌≡◌, Some, arith}
use Rattle.run_checkpoint.specs.Scanning.{RoundLine, round_at}
use Rattle.run_checkpoint.proofs.Fronts.{no_round, other_round, past_round, round_front}
use Rattle.run_checkpoint.proofs.line.read_round.Goals as goal

pub returns-in_default : goal.returns-in_default
returns-in_default c = no_round c.args.bytes.now c.args.round (omega (arith, c.requires.few)) c.in_default.ensures

pub returns-then-line-round : goal.returns-then-line-round
returns-then-line-round c =
    let l : RoundLine = record { round = c.in-Some.line.round; bottleneck = c.in-Some.line.bottleneck; moved = c.in-Some.line.moved; rest = c.in-Some.rest.now } in
    let read : round_at c.args.bytes.now ≡ Some l = c.in-Some.ensures in
    other_round c.args.bytes.now c.args.round l (omega (arith, c.requires.few)) read c.if-line-round.true

pub returns-in-Some-decided : goal.returns-in-Some-decided
returns-in-Some-decided c =
    let l : RoundLine = record { round = c.in-Some.line.round; bottleneck = c.in-Some.line.bottleneck; moved = c.in-Some.line.moved; rest = c.in-Some.rest.now } in
    let read : round_at c.args.bytes.now ≡ Some l = c.in-Some.ensures in
    let told = c.in-Some-decided.ensures in
    round_front c.args.bytes.now c.args.round l c.in-Some-decided.decided read c.if-line-round.false told.0 told.1 told.2

pub returns-in-None : goal.returns-in-None
returns-in-None c =
    let l : RoundLine = record { round = c.in-Some.line.round; bottleneck = c.in-Some.line.bottleneck; moved = c.in-Some.line.moved; rest = c.in-Some.rest.now } in
    let read : round_at c.args.bytes.now ≡ Some l = c.in-Some.ensures in
    past_round c.args.bytes.now c.args.round l read c.if-line-round.false c.in-None.ensures
