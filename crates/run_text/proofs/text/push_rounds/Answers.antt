use Rattle.std.proofs.Common.{◌≡◌, ◌++◌, length, arith, subst}
use Rattle.std.specs.List.{flat_map, range_with_len}
use Rattle.std.specs.String.{string_bytes}
use Rattle.run_text.specs.Text.{decided_line}
use Rattle.run_text.proofs.RoundLines.{line_written}
use Rattle.run_text.proofs.text.push_rounds.Goals as goal

pub loop-i-preserved : goal.loop-i-preserved
loop-i-preserved g c =
    let at = c.loop-i in
    let read = c.index-rounds-i in
    line_written c.args.rounds.now at.i read.result (string_bytes c.args.text.now) (string_bytes at.text) _ c.loop-i-test.true read.is
    at.invariant (c.in_ok-push_round.ensures.line)

pub returns : goal.returns
returns g c =
    let last : c.loop-i.i ≡ length c.args.rounds.now = omega (arith, c.loop-i-test.false, c.loop-i.auto.i-end) in
    subst (λ n. string_bytes c.loop-i.text ≡ string_bytes c.args.text.now ++ flat_map (decided_line c.args.rounds.now) (range_with_len 1 n)) last c.loop-i.invariant
