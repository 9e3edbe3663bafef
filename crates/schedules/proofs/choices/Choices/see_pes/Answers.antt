use Rattle.std.proofs.Common.{◌≡◌, ◌∙◌, arith, rules}
use Rattle.schedules.proofs.Choosers.{all_moves, next_moves}
use Rattle.schedules.proofs.choices.Choices.see_pes.Goals as goal

pub loop-number-preserved : goal.loop-number-preserved
loop-number-preserved g c =
    let at = c.loop-number in
    let number : c.unwrap.result ≡ at.number = search rules in
    record {
      counted = c.see_pe.ensures.counted ∙ at.invariant.counted;
      places = c.see_pe.ensures.places ∙ at.invariant.places;
      moves = next_moves c.args.world.now at.self c.see_pe.new.self at.number c.unwrap.result number c.see_pe.ensures.here c.see_pe.ensures.others at.invariant.moves;
    }

pub returns-clause-moves : goal.returns-clause-moves
returns-clause-moves g c = all_moves c.args.world.now c.loop-number.self c.loop-number.number c.known-2.ensures.flags
    c.loop-number.invariant.counted (omega (arith, c.loop-number-test.false, c.pes-number-end.ensures.value)) c.loop-number.invariant.moves
