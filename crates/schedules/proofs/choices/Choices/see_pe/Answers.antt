use Rattle.schedules.proofs.Choosers.{seen}
use Rattle.schedules.proofs.choices.Choices.see_pe.Goals as goal

pub returns-clause-here : goal.returns-clause-here
returns-clause-here g c =
    seen c.args.world.now c.args.self.now c.put_moves.new.self c.args.p c.moves_at-moves.result c.put_moves.ensures.flags c.requires.counted c.put_moves.ensures.counted
    c.moves_at-moves.ensures.value c.put_moves.ensures.here
