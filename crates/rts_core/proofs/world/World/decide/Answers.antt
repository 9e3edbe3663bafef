use Rattle.std.proofs.Common.{length}
use Rattle.rts_core.specs.Worlds.{WorldView}
use Rattle.rts_core.proofs.Worlds.{world_board, histories_board, decided_alone, board_same}
use Rattle.rts_core.proofs.world.World.decide.Goals as goal

pub invariant_of-self : goal.invariant_of-self
invariant_of-self g c =
    let w : WorldView g.row.C.Denot g.row.A.Denot = record
    { pes = c.self.inside.pes.items; queues = c.self.inside.queues.items; words = c.self.inside.words.items; board = c.self.inside.board } in (
      world_board (length g.H.Openings.opened) g.H.Openings.pes w c.decide.new.board c.self.invariant.0 c.decide.ensures.counted c.decide.ensures.pes,
      histories_board g.C.Chare.step g.C.Pup.fits g.C.Pup.pack g.H.Openings.opened w c.decide.new.board c.self.invariant.1,
      c.self.invariant.2,
      c.self.invariant.3,
    )

pub returns-clause-ok : goal.returns-clause-ok
returns-clause-ok g c =
    let w : WorldView g.row.C.Denot g.row.A.Denot = record
    { pes = c.self.inside.pes.items; queues = c.self.inside.queues.items; words = c.self.inside.words.items; board = c.self.inside.board } in
    rw (← c.self.view_is) (decided_alone c.decide.result w c.decide.new.board c.decide.ensures.ok)

pub returns-clause-err : goal.returns-clause-err
returns-clause-err g c =
    let w : WorldView g.row.C.Denot g.row.A.Denot = record
    { pes = c.self.inside.pes.items; queues = c.self.inside.queues.items; words = c.self.inside.words.items; board = c.self.inside.board } in
    rw (← c.self.view_is) (board_same c.decide.result w c.decide.new.board c.decide.ensures.err)

pub returns-clause-refused : goal.returns-clause-refused
returns-clause-refused g c = rw (← c.self.view_is) c.decide.ensures.refused

pub returns-clause-some_pe : goal.returns-clause-some_pe
returns-clause-some_pe g c = c.self.invariant.0.some_pe
