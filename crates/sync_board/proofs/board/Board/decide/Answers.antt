use Rattle.std.proofs.lemmas.Result.{err_from_is_err_and}
use Rattle.sync_board.proofs.Rounds.{board_after, decides_from}
use Rattle.sync_board.proofs.board.Board.decide.Goals as goal

pub returns-in_err-made-clause-answer : goal.returns-in_err-made-clause-answer
returns-in_err-made-clause-answer g c =
    let p = err_from_is_err_and c.from_residual.result c.from_residual.ensures.1 in
    rw (p.1, p.2, ← c.self.view_is) c.in_err-made.ensures.answer

pub returns-in_err-keep-clause-answer : goal.returns-in_err-keep-clause-answer
returns-in_err-keep-clause-answer g c =
    let p = err_from_is_err_and c.from_residual-in_err-keep.result c.from_residual-in_err-keep.ensures.1 in
    rw (p.1, p.2, ← c.self.view_is) c.in_ok-made.ensures.answer

pub invariant_of-self-2 : goal.invariant_of-self-2
invariant_of-self-2 g c =
    rw (c.in_ok-keep.ensures.begun, c.in_ok-keep.ensures.added, c.in_ok-keep.ensures.proved) (
      board_after
          (record {
            pes = c.self.inside.pes;
            strategy = c.self.inside.strategy;
            database = c.self.inside.database;
            rounds = c.self.inside.rounds.items;
            nearness = c.self.inside.nearness.items;
            finished = c.self.inside.finished.items;
          })
          (c.in_ok-made.made.0, c.in_ok-made.made.1.decision) c.in_ok-made.made.1.nearness c.self.invariant.0 c.in_ok-made.ensures.decided c.in_ok-made.ensures.proved,
      c.self.invariant.1,
    )

pub returns-clause-ok : goal.returns-clause-ok
returns-clause-ok g c =
    rw (c.in_ok-keep.ensures.begun, c.in_ok-keep.ensures.added, c.in_ok-keep.ensures.proved, ← c.self.view_is)
    (decides_from
    (record {
      pes = c.self.inside.pes;
      strategy = c.self.inside.strategy;
      database = c.self.inside.database;
      rounds = c.self.inside.rounds.items;
      nearness = c.self.inside.nearness.items;
      finished = c.self.inside.finished.items;
    })
    (c.in_ok-made.made.0, c.in_ok-made.made.1.decision) c.in_ok-made.made.1.nearness c.in_ok-made.ensures.answer c.in_ok-made.ensures.reported c.in_ok-made.ensures.decided c.in_ok-made.ensures.proved)
