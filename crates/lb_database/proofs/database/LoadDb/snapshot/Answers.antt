use Rattle.std.proofs.Common.{rules}
use Rattle.lb_database.specs.Measuring.{IsComplete}
use Rattle.lb_database.proofs.database.LoadDb.snapshot.Goals as goal

pub taken-requires-clause-complete : goal.taken-requires-clause-complete
taken-requires-clause-complete g c = c.is_complete.ensures.complete.0 (search rules depth 1)

pub returns-in_err-taken-clause-answer : goal.returns-in_err-taken-clause-answer
returns-in_err-taken-clause-answer g c =
    let complete : IsComplete c.args.self.now = c.is_complete.ensures.complete.0 (search rules depth 1) in
    search rules

pub returns-in_ok-taken-clause-answer : goal.returns-in_ok-taken-clause-answer
returns-in_ok-taken-clause-answer g c = c.is_complete.ensures.complete.0 (search rules depth 1)
