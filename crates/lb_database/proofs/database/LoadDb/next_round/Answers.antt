use Rattle.std.proofs.Common.{rules}
use Rattle.lb_database.proofs.database.LoadDb.next_round.Goals as goal

pub returns-clause-ok : goal.returns-clause-ok
returns-clause-ok g c = rw (c.fill.ensures.items (λ y e. e)) (search rules)
