use Rattle.lb_database.proofs.database.LoadDb.new.Goals as goal

pub returns-clause-made : goal.returns-clause-made
returns-clause-made g c =
    let first = rw c.unwrap.ensures at c.new.ensures.made in
    rw first.1 at c.at.ensures.made
