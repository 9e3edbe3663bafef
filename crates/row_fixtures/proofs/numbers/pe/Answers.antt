use Rattle.row_fixtures.proofs.numbers.pe.Goals as goal

pub returns : goal.returns
returns c =
    let made = rw c.unwrap.ensures at c.new.ensures.made in
    record { value = made.1 }
