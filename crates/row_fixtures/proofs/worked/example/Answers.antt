use Rattle.std.proofs.Common.{◌≡◌, ◌∙◌, [], ◌∷◌}
use Rattle.row_fixtures.proofs.worked.example.Goals as goal

pub returns : goal.returns
returns g c =
    let loads = rw c.unwrap-loads.ensures at c.new.ensures.made in
    let units : c.unwrap-loads.result ≡ 1 ∷ 1 ∷ 2 ∷ [] = loads.1 ∙ c.in_ok-from_slice.ensures.items in
    let made = rw c.unwrap.ensures at c.new-2.ensures.made in
    let taken : c.unwrap.result ≡ record { step = 5; procs = 2; loads = c.unwrap-loads.result; sizes = c.in_ok-sizes.sizes } = made.1 in
    record { value = taken ∙ rw (units, c.in_ok-sizes.ensures.value) }
