use Rattle.std.proofs.Common.{◌≡◌, ◌∙◌}
use Rattle.row_fixtures.proofs.worked.example_sizes.Goals as goal

pub returns : goal.returns
returns g c =
    let made = rw c.unwrap.ensures at c.new.ensures.made in
    let first : c.pe.result ≡ 0 = c.pe.ensures.value in
    let second : c.pe-2.result ≡ 1 = c.pe-2.ensures.value in
    let third : c.pe-3.result ≡ 0 = c.pe-3.ensures.value in
    record { value = made.1 ∙ c.in_ok-from_slice.ensures.items ∙ rw (first, second, third) }
