-- A strip that begins a round when the values beside it are there already.
use Rattle.std.proofs.Common.{◌≡◌, ℕ, ◌<◌, [], ◌++◌, true, nat_lt, refl, arith}
use Rattle.std.proofs.lemmas.Bool.Decides.{nat_tests}
use Rattle.hot_spot_strip.specs.Chains.{letters_to}
use Rattle.hot_spot_strip.specs.Coming.{are_beside}
use Rattle.hot_spot_strip.specs.Strips.{StripView, asks, begins, shown_by}

pub sends_begun : (s : StripView) (me n : ℕ) → s.done < s.rounds → are_beside s.came me n ≡ true → (begins s me n).sends ≡ shown_by s me n ++ letters_to (asks s me) []
sends_begun s me n less beside =
    let test : nat_lt s.done s.rounds ≡ true = grind (arith, nat_tests, less) in
    rw (test, beside) refl
