-- The line of the PE of a block, as it is printed.
use Rattle.std.proofs.Common.{◌≡◌, ◌≢◌, ℕ, ◌++◌, arith}
use Rattle.std.specs.Prelude.{codes}
use Rattle.std.specs.Fmt.{decimal}
use Rattle.std.proofs.lemmas.Bool.Decides.{nat_tests}
use Rattle.lb_replay.specs.Text.{pe_line, newline}

-- it is a dash where the block has no element
pub line_of_none : (first end pe : ℕ) → first ≡ end → pe_line first end pe ≡ codes "-" ++ newline
line_of_none first end pe same = grind (arith, nat_tests)

-- it is the number of the PE where the block has one
pub line_of_some : (first end pe : ℕ) → first ≢ end → pe_line first end pe ≡ decimal pe ++ newline
line_of_some first end pe other = grind (arith, nat_tests)
