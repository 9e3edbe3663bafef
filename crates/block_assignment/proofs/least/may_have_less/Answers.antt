use Rattle.std.proofs.Common.{sym}
use Rattle.std.proofs.lemmas.Bool.{false≢true}
use Rattle.block_assignment.proofs.least.may_have_less.Goals as goal

pub returns-then-has : goal.returns-then-has
returns-then-has c = λ e. absurd (false≢true (sym e))
