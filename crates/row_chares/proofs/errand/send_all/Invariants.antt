use Rattle.std.proofs.Common.{◌≡◌}
use Rattle.chares.specs.Posting.{posted}
use Rattle.row_chares.specs.Errands.{empty_letters}
use Rattle.row_chares.proofs.errand.send_all.Given as goal

abbrev pub invariant-loop-sent : goal.invariant-loop-sent
invariant-loop-sent g l = l.sends ≡ posted l.fn.sends (empty_letters l._sent l.to)
