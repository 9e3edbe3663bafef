use Rattle.std.proofs.Common.{◌≡◌}
use Rattle.chares.specs.Posting.{posted}
use Rattle.messages.specs.Messages.{to_all}
use Rattle.messages.proofs.posting.put_to_all.Given as goal

abbrev pub invariant-loop-i : goal.invariant-loop-i
invariant-loop-i g l =
    record {
      all : l.i-end ≡ l.initial.sends.n;
      posted_so_far : l.sends ≡ posted l.initial.sends (to_all l.i l.body);
    }
