use Rattle.overtaking_laws.proofs.StaleJournals.{stale_own}
use Rattle.overtaking_laws.proofs.letters.stale_journal_law.Goals as goal

pub returns : goal.returns
returns g c =
    record { own = λ pes chares strategy steps last some run. stale_own g.C.Chare.step g.C.Pup.pack g.C.Pup.unpack pes chares strategy steps last run }
