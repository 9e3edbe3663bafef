use Rattle.event_laws.proofs.OwnJournals.{own}
use Rattle.event_laws.proofs.letters.journal_law.Goals as goal

-- src/letters.rt:27:1
pub returns : goal.returns
returns g c = record { own = λ pes chares strategy events last run. own g.C.Chare.step g.C.Pup.pack g.C.Pup.unpack pes chares strategy events last run }
