use Rattle.rts_core.proofs.RunAccount.{accounted, counted, told, opening_sent, sent_next}
use Rattle.rts_core.proofs.laws.account_laws.Goals as goal

-- src/laws.rt:20:1
pub returns-clause-account : goal.returns-clause-account
returns-clause-account g c = λ pes chares strategy events last some run. accounted g.C.Chare.step g.C.Pup.pack g.C.Pup.unpack pes chares strategy some events last run

-- src/laws.rt:20:1
pub returns-clause-counted : goal.returns-clause-counted
returns-clause-counted g c = λ pes chares strategy events last some run. counted g.C.Chare.step g.C.Pup.pack g.C.Pup.unpack pes chares strategy some events last run

-- src/laws.rt:20:1
pub returns-clause-traced : goal.returns-clause-traced
returns-clause-traced g c = λ pes chares strategy events last some run. told g.C.Chare.step g.C.Pup.pack g.C.Pup.unpack pes chares strategy some events last run

-- src/laws.rt:20:1
pub returns-clause-opening_sent : goal.returns-clause-opening_sent
returns-clause-opening_sent g c = λ pes chares strategy some. opening_sent g.row.A.Denot g.C.Chare.step pes chares strategy some

-- src/laws.rt:20:1
pub returns-clause-still_sent : goal.returns-clause-still_sent
returns-clause-still_sent g c = λ w event next happens opened are sent. sent_next g.C.Chare.step g.C.Pup.fits g.C.Pup.pack g.C.Pup.unpack opened w event next are sent happens
