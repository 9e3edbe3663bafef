use Rattle.rts_core.proofs.LocalAccount.{local_beginning, local_call, opening_unused}
use Rattle.rts_core.proofs.LocalCalls.{all_calls, kept_call}
use Rattle.rts_core.proofs.laws.local_account_laws.Goals as goal

pub returns-clause-adds_up : goal.returns-clause-adds_up
returns-clause-adds_up g c = λ me n calls may. all_calls g.C.Chare.step g.C.Pup.pack g.C.Pup.unpack me n calls may

pub returns-clause-still_adds_up : goal.returns-clause-still_adds_up
returns-clause-still_adds_up g c = λ start pe ledger call may balanced. kept_call g.C.Chare.step start ledger g.C.Pup.pack g.C.Pup.unpack pe call may balanced

pub returns-clause-opening : goal.returns-clause-opening
returns-clause-opening g c = λ pes chares some. opening_unused g.C.Chare.step pes chares some

pub returns-clause-beginning : goal.returns-clause-beginning
returns-clause-beginning g c = λ opened pe. local_beginning g.C.Chare.step opened pe

pub returns-clause-still_accounted : goal.returns-clause-still_accounted
returns-clause-still_accounted g c = λ opened start pe ledger call may running histories keyed local. local_call g.C.Chare.step g.C.Pup.fits
    g.C.Pup.pack opened start g.C.Pup.unpack pe ledger call may running histories keyed local
