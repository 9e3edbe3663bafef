use Rattle.rts_core.proofs.LocalCalls.{nothing_yet}
use Rattle.rank_ledgers.proofs.Ledgers.{adds_up, called, together}
use Rattle.rank_ledgers.proofs.accounts.rank_account_laws.Goals as goal

pub returns-clause-begins : goal.returns-clause-begins
returns-clause-begins c = nothing_yet

pub returns-clause-called : goal.returns-clause-called
returns-clause-called c = called

pub returns-clause-adds_up : goal.returns-clause-adds_up
returns-clause-adds_up c = adds_up

pub returns-clause-together : goal.returns-clause-together
returns-clause-together c = together
