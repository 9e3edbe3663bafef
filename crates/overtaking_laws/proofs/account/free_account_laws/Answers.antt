use Rattle.std.specs.Prelude.{map}
use Rattle.rts_core.specs.Worlds.{opening_world}
use Rattle.overtaking_laws.specs.StaleRuns.{freely}
use Rattle.overtaking_laws.proofs.ByCopies.{free_is_stale}
use Rattle.overtaking_laws.proofs.StaleAccounts.{stale_accounted, stale_counted, stale_traced, still_histories, still_sent}
use Rattle.overtaking_laws.proofs.account.free_account_laws.Goals as goal

pub returns-clause-account : goal.returns-clause-account
returns-clause-account g c = λ pes chares strategy steps last some run.
    stale_accounted g.C.Chare.step g.C.Pup.pack g.C.Pup.unpack pes chares strategy some (map freely steps) last (free_is_stale g.C.Chare.step g.C.Pup.pack g.C.Pup.unpack (opening_world pes chares strategy) steps last run)

pub returns-clause-counted : goal.returns-clause-counted
returns-clause-counted g c = λ pes chares strategy steps last some run.
    stale_counted g.C.Chare.step g.C.Pup.pack g.C.Pup.unpack pes chares strategy some (map freely steps) last (free_is_stale g.C.Chare.step g.C.Pup.pack g.C.Pup.unpack (opening_world pes chares strategy) steps last run)

pub returns-clause-traced : goal.returns-clause-traced
returns-clause-traced g c = λ pes chares strategy steps last some run.
    stale_traced g.C.Chare.step g.C.Pup.pack g.C.Pup.unpack pes chares strategy some (map freely steps) last (free_is_stale g.C.Chare.step g.C.Pup.pack g.C.Pup.unpack (opening_world pes chares strategy) steps last run)

pub returns-clause-still_histories : goal.returns-clause-still_histories
returns-clause-still_histories g c = λ opened w next over are.
    still_histories g.C.Chare.step opened w next over g.C.Pup.fits g.C.Pup.pack are

pub returns-clause-still_sent : goal.returns-clause-still_sent
returns-clause-still_sent g c = λ opened w next over sent.
    still_sent g.C.Chare.step opened w next over sent
