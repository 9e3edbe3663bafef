use Rattle.std.proofs.Common.{refl}
use Rattle.pe_state.proofs.Histories.{still_holds}
use Rattle.pe_state.proofs.Runs.{same_run}
use Rattle.pe_state.proofs.pe.PeState.shelve.Goals as goal

pub invariant_of-end-2 : goal.invariant_of-end-2
invariant_of-end-2 g c = (c.end.invariant.0, λ k. absurd (cc))

pub invariant_of-self-2 : goal.invariant_of-self-2
invariant_of-self-2 g c =
    let i = same_run c.end.view_is c.self.invariant.1 in
    (c.self.invariant.0, record { histories = still_holds i.histories refl refl refl refl; few = i.few; me = i.me; hand = i.hand; outbox = i.outbox; kept = tt })
