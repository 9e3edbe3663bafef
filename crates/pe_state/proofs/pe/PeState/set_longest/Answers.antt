use Rattle.std.proofs.Common.{refl}
use Rattle.pe_state.proofs.Histories.{still_holds}
use Rattle.pe_state.proofs.Runs.{same_run}
use Rattle.pe_state.proofs.pe.PeState.set_longest.Goals as goal

pub invariant_of-self : goal.invariant_of-self
invariant_of-self g c =
    let i = same_run c.end.view_is c.self.invariant.1 in
    (c.self.invariant.0, record { histories = still_holds i.histories refl refl refl refl; few = i.few; me = i.me; hand = i.hand; outbox = i.outbox; kept = i.kept })
