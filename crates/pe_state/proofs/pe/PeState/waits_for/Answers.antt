use Rattle.std.proofs.Common.{◌∙◌, ap}
use Rattle.pe_state.specs.Rooms.{found}
use Rattle.pe_state.proofs.Histories.{stands_within}
use Rattle.pe_state.proofs.pe.PeState.waits_for.Goals as goal

pub returns-clause-within : goal.returns-clause-within
returns-clause-within g c = stands_within c.self.invariant.1.histories
    (c.in_ok-element.ensures.value ∙ ap (λ r. found c.args.index r) c.room.ensures.value) c.in_ok-element.ensures.index
