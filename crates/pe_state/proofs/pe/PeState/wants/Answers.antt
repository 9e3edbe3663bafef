use Rattle.std.proofs.Common.{◌∙◌, ap}
use Rattle.std.specs.Option.{option_or}
use Rattle.pe_state.specs.Pes.{front_wants}
use Rattle.pe_state.proofs.pe.PeState.wants.Goals as goal

pub returns-in-Some : goal.returns-in-Some
returns-in-Some g c = record { value = ap (λ h. option_or h (front_wants c.args.self.now.outbox)) c.in-Some.ensures.value }

pub returns : goal.returns
returns g c = record { value = c.front_wants.ensures.value ∙ ap (λ h. option_or h (front_wants c.args.self.now.outbox)) c.in_default.ensures.value }
