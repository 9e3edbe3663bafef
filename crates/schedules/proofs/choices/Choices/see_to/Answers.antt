use Rattle.std.proofs.Common.{◌∙◌, Some, sym, ap}
use Rattle.schedules.proofs.choices.Choices.see_to.Goals as goal

pub returns-in-Some-clause-others : goal.returns-in-Some-clause-others
returns-in-Some-clause-others g c = λ k ne. c.see_pe.ensures.others k (λ e. ne (ap Some e ∙ sym c.in-Some.is))
