use Rattle.std.proofs.Common.{◌≡◌, ◌∙◌, ◌*◌, ℕ, length, ap, subst}
use Rattle.schedules.specs.Choices.{AreFlags, ChooserView, numbers_in}
use Rattle.schedules.specs.Draws.{events_of, weight}
use Rattle.schedules.proofs.Sets.{count_is}
use Rattle.schedules.proofs.chooser.Chooser.share.Goals as goal

pub returns-clause-value : goal.returns-clause-value
returns-clause-value g c =
    let k = c.args.kind in
    let flags : AreFlags c.args.self.now.choices = subst (λ (v : ChooserView). AreFlags v.choices) c.self.view_is c.count.ensures.flags in
    let many : c.count.result ≡ length (events_of c.args.world.now c.args.self.now.choices.places k) =
    c.count.ensures.value ∙ (ap (λ (v : ChooserView). length (numbers_in v.choices k)) c.self.view_is
    ∙ count_is c.args.world.now c.args.self.now.choices c.requires.knows flags k) in
    let heavy : c.weight.result ≡ weight c.args.self.now.bias k = c.weight.ensures.value ∙ ap (λ (v : ChooserView). weight v.bias k) c.self.view_is in
    ap (λ (x : ℕ). x * c.count.result) heavy ∙ ap (λ (y : ℕ). weight c.args.self.now.bias k * y) many
