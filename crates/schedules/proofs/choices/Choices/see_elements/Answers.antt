use Rattle.std.proofs.Common.{◌≡◌, length, ap, arith}
use Rattle.schedules.specs.Choices.{ChoicesView}
use Rattle.schedules.proofs.Choosers.{all_elements}
use Rattle.schedules.proofs.choices.Choices.see_elements.Goals as goal

pub returns-clause-knows : goal.returns-clause-knows
returns-clause-knows g c =
    let at = c.loop-number in
    let same : length at.self.places ≡ length c.args.self.now.places = ap (λ (v : ChoicesView). length v.places) at.invariant.only in
    let view : length c.self.inside.places.items ≡ length c.args.self.now.places = ap (λ (v : ChoicesView). length v.places) c.self.view_is in
    all_elements c.args.world.now at.self at.number c.known.ensures.flags (omega (arith, same, view, c.loop-number-test.false, c.len-number-end.ensures)) at.invariant.knows
