use Rattle.std.proofs.Common.{◌∙◌, length, ap}
use Rattle.schedules.specs.Choices.{ChoicesView, moves_in}
use Rattle.schedules.proofs.Choosers.{moves_known, with_decides}
use Rattle.schedules.proofs.choices.Choices.see.Goals as goal

pub returns-clause-knows : goal.returns-clause-knows
returns-clause-knows g c =
    let only = c.see_entries.ensures.only in
    with_decides c.args.world.now
    (record {
      looks = c.self.inside.looks;
      flushes = c.self.inside.flushes;
      delivers = c.self.inside.delivers;
      acts = c.self.inside.acts;
      reports = c.self.inside.reports;
      elements = c.self.inside.elements;
      places = c.self.inside.places.items;
      decides = c.self.inside.decides;
    })
    c.see_entries.new.self c.is_complete-self-inside.result c.self.view_is
    (ap (λ (v : ChoicesView). length v.looks) only ∙ (c.see_to.ensures.counted ∙ (c.see_pe.ensures.counted ∙ c.requires.rest.counted)))
    (λ k. ap (λ (v : ChoicesView). moves_in v k) only
    ∙ moves_known c.args.world.now c.args.self.now c.see_pe.new.self c.see_to.new.self c.see_entries.new.self c.args.p c.args.to c.args.entries.now
    c.requires.rest c.see_pe.ensures.here c.see_pe.ensures.others c.see_to.ensures.here c.see_to.ensures.others k)
    c.see_entries.ensures.knows (rw c.board.ensures.value at c.is_complete-self-inside.ensures.value)
