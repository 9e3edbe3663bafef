use Rattle.std.proofs.Common.{◌∙◌, length, ap}
use Rattle.schedules.specs.Choices.{ChoicesView, moves_in}
use Rattle.schedules.proofs.Choosers.{with_decides}
use Rattle.schedules.proofs.choices.Choices.see_all.Goals as goal

pub returns-clause-knows : goal.returns-clause-knows
returns-clause-knows g c =
    let only = c.see_elements.ensures.only in
    with_decides c.args.world.now
    (record {
      looks = c.self.inside.looks;
      flushes = c.self.inside.flushes;
      delivers = c.self.inside.delivers;
      acts = c.self.inside.acts;
      reports = c.self.inside.reports;
      elements = c.self.inside.elements;
      places = c.self.inside.places.items;
      decides = c.self.inside.decides;
    })
    c.see_elements.new.self c.is_complete-self-inside.result c.self.view_is
    (ap (λ (v : ChoicesView). length v.looks) only ∙ c.see_pes.ensures.counted)
    (λ k. ap (λ (v : ChoicesView). moves_in v k) only ∙ c.see_pes.ensures.moves k)
    c.see_elements.ensures.knows (rw c.board.ensures.value at c.is_complete-self-inside.ensures.value)
