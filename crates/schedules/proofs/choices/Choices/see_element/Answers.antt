use Rattle.std.proofs.Common.{◌∙◌, sym, ap}
use Rattle.std.specs.Prelude.{is_some, slice_get}
use Rattle.schedules.specs.Choices.{ChoicesView}
use Rattle.schedules.proofs.Choosers.{none_known, put_element}
use Rattle.schedules.proofs.choices.Choices.see_element.Goals as goal

pub returns-in_default-clause-here : goal.returns-in_default-clause-here
returns-in_default-clause-here g c =
    none_known c.args.world.now c.args.self.now c.args.element c.place_of.ensures.flags (sym c.in_default.ensures.value)

pub returns-clause-here : goal.returns-clause-here
returns-clause-here g c =
    put_element c.args.world.now (record {
      looks = c.self.inside.looks;
      flushes = c.self.inside.flushes;
      delivers = c.self.inside.delivers;
      acts = c.self.inside.acts;
      reports = c.self.inside.reports;
      elements = c.self.inside.elements;
      places = c.self.inside.places.items;
      decides = c.self.inside.decides;
    })
    c.args.element c.get.result c.in-Some.place c.is_some-may.result c.put.new.self c.self.invariant c.put.ensures.put c.get.ensures.value
    (ap (λ (v : ChoicesView). slice_get v.places c.args.element) c.self.view_is ∙ sym c.in-Some.ensures.value)
    (c.is_some-may.ensures ∙ ap is_some c.element_event.ensures.value)
