use Rattle.std.proofs.Common.{◌≡◌, ◌∙◌, ℕ, sym, ap, subst, rules, arith, ◌<◌}
use Rattle.std.specs.Prelude.{slice_get}
use Rattle.std.specs.Option.{option_and_then}
use Rattle.schedules.specs.Choices.{AreFlags, ChoicesView}
use Rattle.schedules.specs.Draws.{element_event}
use Rattle.schedules.specs.NumberSets.{members}
use Rattle.schedules.proofs.Sets.{member_below, no_element_is, some_element_is}
use Rattle.schedules.proofs.choices.Choices.element_at.Goals as goal

pub returns-in_err-number : goal.returns-in_err-number
returns-in_err-number g c =
    let flags : AreFlags c.args.self.now = subst (λ (v : ChoicesView). AreFlags v) c.self.view_is c.self.invariant in
    let at = c.in_err-number.ensures.value ∙ ap (λ (v : ChoicesView). slice_get (members v.elements) c.args.place) c.self.view_is in
    record { value = no_element_is c.args.world.now c.args.self.now c.requires.knows flags c.args.place c.from_residual.result at c.from_residual.ensures }

pub returns-in_err-at : goal.returns-in_err-at
returns-in_err-at g c =
    let flags : AreFlags c.args.self.now = subst (λ (v : ChoicesView). AreFlags v) c.self.view_is c.self.invariant in
    let at = c.in_ok-number.ensures.value ∙ ap (λ (v : ChoicesView). slice_get (members v.elements) c.args.place) c.self.view_is in
    let number : c.unwrap-element.result ≡ c.in_ok-number.number = search rules in
    record {
      value = some_element_is c.args.world.now c.args.self.now c.requires.knows flags c.args.place c.in_ok-number.number c.from_residual-in_err-at.result at
          (c.from_residual-in_err-at.ensures ∙ ap (option_and_then (element_event c.args.world.now c.in_ok-number.number))
          (c.in_err-at.ensures.value ∙ ap (slice_get c.args.self.now.places) number));
    }

pub returns : goal.returns
returns g c =
    let flags : AreFlags c.args.self.now = subst (λ (v : ChoicesView). AreFlags v) c.self.view_is c.self.invariant in
    let at = c.in_ok-number.ensures.value ∙ ap (λ (v : ChoicesView). slice_get (members v.elements) c.args.place) c.self.view_is in
    let number : c.unwrap-element.result ≡ c.in_ok-number.number = search rules in
    record {
      value = some_element_is c.args.world.now c.args.self.now c.requires.knows flags c.args.place c.in_ok-number.number c.element_event.result at
          (c.element_event.ensures.value ∙ (ap (λ (e : ℕ). element_event c.args.world.now e c.in_ok-at.at) number
          ∙ ap (option_and_then (element_event c.args.world.now c.in_ok-number.number)) (c.in_ok-at.ensures.value ∙ ap (slice_get c.args.self.now.places) number)));
    }

pub unwrap-element-requires : goal.unwrap-element-requires
unwrap-element-requires g c =
    let below : c.in_ok-number.number < 65536 =
    omega (
      arith,
      member_below c.self.inside.elements c.args.place c.in_ok-number.number (sym c.in_ok-number.ensures.value),
      c.self.invariant.elements,
      c.self.invariant.few_elements,
    ) in
    search rules
