use Rattle.std.proofs.Common.{◌≡◌, ◌∙◌, ℕ, ◌+◌, ◌-◌, ◌/◌, ◌<◌, ◌≤◌, List, drop, get_or, slice_get, sym, ap, subst}
use Rattle.std.proofs.lemmas.List.{get_or_default}
use Rattle.rts_core.specs.declared.event.Event.{Event}
use Rattle.schedules.specs.Choices.{ChooserView}
use Rattle.schedules.specs.Draws.{events_of, kinds, picked, share, weight}
use Rattle.schedules.specs.declared.bias.Kind.{Kind}
use Rattle.schedules.specs.declared.bias.Kind.TheVariants.{Look}
use Rattle.schedules.proofs.Draws.{picked_here, picked_past}
use Rattle.schedules.proofs.chooser.Chooser.pick.Goals as goal

pub returns-then-left-share : goal.returns-then-left-share
returns-then-left-share g c =
    let self : ChooserView = c.args.self.now in
    let i : ℕ = c.loop-kind.kind-index in
    let left : ℕ = c.loop-kind.left in
    let kind : Kind = get_or kinds i Look in
    let events : Kind → List Event = events_of c.args.world.now self.choices.places in
    let less : left < share self.bias events kind = subst (λ (n : ℕ). left < n) c.share-share.ensures.value c.if-left-share.true in
    let by_weight : c.weight.result ≡ weight self.bias kind = c.weight.ensures.value ∙ ap (λ (v : ChooserView). weight v.bias kind) c.self.view_is in
    record {
      value =
          c.event_at.ensures.value
          ∙ (ap (λ (v : ChooserView). slice_get (events_of c.args.world.now v.choices.places kind) (left / c.weight.result)) c.self.view_is
          ∙ (ap (λ (n : ℕ). slice_get (events kind) (left / n)) by_weight
          ∙ (sym (picked_here self.bias events kinds i kind left c.loop-kind-test.true (get_or_default kinds i Look kind c.loop-kind-test.true) less) ∙ c.loop-kind.invariant)));
    }

pub loop-kind-preserved : goal.loop-kind-preserved
loop-kind-preserved g c =
    let self : ChooserView = c.args.self.now in
    let i : ℕ = c.loop-kind.kind-index in
    let left : ℕ = c.loop-kind.left in
    let kind : Kind = get_or kinds i Look in
    let events : Kind → List Event = events_of c.args.world.now self.choices.places in
    let more : share self.bias events kind ≤ left = subst (λ (n : ℕ). n ≤ left) c.share-share.ensures.value c.if-left-share.false in
    ap (λ (n : ℕ). picked self.bias events (drop (i + 1) kinds) (left - n)) c.share-share.ensures.value
    ∙ (sym (picked_past self.bias events kinds i kind left c.loop-kind-test.true (get_or_default kinds i Look kind c.loop-kind-test.true) more) ∙ c.loop-kind.invariant)
