use Rattle.std.proofs.Common.{◌≡◌, ◌∙◌, sym, ap, true, false}
use Rattle.schedules.specs.Choices.{ChooserView}
use Rattle.schedules.specs.Draws.{is_starved}
use Rattle.schedules.proofs.Draws.{draw_ends, draw_last, draw_repeats}
use Rattle.schedules.proofs.chooser.Chooser.draw.Goals as goal

pub returns-then-not-is_starved-clause-drawn : goal.returns-then-not-is_starved-clause-drawn
returns-then-not-is_starved-clause-drawn g c =
    let at = c.loop-again in
    let calm : is_starved c.args.self.now.bias c.draw_any-event.result ≡ false =
    sym (ap (λ (v : ChooserView). is_starved v.bias c.draw_any-event.result) c.self.view_is) ∙ (sym c.is_starved.ensures.value ∙ c.if-not-is_starved.true) in
    draw_ends c.args.world.now c.args.self.now at.self at.invariant.only at._again c.draw_any-event.new.self.state c.draw_any-event.result c.loop-again-test.true
    c.draw_any-event.ensures.drawn calm at.invariant.drawn

pub loop-again-preserved : goal.loop-again-preserved
loop-again-preserved g c =
    let at = c.loop-again in
    let starved : is_starved c.args.self.now.bias c.draw_any-event.result ≡ true =
    sym (ap (λ (v : ChooserView). is_starved v.bias c.draw_any-event.result) c.self.view_is) ∙ (sym c.is_starved.ensures.value ∙ c.if-not-is_starved.false) in
    let both =
    draw_repeats c.args.world.now c.args.self.now at.self at.invariant.only at._again c.draw_any-event.result c.draw_any-event.new.self c.loop-again-test.true
    c.draw_any-event.ensures.drawn c.draw_any-event.ensures.only starved at.invariant.drawn in
    record { only = both.0; drawn = both.1 }

pub returns-clause-drawn : goal.returns-clause-drawn
returns-clause-drawn g c =
    let at = c.loop-again in
    draw_last c.args.world.now c.args.self.now at.self at.invariant.only at._again (c.draw_any.result, c.draw_any.new.self.state) c.loop-again-test.false
    c.draw_any.ensures.drawn at.invariant.drawn
