use Rattle.std.proofs.Common.{◌≡◌, ◌-◌}
use Rattle.schedules.specs.Draws.{drawn_in, events_of}
use Rattle.schedules.proofs.chooser.Chooser.draw.Given as goal

abbrev pub invariant-loop-again : goal.invariant-loop-again
invariant-loop-again g l = record {
  only : l.self ≡ record l.initial.self { state = l.self.state };
  drawn : drawn_in l.initial.self.bias (events_of l.world l.initial.self.choices.places) (15 - l._again) l.self.state
      ≡ drawn_in l.initial.self.bias (events_of l.world l.initial.self.choices.places) 15 l.initial.self.state;
}
