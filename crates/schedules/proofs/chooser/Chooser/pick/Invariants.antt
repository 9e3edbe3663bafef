use Rattle.std.proofs.Common.{◌≡◌, drop}
use Rattle.schedules.specs.Draws.{events_of, kinds, picked}
use Rattle.schedules.proofs.chooser.Chooser.pick.Given as goal

abbrev pub invariant-loop-kind : goal.invariant-loop-kind
invariant-loop-kind g l =
    picked l.self.bias (events_of l.world l.self.choices.places) (drop l.kind-index kinds) l.left ≡ picked l.self.bias (events_of l.world l.self.choices.places) kinds l.number
