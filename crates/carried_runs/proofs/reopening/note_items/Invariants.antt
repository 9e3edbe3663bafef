use Rattle.std.proofs.Common.{◌≡◌, ◌<◌, All, take}
use Rattle.std.specs.List.{flat_map}
use Rattle.run_account.specs.Noting.{with_noted}
use Rattle.carried_runs.specs.Places.{sighted_in}
use Rattle.carried_runs.proofs.reopening.note_items.Given as goal

abbrev pub invariant-loop-item : goal.invariant-loop-item
invariant-loop-item g l = record {
  noted : l.places ≡ with_noted l.initial.places (flat_map (sighted_in g.H.Openings.pes l.state.me) (take l.item-index l.items));
  named : All (λ q. q < g.H.Openings.pes) l.places;
}
