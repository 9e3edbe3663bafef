use Rattle.std.proofs.Common.{◌≡◌, ◌<◌, All, take}
use Rattle.std.specs.List.{flat_map}
use Rattle.run_account.specs.Noting.{with_noted}
use Rattle.carried_runs.specs.Places.{sightings}
use Rattle.carried_runs.proofs.reopening.note_all.Given as goal

abbrev pub invariant-loop-state : goal.invariant-loop-state
invariant-loop-state g l = record {
  noted : l.places ≡ with_noted l.initial.places (flat_map (sightings g.H.Openings.pes) (take l.state-index l.states));
  named : All (λ q. q < g.H.Openings.pes) l.places;
}
