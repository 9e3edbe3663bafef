use Rattle.std.proofs.Common.{◌≡◌, ◌<◌, All, map}
use Rattle.std.specs.Map.{values_of}
use Rattle.run_account.specs.Noting.{with_noted}
use Rattle.carried_runs.proofs.reopening.note_standing.Given as goal

abbrev pub invariant-loop-element : goal.invariant-loop-element
invariant-loop-element g l = record {
  can : (goal.iterator-loop-element g).can_next l.element-iterator;
  ends : (goal.iterator-loop-element g).is_finite l.element-iterator;
  me : l.me ≡ l.state.me;
  here : l.me < g.H.Openings.pes;
  noted : with_noted l.places (map (λ el. (el.index, l.me)) (values_of l.element-iterator))
      ≡ with_noted l.initial.places (map (λ el. (el.index, l.me)) (values_of l.state.room));
  named : All (λ q. q < g.H.Openings.pes) l.places;
}
