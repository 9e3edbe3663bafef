use Rattle.std.proofs.Common.{◌≡◌, ◌++◌, length}
use Rattle.std.specs.Prelude.{All}
use Rattle.pe_state.specs.Histories.{HasHistories}
use Rattle.placed_runs.proofs.opening.ends_of.Given as goal

abbrev pub invariant-loop-state : goal.invariant-loop-state
invariant-loop-state g l = record {
  made : l.ends.items ++ l.states.items ≡ l.fn.states.items;
  histories : All (HasHistories g.C.Chare.step g.C.Pup.fits g.C.Pup.pack g.H.Openings.opened) l.ends.items;
}

abbrev pub decreases-loop-state : goal.decreases-loop-state
decreases-loop-state g l = length l.states.items
