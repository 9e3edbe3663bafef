use Rattle.std.proofs.Common.{subst, sym}
use Rattle.std.specs.Prelude.{All}
use Rattle.std.proofs.lemmas.List.Elements.{All-push}
use Rattle.pe_state.specs.Histories.{HasHistories}
use Rattle.placed_runs.proofs.Placing.{moved_all, moved_next}
use Rattle.placed_runs.proofs.opening.ends_of.Goals as goal

pub loop-state-preserved : goal.loop-state-preserved
loop-state-preserved g c =
    let i = c.loop-state.invariant in
    record {
      made = moved_next c.loop-state.ends.items c.push.new.self.items c.loop-state.states.items c.take_next.new.left.items _ c.in-Some.state
          c.into_end.result c.in_ok-push.ensures.items c.into_end.ensures.value c.in-Some.ensures.taken i.made;
      histories = subst (All (HasHistories g.C.Chare.step g.C.Pup.fits g.C.Pup.pack g.H.Openings.opened)) (sym c.in_ok-push.ensures.items)
          (All-push (HasHistories g.C.Chare.step g.C.Pup.fits g.C.Pup.pack g.H.Openings.opened) c.loop-state.ends.items c.into_end.result i.histories
          (subst (HasHistories g.C.Chare.step g.C.Pup.fits g.C.Pup.pack g.H.Openings.opened) (sym c.into_end.ensures.value) c.into_end.ensures.histories));
    }

pub returns-clause-value : goal.returns-clause-value
returns-clause-value g c = moved_all c.loop-state.ends.items c.loop-state.states.items _ c.in_default.ensures.taken.0 c.loop-state.invariant.made

pub returns-clause-histories : goal.returns-clause-histories
returns-clause-histories g c = c.loop-state.invariant.histories
