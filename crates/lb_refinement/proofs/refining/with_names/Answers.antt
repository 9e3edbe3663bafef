use Rattle.lb_refinement.proofs.refining.with_names.Goals as goal

pub returns-clause-named : goal.returns-clause-named
returns-clause-named g c =
    record {
      named = c.in-Ok.ensures.named;
      least_naming = c.in-Ok.ensures.least_naming;
      bounded = c.in-Ok.ensures.bounded;
      moved_is = c.in-Ok.ensures.moved;
      moves_are = rw (← c.as_slice.ensures.value, ← c.as_slice-2.ensures.value, ← c.as_slice-3.ensures.value) c.in_ok-moves.ensures.moves;
    }
