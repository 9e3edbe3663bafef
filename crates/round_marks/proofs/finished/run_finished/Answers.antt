use Rattle.std.proofs.lemmas.Bool.{both_ways}
use Rattle.round_marks.proofs.finished.run_finished.Goals as goal

pub returns-then-pes_finished : goal.returns-then-pes_finished
returns-then-pes_finished g c = record {
  finished = (
    λ t. record { at_pes = c.pes_finished.ensures.0 c.if-pes_finished.true; in_queues = c.queues_finished.ensures.0 t },
    λ h. c.queues_finished.ensures.1 h.in_queues,
  );
}

pub returns-else-pes_finished : goal.returns-else-pes_finished
returns-else-pes_finished g c = record {
  finished = (
    λ t. absurd (both_ways _ c.if-pes_finished.false t),
    λ h. c.pes_finished.ensures.1 h.at_pes,
  );
}
