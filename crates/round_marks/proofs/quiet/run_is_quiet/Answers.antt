use Rattle.std.proofs.lemmas.Bool.{both_ways, false≢true, iff_false}
use Rattle.round_marks.proofs.quiet.run_is_quiet.Goals as goal

pub returns-then-is_complete : goal.returns-then-is_complete
returns-then-is_complete g c = record {
  quiet = (
    λ t. absurd (false≢true t),
    λ h. absurd (h.waits (c.is_complete.ensures.value.0 c.if-is_complete.true)),
  );
}

pub returns-then-pes_are_quiet : goal.returns-then-pes_are_quiet
returns-then-pes_are_quiet g c = record {
  quiet = (
    λ t. record {
      waits = iff_false c.is_complete.ensures.value c.if-is_complete.false;
      at_pes = c.pes_are_quiet.ensures.0 c.if-pes_are_quiet.true;
      in_queues = c.queues_are_empty.ensures.0 t;
    },
    λ h. c.queues_are_empty.ensures.1 h.in_queues,
  );
}

pub returns-else-pes_are_quiet : goal.returns-else-pes_are_quiet
returns-else-pes_are_quiet g c = record {
  quiet = (
    λ t. absurd (both_ways _ c.if-pes_are_quiet.false t),
    λ h. c.pes_are_quiet.ensures.1 h.at_pes,
  );
}
