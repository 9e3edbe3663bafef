use Rattle.std.proofs.lemmas.Bool.{iff_false}
use Rattle.rts_run.proofs.running.all_finished.Goals as goal

pub returns-then-all_finished : goal.returns-then-all_finished
returns-then-all_finished g c =
    record {
      value = (
        λ t. (c.all_finished.ensures.value.0 c.if-all_finished.true, c.run_finished.ensures.finished.0 t),
        λ h. c.run_finished.ensures.finished.1 h.1,
      );
    }

pub returns-else-all_finished : goal.returns-else-all_finished
returns-else-all_finished g c =
    record {
      value = (
        λ t. absurd (iff_false c.all_finished.ensures.value c.if-all_finished.false (c.all_finished.ensures.value.0 t)),
        λ h. c.all_finished.ensures.value.1 h.0,
      );
    }
