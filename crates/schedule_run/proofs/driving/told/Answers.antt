use Rattle.std.proofs.Common.{subst}
use Rattle.rts_run.specs.Outcomes.{OutcomeView}
use Rattle.run_text.specs.Text.{outcome_text}
use Rattle.tally.specs.Tallies.{TallyView}
use Rattle.workload_run.specs.Telling.{TellsOutcome}
use Rattle.schedule_run.proofs.driving.told.Goals as goal

pub returns-clause-told : goal.returns-clause-told
returns-clause-told g c =
    let ended = c.tell_outcome-ended in
    subst (λ (o : OutcomeView TallyView g.row.A.Denot). TellsOutcome (outcome_text c.args.chares o) (g.W.Write.contents c.args.writer.now)
    (g.W.Write.contents ended.new.writer) o.fault ended.result) c.outcome.ensures.value ended.ensures.told
