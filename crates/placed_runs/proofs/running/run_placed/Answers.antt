use Rattle.std.proofs.Common.{ℕ, List, length, ap, subst, sym}
use Rattle.std.specs.Prelude.{MatchResult}
use Rattle.rts_run.specs.Configs.{MayBegin, RefusesRun}
use Rattle.rts_run.specs.Outcomes.{IsOutcome}
use Rattle.placed_runs.proofs.running.run_placed.Goals as goal

pub carry_on_in_parts-requires-clause-earlier : goal.carry_on_in_parts-requires-clause-earlier
carry_on_in_parts-requires-clause-earlier g c κs within =
    subst (λ (v : List g.row.C.Denot). IsOutcome g.C.Chare.step g.C.Pup.fits g.C.Pup.pack g.C.Chare.refuses v c.args.config.now.pes
    c.args.options.now.strategy c.in-Ok.outcome) (sym (ap (λ v. v.items) c.of-opening.ensures))
    (subst (λ (v : ℕ). IsOutcome g.C.Chare.step g.C.Pup.fits g.C.Pup.pack g.C.Chare.refuses c.args.chares.items v
    c.args.options.now.strategy c.in-Ok.outcome) c.of.ensures.value c.in-Ok.ensures.outcome)

pub returns-in-Ok-clause-answer : goal.returns-in-Ok-clause-answer
returns-in-Ok-clause-answer g c =
    subst (λ (v : List g.row.C.Denot). MatchResult c.carry_on_in_parts.result (λ _. MayBegin c.args.config.now (length v))
    (RefusesRun c.args.config.now (length v))) (ap (λ v. v.items) c.of-opening.ensures) c.carry_on_in_parts.ensures.answer
