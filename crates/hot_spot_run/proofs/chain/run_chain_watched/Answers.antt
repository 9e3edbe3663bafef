use Rattle.std.proofs.Common.{◌≡◌, ◌∙◌, ℕ, ap, length, subst, sym}
use Rattle.rts_core.specs.Worlds.{opening_words}
use Rattle.rts_run.specs.Configs.{MayBegin, RefusesRun}
use Rattle.rts_run.specs.declared.error.RunError.{RunError}
use Rattle.rts_run.specs.declared.error.RunError.TheVariants as Why
use Rattle.hot_spot_run.proofs.Chains.{many_strips, may_not_begin}
use Rattle.hot_spot_run.proofs.chain.run_chain_watched.Goals as goal

pub returns-in-Ok-run_watched-clause-outcome : goal.returns-in-Ok-run_watched-clause-outcome
returns-in-Ok-run_watched-clause-outcome g c = rw c.in-Ok.ensures.opened at c.in-Ok-run_watched.ensures.outcome

pub returns-in-Ok-run_watched-clause-homes : goal.returns-in-Ok-run_watched-clause-homes
returns-in-Ok-run_watched-clause-homes g c =
    let chain = c.args.chain.now in
    let many : length c.in-Ok.strips.items ≡ length chain.cells.now =
    ap length c.in-Ok.ensures.opened ∙ many_strips chain.mode chain.rounds chain.work 0 chain.cells.now in
    c.in-Ok-run_watched.ensures.homes ∙ ap (λ (n : ℕ). opening_words n c.args.config.now.pes) many

pub returns-in-Ok-run_watched-clause-within : goal.returns-in-Ok-run_watched-clause-within
returns-in-Ok-run_watched-clause-within g c =
    let chain = c.args.chain.now in
    let many : length c.in-Ok.strips.items ≡ length chain.cells.now =
    ap length c.in-Ok.ensures.opened ∙ many_strips chain.mode chain.rounds chain.work 0 chain.cells.now in
    (c.in-Ok.ensures.within, subst (λ (n : ℕ). MayBegin c.args.config.now n) many c.in-Ok-run_watched.ensures.answer)

pub returns-in-Err-Config-clause-refused : goal.returns-in-Err-Config-clause-refused
returns-in-Err-Config-clause-refused g c =
    let chain = c.args.chain.now in
    let many : length c.in-Ok.strips.items ≡ length chain.cells.now =
    ap length c.in-Ok.ensures.opened ∙ many_strips chain.mode chain.rounds chain.work 0 chain.cells.now in
    let out : RefusesRun c.args.config.now (length c.in-Ok.strips.items) Why.Config =
    subst (λ (e : RunError). RefusesRun c.args.config.now (length c.in-Ok.strips.items) e) c.in-Err-Config.field-0-is c.in-Err-Config.ensures.answer in
    λ limit may. may_not_begin c.args.config.now (length c.in-Ok.strips.items) out.0 out.1
    (subst (λ (n : ℕ). MayBegin c.args.config.now n) (sym many) may.1)
