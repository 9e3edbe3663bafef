use Rattle.std.proofs.Common.{◌≡◌, ◌∙◌, arith, length, subst, sym}
use Rattle.barrier.specs.Rounds.{BeginWith}
use Rattle.run_account.proofs.Passing.{counted_by}
use Rattle.carried_runs.proofs.GoingOn.{both_ok, counts_again}
use Rattle.std.proofs.lemmas.Result.{IfOk-weaker}
use Rattle.carried_runs.proofs.carrying.carry_on_as.Goals as goal

pub returns-clause-homes : goal.returns-clause-homes
returns-clause-homes g c = IfOk-weaker c.run_opened.result _ _ (λ o is. is ∙ c.in_ok-opened.ensures.homes) c.run_opened.ensures.homes

pub returns-clause-goes_on : goal.returns-clause-goes_on
returns-clause-goes_on g c =
    let n = counted_by (λ pe. pe.me) 0 g.H.Openings.pes c.args.outcome.ends c.requires.earlier.ends in
    let same : length c.args.outcome.ends ≡ length c.args.outcome.left = omega (arith, n, c.requires.earlier.queues) in
    both_ok c.run_opened.result _ _ _ (λ o on rounds. record {
      counts = counts_again c.args.config.now.pes c.args.outcome.ends c.args.outcome.left _ o.ends c.in_ok-opened.ensures.starts same on;
      rounds = subst (λ v. BeginWith v o.board.rounds) (sym c.requires.earlier_rounds) rounds;
    }) c.run_opened.ensures.counts c.run_opened.ensures.earlier
