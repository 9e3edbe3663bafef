use Rattle.run_text.proofs.Histories.{added_up, tallies_of}
use Rattle.run_text.proofs.Packs.{sum_in_pack}
use Rattle.run_text.proofs.laws.sum_laws.Goals as goal

pub returns-clause-tallies : goal.returns-clause-tallies
returns-clause-tallies g c = λ opened o run. tallies_of _ (λ t fit. fit.0.1.1.0) opened o run

pub returns-clause-packed : goal.returns-clause-packed
returns-clause-packed g c = sum_in_pack

pub returns-clause-sums : goal.returns-clause-sums
returns-clause-sums g c = λ opened o e run inside. added_up _ (λ t fit. fit.0.1.1.0) opened o e run inside
