use Rattle.std.proofs.Common.{◌∙◌, ap, arith}
use Rattle.std.specs.Prelude.{◌==◌, if◌then◌else◌}
use Rattle.lb_certificates.proofs.Totals.{total_same}
use Rattle.load_report.proofs.figures.empty_pes.Goals as goal

pub returns : goal.returns
returns c =
    c.zeros_of.ensures ∙ total_same c.args.pes _ _ (λ p inside. ap (λ n. if n == 0 then 1 else 0)
    (c.count_elements.ensures.elements p (omega (arith, inside, c.count_elements.ensures.length, c.requires.few_pes))))
