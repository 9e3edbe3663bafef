use Rattle.std.proofs.Common.{inl, inr, arith, sym, subst}
use Rattle.std.proofs.lemmas.Bool.{cases_eq}
use Rattle.block_assignment.specs.Least.{IsLeastAt}
use Rattle.block_assignment.proofs.LeastPes.{least_before}
use Rattle.block_assignment.proofs.least.make_least.Goals as goal

pub loop-b-preserved : goal.loop-b-preserved
loop-b-preserved c =
    record {
      naming = c.give_least_pe.ensures.naming;
      allowed = c.give_least_pe.ensures.allowed;
      least = λ k inside. elim (cases_eq k c.loop-b.b) [
        | inl last ↦ subst (λ m. IsLeastAt c.args.takers.now c.give_least_pe.new.names m) (sym last) c.give_least_pe.ensures.least
        | inr other ↦ least_before c.args.takers.now c.loop-b.names c.give_least_pe.new.names c.loop-b.b c.give_least_pe.ensures.before
            c.loop-b.invariant.least k (omega (arith, inside, other))
      ];
    }
