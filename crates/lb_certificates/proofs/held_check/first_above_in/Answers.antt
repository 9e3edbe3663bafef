use Rattle.std.proofs.Common.{◌≡◌, inl, inr, arith, subst, pos, ◌+ℤ◌, ◌≤ℤ◌}
use Rattle.std.proofs.lemmas.Bool.{cases_lt}
use Rattle.std.proofs.lemmas.Int.{ints}
use Rattle.lb_certificates.specs.Held.{row_cost}
use Rattle.lb_certificates.specs.Naming.{price_at}
use Rattle.lb_certificates.proofs.held_check.first_above_in.Goals as goal

pub loop-p-preserved : goal.loop-p-preserved
loop-p-preserved c =
    let here : (price_at c.args.u.now c.args.b +ℤ price_at c.args.v.now c.loop-p.p) ≤ℤ pos (row_cost c.args.row.now c.loop-p.p) = omega (arith, ints) in
    λ p inside. elim (cases_lt p c.loop-p.p) [
      | inl earlier ↦ c.loop-p.invariant p earlier
      | inr last ↦
          let same : c.loop-p.p ≡ p = omega arith in
          subst (λ q. (price_at c.args.u.now c.args.b +ℤ price_at c.args.v.now q) ≤ℤ pos (row_cost c.args.row.now q)) same here
    ]
