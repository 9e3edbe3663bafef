use Rattle.std.proofs.Common.{◌≢◌, arith, pos, ◌+ℤ◌}
use Rattle.std.proofs.lemmas.Int.{ints}
use Rattle.lb_certificates.specs.Held.{held_moved}
use Rattle.lb_certificates.specs.Naming.{price_sum}
use Rattle.lb_certificates.proofs.HeldFlaws.{held_gap_is_first}
use Rattle.lb_certificates.proofs.held_check.check_table_prices.Goals as goal
use Rattle.lb_certificates.proofs.held_check.check_table_prices.Goals.{then-sum-lt0-via-then-sum-lt0, then-sum-lt0-via-else-sum-lt0+then-sum-moved}

pub returns-then-sum-lt0-clause-first_flaw : goal.returns-then-sum-lt0-clause-first_flaw
returns-then-sum-lt0-clause-first_flaw c =
    let a = c.args in
    let wrong : price_sum a.u.now +ℤ price_sum a.v.now ≢ pos (held_moved a.blocks a.held.now a.names.now) = elim c.then-sum-lt0.branch [
      | then-sum-lt0-via-then-sum-lt0 w ↦ omega (arith, ints)
      | then-sum-lt0-via-else-sum-lt0+then-sum-moved w ↦ omega (arith, ints)
    ] in
    held_gap_is_first a.blocks a.held.now a.names.now a.u.now a.v.now c.requires.some_block c.requires.naming c.if-u-blocks.false c.if-v-blocks.false c.in_default.ensures wrong
