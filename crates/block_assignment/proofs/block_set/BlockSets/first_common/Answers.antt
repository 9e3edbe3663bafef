use Rattle.std.proofs.Common.{◌≡◌, ℕ, ◌*◌, ◌<◌, MatchOption, length, subst}
use Rattle.block_assignment.specs.Least.{member}
use Rattle.block_assignment.proofs.block_set.BlockSets.first_common.Goals as goal

pub returns : goal.returns
returns c =
    subst (λ row. MatchOption c.first_common.result ((b : ℕ) → member c.args.set.now b ≡ 1 → member row b ≡ 0)
    (λ b. (b < 64 * length c.args.set.now) × (member c.args.set.now b ≡ 1) × (member row b ≡ 1))) c.of.ensures.value c.first_common.ensures
