use Rattle.std.proofs.Common.{◌≡◌, MatchBool, subst}
use Rattle.block_assignment.specs.Least.{member}
use Rattle.block_assignment.proofs.block_set.BlockSets.has.Goals as goal

pub returns : goal.returns
returns c = subst (λ row. MatchBool c.has.result (member row c.args.b ≡ 1) (member row c.args.b ≡ 0)) c.of.ensures.value c.has.ensures
