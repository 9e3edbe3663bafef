use Rattle.std.proofs.Common.{arith}
use Rattle.std.proofs.lemmas.Int.{ints, to_z-of_z}
use Rattle.std.proofs.lemmas.List.Sums.{fold_more}
use Rattle.speed_namings.proofs.prices.sum_of.Goals as goal

pub loop-price-preserved : goal.loop-price-preserved
loop-price-preserved c =
    (grind (arith, ints, to_z-of_z, fold_more), omega (arith, ints), omega (arith, ints))
