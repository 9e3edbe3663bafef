use Rattle.std.proofs.Common.{◌≡◌, ◌≢◌, ◌+◌, length, slice_index, arith, ap, rules}
use Rattle.std.specs.List.Sorted.{IsNonDecreasing}
use Rattle.merged_chains.proofs.Weighings.{cut_end_is_first}
use Rattle.merged_chains.proofs.weights.check_cuts.Goals as goal

pub returns-then-cuts-pes-clause-first_flaw : goal.returns-then-cuts-pes-clause-first_flaw
returns-then-cuts-pes-clause-first_flaw g c =
    let cuts = c.args.division.now.cuts in
    let same = c.as_slice-cuts.ensures.value in
    let counted : length cuts ≡ c.args.pes + 1 = omega (arith, ap length same) in
    let starts : slice_index cuts 0 ≡ 0 = omega (arith, ap (λ xs. slice_index xs 0) same) in
    let ordered : IsNonDecreasing cuts = search rules depth 2 in
    let wrong : slice_index cuts c.args.pes ≢ c.args.elements = search rules in
    λ block_loads fence_loads. cut_end_is_first c.args.elements c.args.pes block_loads fence_loads c.args.division.now counted starts ordered wrong
