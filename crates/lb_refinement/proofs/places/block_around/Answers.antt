use Rattle.std.proofs.Common.{◌≡◌, leb, nat_lt, arith, rules}
use Rattle.std.specs.List.{position_or_len}
use Rattle.std.proofs.lemmas.List.Sorted.{IsPartitionPoint-from_clause, IsPartitionedBy-leb}
use Rattle.lb_refinement.proofs.Blocks.{first_above}
use Rattle.lb_refinement.proofs.places.block_around.Goals as goal

pub returns : goal.returns
returns c =
    let parted = IsPartitionedBy-leb (λ cut. cut) c.args.cuts.now c.args.i c.requires.ordered in
    let point = IsPartitionPoint-from_clause (λ cut. leb cut c.args.i) c.args.cuts.now c.partition_point.result
    c.partition_point.ensures.partitioned parted (λ a r q k. search rules) in
    let first : position_or_len (λ cut. nat_lt c.args.i cut) c.args.cuts.now ≡ c.partition_point.result = first_above c.args.cuts.now
    c.args.i c.partition_point.result c.partition_point.ensures.bound point in
    record { value = omega (arith, first) }
