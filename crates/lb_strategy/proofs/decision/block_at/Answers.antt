use Rattle.std.proofs.Common.{◌≡◌, ℕ, ◌<◌, ◌≤◌, true, false, inl, inr, leb, leb-true, nat_lt, List, length, slice_index, arith, rules}
use Rattle.std.specs.List.{position_or_len}
use Rattle.std.specs.List.Sorted.{IsPartitionPoint}
use Rattle.std.proofs.lemmas.Bool.{le-ltb, lt-ltb}
use Rattle.std.proofs.lemmas.Bool.Decides.{leb_tells}
use Rattle.std.proofs.lemmas.List.Sorted.{IsPartitionPoint-from_clause, IsPartitionedBy-leb}
use Rattle.std.proofs.lemmas.List.Sums.{position_or_len_is}
use Rattle.lb_strategy.proofs.decision.block_at.Goals as goal

-- a cut that is not at most i is above it
above : (cut i : ℕ) → leb cut i ≡ false → i < cut
above cut i not_below =
    elim (leb_tells cut i) [
      | inl below ↦ let both : leb cut i ≡ true = below.0 in cc
      | inr beyond ↦ beyond.1
    ]

-- the first cut above i is where the cuts up to i end
first_above : (cuts : List ℕ) (i k : ℕ) → k ≤ length cuts → IsPartitionPoint (λ cut. leb cut i ≡ true) (λ cut. leb cut i ≡ false) cuts k
    → position_or_len (λ cut. nat_lt i cut) cuts ≡ k
first_above cuts i k inside point =
    position_or_len_is (λ cut. nat_lt i cut) cuts k 0 inside
    (λ j before. le-ltb i (slice_index cuts j) (leb-true (slice_index cuts j) i (point.0 j 0 (omega arith) before)))
    (λ within. lt-ltb i (slice_index cuts k) (above (slice_index cuts k) i (point.1 k 0 (omega arith) within)))

pub returns : goal.returns
returns c =
    let parted = IsPartitionedBy-leb (λ cut. cut) c.args.cuts.now c.args.i c.requires in
    let point = IsPartitionPoint-from_clause (λ cut. leb cut c.args.i) c.args.cuts.now c.partition_point.result
    c.partition_point.ensures.partitioned parted (λ a r q k. search rules) in
    let first : position_or_len (λ cut. nat_lt c.args.i cut) c.args.cuts.now ≡ c.partition_point.result = first_above c.args.cuts.now
    c.args.i c.partition_point.result c.partition_point.ensures.bound point in
    omega (arith, first)
