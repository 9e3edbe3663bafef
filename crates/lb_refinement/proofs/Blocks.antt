-- The block of an element, as a search finds it.
use Rattle.std.proofs.Common.{◌≡◌, ℕ, ◌<◌, ◌≤◌, true, false, inl, inr, leb, leb-true, nat_lt, List, length, slice_index, arith}
use Rattle.std.specs.List.{position_or_len}
use Rattle.std.specs.List.Sorted.{IsPartitionPoint}
use Rattle.std.proofs.lemmas.Bool.{le-ltb, lt-ltb}
use Rattle.std.proofs.lemmas.Bool.Decides.{leb_tells}
use Rattle.std.proofs.lemmas.List.Sums.{position_or_len_is}

-- a cut is above i where it is not at most i
above : (cut i : ℕ) → leb cut i ≡ false → i < cut
above cut i beyond =
    elim (leb_tells cut i) [
      | inl below ↦ let both : leb cut i ≡ true = below.0 in cc
      | inr past ↦ past.1
    ]

-- the first cut above i is where the cuts that are at most i end
pub first_above : (cuts : List ℕ) (i k : ℕ) → k ≤ length cuts → IsPartitionPoint (λ cut. leb cut i ≡ true) (λ cut. leb cut i ≡ false) cuts k
    → position_or_len (λ cut. nat_lt i cut) cuts ≡ k
first_above cuts i k inside point =
    position_or_len_is (λ cut. nat_lt i cut) cuts k 0 inside
    (λ j before. le-ltb i (slice_index cuts j) (leb-true (slice_index cuts j) i (point.0 j 0 (omega arith) before)))
    (λ within. lt-ltb i (slice_index cuts k) (above (slice_index cuts k) i (point.1 k 0 (omega arith) within)))
