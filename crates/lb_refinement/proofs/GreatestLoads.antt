-- The greatest load of a block, found by walking over the blocks.
use Rattle.std.proofs.Common.{◌≡◌, ℕ, ◌+◌, ◌<◌, ◌≤◌, max, List, length, arith, ap, inl, inr}
use Rattle.std.proofs.lemmas.Bool.{cases_lt}
use Rattle.lb_certificates.specs.Chain.{block_load, peak}
use Rattle.lb_certificates.proofs.Chains.{block_load-le-peak, peak-le}
use Rattle.lb_refinement.specs.Greatest.{IsGreatestOf}

pub greatest_none : (loads cuts : List ℕ) → IsGreatestOf loads cuts 0 0
greatest_none loads cuts = record { above = λ c none. absurd (omega (arith, none)); below = omega arith }

pub greatest_more : (loads cuts : List ℕ) (b most : ℕ) → b + 1 < length cuts → IsGreatestOf loads cuts b most → IsGreatestOf loads cuts (b + 1) (max most (block_load loads cuts b))
greatest_more loads cuts b most inside greatest =
    record {
      above = λ c before. elim (cases_lt c b) [
        | inl earlier ↦ omega (arith, greatest.above c earlier)
        | inr last ↦
            let same : c ≡ b = omega (arith, before, last) in
            let load : block_load loads cuts c ≡ block_load loads cuts b = ap (block_load loads cuts) same in
            omega (arith, load)
      ];
      below = omega (arith, greatest.below, block_load-le-peak loads cuts b inside);
    }

pub greatest_is_peak : (loads cuts : List ℕ) (blocks most : ℕ) → length cuts ≡ blocks + 1 → IsGreatestOf loads cuts blocks most → most ≡ peak loads cuts
greatest_is_peak loads cuts blocks most counted greatest =
    let least : peak loads cuts ≤ most = peak-le loads cuts most (λ b inside. greatest.above b (omega (arith, inside, counted))) in
    omega (arith, least, greatest.below)
