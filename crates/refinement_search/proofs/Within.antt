-- A least division is within every tolerance.
use Rattle.std.proofs.Common.{ℕ, ◌+◌, ◌-◌, ◌^◌, ◌<◌, ◌≤◌, List, length, slice_index, arith}
use Rattle.std.proofs.lemmas.List.Sums.{sum_by-take-le}
use Rattle.lb_snapshot.specs.Measured.{IsLoads, load}
use Rattle.lb_snapshot.proofs.LoadSums.{sum_small}
use Rattle.lb_certificates.specs.Certificate.{IsCertified}
use Rattle.lb_certificates.specs.declared.division.Division.{Division}
use Rattle.lb_certificates.proofs.Chains.{block_within, load_after, peak-le}
use Rattle.lb_certificates.proofs.LeastDivisions.{least_from_certified}
use Rattle.chain_refinement.specs.Refinement.{AreWithin}
use Rattle.chain_refinement.specs.Tolerances.{limit_of}

load_small : (loads : List ℕ) (a b : ℕ) → IsLoads loads → a ≤ b → load loads a b < 2 ^ 63
load_small loads a b h onward =
    omega (arith, load_after loads a b onward, sum_by-take-le (λ x. x) loads b, sum_small loads h)

pub bottleneck_small : {A : Type 0} (loads : List ℕ) (blocks : ℕ) (d : Division A) → IsLoads loads → IsCertified loads blocks d → d.bottleneck < 2 ^ 63
bottleneck_small loads blocks d h certified =
    let least = least_from_certified loads blocks d certified in
    let most = peak-le loads d.cuts (2 ^ 63 - 1) (λ b inside. let block = block_within (length loads) blocks d.cuts b certified.divides
    (omega (arith, certified.divides.counted)) in omega (arith, load_small loads (slice_index d.cuts b) (slice_index d.cuts (b + 1)) h block.0)) in
    omega (arith, most, least.peak_is)

pub within_tolerance : {A : Type 0} (loads names : List ℕ) (tolerance : ℕ) (d : Division A) → IsCertified loads (length names) d
    → AreWithin loads names (limit_of d.bottleneck tolerance) d.cuts
within_tolerance loads names tolerance d certified =
    record { divides = certified.divides; within = λ b inside. omega (arith, certified.within b inside) }
