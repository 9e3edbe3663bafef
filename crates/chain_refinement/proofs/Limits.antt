-- A least load, and with it a limit, is far below what 64 bits hold.
use Rattle.std.proofs.Common.{◌≡◌, ℕ, ◌+◌, ◌^◌, ◌<◌, ◌≤◌, List, length, sum, slice_index, arith}
use Rattle.std.proofs.lemmas.List.Sums.{sum_by-take-le}
use Rattle.lb_snapshot.specs.Measured.{IsLoads}
use Rattle.lb_snapshot.proofs.LoadSums.{sum_small}
use Rattle.lb_certificates.specs.declared.division.Division.{Division}
use Rattle.lb_certificates.specs.Certificate.{IsCertified}
use Rattle.lb_certificates.specs.Chain.{block_load, peak}
use Rattle.lb_certificates.proofs.Chains.{block_within, load_after, peak-le}
use Rattle.lb_certificates.proofs.LeastDivisions.{least_from_certified}

pub bottleneck_small : {A : Type 0} (loads : List ℕ) (pes : ℕ) (least : Division A) → IsLoads loads → IsCertified loads pes least → least.bottleneck < 2 ^ 63
bottleneck_small loads pes least measured certified =
    let block : (b : ℕ) → b + 1 < length least.cuts → block_load loads least.cuts b ≤ sum loads = λ b inside.
    let ordered = block_within (length loads) pes least.cuts b certified.divides (omega (arith, inside, certified.divides.counted)) in
    omega (
      arith,
      load_after loads (slice_index least.cuts b) (slice_index least.cuts (b + 1)) ordered.0,
      sum_by-take-le (λ x. x) loads (slice_index least.cuts (b + 1)),
    )
    in
    let is_peak : peak loads least.cuts ≡ least.bottleneck = (least_from_certified loads pes least certified).peak_is in
    omega (arith, is_peak, peak-le loads least.cuts (sum loads) block, sum_small loads measured)
