-- The pack of a tally, where its sum is.
use Rattle.std.proofs.Common.{◌≡◌, ◌<◌, ◌^◌}
use Rattle.std.proofs.lemmas.Nat.{from_be_bytes-to_be_bytes_8}
use Rattle.tally.specs.Tallies.{TallyView, tally_pack}
use Rattle.run_text.specs.Sums.{packed_sum}

-- the sum in the pack of a tally is that of the tally
pub sum_in_pack : (t : TallyView) → t.sum < 2 ^ 64 → packed_sum (tally_pack t) ≡ t.sum
sum_in_pack t fits = from_be_bytes-to_be_bytes_8 t.sum fits
