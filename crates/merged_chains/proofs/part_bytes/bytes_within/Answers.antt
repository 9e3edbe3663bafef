use Rattle.std.proofs.Common.{◌≡◌, ◌-◌, min, max, length, rules}
use Rattle.lb_snapshot.specs.Measured.{load}
use Rattle.merged_chains.proofs.PartWeights.{load_cut}
use Rattle.merged_chains.proofs.part_bytes.bytes_within.Goals as goal

pub returns : goal.returns
returns c =
    let bytes = c.args.bytes.now in
    let from : c.min-from.result ≡ min (length bytes) (c.args.begin - c.args.first) = search rules in
    let to : c.max.result ≡ max (min (length bytes) (c.args.end - c.args.first)) c.min-from.result = search rules in
    let weighs : c.sum_of.result ≡ load bytes c.min-from.result c.max.result = c.sum_of.ensures.value in
    record { value = load_cut bytes c.sum_of.result c.min-from.result c.max.result (c.args.begin - c.args.first) (c.args.end - c.args.first) weighs from to }
