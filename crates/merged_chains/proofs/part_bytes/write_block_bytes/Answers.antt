use Rattle.std.proofs.Common.{◌≡◌, ℕ, ◌+◌, ◌-◌, ◌∙◌, slice_index, arith}
use Rattle.std.proofs.lemmas.List.{length-set}
use Rattle.lb_snapshot.specs.Measured.{load}
use Rattle.merged_chains.proofs.PartWeights.{load_named, numbers_set}
use Rattle.merged_chains.proofs.part_bytes.write_block_bytes.Goals as goal

pub loop-b-preserved : goal.loop-b-preserved
loop-b-preserved c =
    let old = c.loop-b.invariant in
    let bytes = c.args.bytes.now in
    let first : ℕ = c.args.first in
    let f = λ (k : ℕ). load bytes (slice_index c.args.cuts.now k - first) (slice_index c.args.cuts.now (k + 1) + 0 - first) in
    let last : c.bytes_within.result ≡ f c.loop-b.b = load_named bytes c.bytes_within.result first c.place_of-begin.result
    c.place_of-end.result (slice_index c.args.cuts.now c.loop-b.b) (slice_index c.args.cuts.now (c.loop-b.b + 1) + 0)
    c.bytes_within.ensures.value c.place_of-begin.ensures.value (omega (arith, c.place_of-end.ensures.value)) in
    record {
      same_room = length-set c.loop-b.held c.loop-b.b c.bytes_within.result ∙ old.same_room;
      so_far = numbers_set f c.loop-b.held c.loop-b.b c.bytes_within.result (omega (arith, c.loop-b-test.true, old.same_room)) old.so_far last;
    }
