use Rattle.std.proofs.Common.{◌≡◌, ℕ, ◌+◌, ◌-◌, ◌∙◌, slice_index, arith}
use Rattle.std.proofs.lemmas.List.{length-set}
use Rattle.lb_snapshot.specs.Measured.{load}
use Rattle.merged_chains.proofs.PartWeights.{load_named, numbers_set}
use Rattle.merged_chains.proofs.range_loads.write_loads.Goals as goal

pub loop-b-preserved : goal.loop-b-preserved
loop-b-preserved g c =
    let old = c.loop-b.invariant in
    let part = c.args.part.now in
    let first : ℕ = c.args.first in
    let f = λ (k : ℕ). load part (slice_index c.args.places.now k - first) (slice_index c.args.places.now (k + 1) + c.args.behind - first) in
    let end : c.from-end.result + c.from.result ≡ slice_index c.args.places.now (c.loop-b.b + 1) + c.args.behind = omega
    (arith, c.place_of.ensures.value, c.from-end.ensures, c.from.ensures) in
    let last : c.load_within.result ≡ f c.loop-b.b = load_named part c.load_within.result first c.loop-b.begin
    (c.from-end.result + c.from.result) (slice_index c.args.places.now c.loop-b.b)
    (slice_index c.args.places.now (c.loop-b.b + 1) + c.args.behind) c.load_within.ensures.value old.begins end in
    record {
      begins = omega (arith, c.place_of.ensures.value, c.from-end.ensures);
      same_room = length-set c.loop-b.loads c.loop-b.b c.load_within.result ∙ old.same_room;
      weigh = numbers_set f c.loop-b.loads c.loop-b.b c.load_within.result (omega (arith, c.loop-b-test.true, old.same_room)) old.weigh last;
    }
