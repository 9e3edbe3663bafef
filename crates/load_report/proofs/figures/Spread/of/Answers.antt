use Rattle.std.proofs.Common.{◌≡◌, ◌∙◌, sum, slice_index, arith}
use Rattle.load_report.specs.Figures.{load_of}
use Rattle.load_report.proofs.Spreads.{part_of_all, spread_from, whole_load}
use Rattle.load_report.proofs.figures.Spread.of.Goals as goal

pub deviation_of-requires-clause-parts : goal.deviation_of-requires-clause-parts
deviation_of-requires-clause-parts g c p inside =
    let loads = c.args.loads.now in
    let all : c.load-total.result ≡ sum loads = c.load-total.ensures.value ∙ whole_load loads c.len.result c.len.ensures.value in
    let placed : slice_index c.add_loads.new.sums p ≡ load_of loads c.args.places.now p = rw c.as_slice.ensures.value at
    c.add_loads.ensures.loads p (omega (arith, inside, c.add_loads.ensures.length, c.requires.few_pes)) in
    omega (arith, placed, all, part_of_all loads c.args.places.now p)

pub returns : goal.returns
returns g c =
    let loads = c.args.loads.now in
    record {
      value = spread_from loads c.args.places.now c.args.pes (slice_index c.add_loads.new.sums) c.len-2.result c.greatest_of.result c.least_of.result c.load-total.result
          c.deviation_of.result c.greatest_of-2.result c.empty_pes.result c.idle_pes.result
          c.len-2.ensures.value c.greatest_of.ensures c.least_of.ensures (c.load-total.ensures.value ∙ whole_load loads c.len.result c.len.ensures.value) c.deviation_of.ensures
          (rw (c.len-3.ensures.value, c.as_slice-2.ensures.value) at c.greatest_of-2.ensures) c.empty_pes.ensures c.idle_pes.ensures
          (λ p inside. rw c.as_slice.ensures.value at c.add_loads.ensures.loads p (omega (arith, inside, c.add_loads.ensures.length, c.requires.few_pes)));
    }
