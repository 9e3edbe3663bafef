use Rattle.std.proofs.Common.{◌+◌, drop, refl}
use Rattle.std.proofs.lemmas.Bool.{false≢true, iff_false}
use Rattle.std.proofs.lemmas.List.{drop_all}
use Rattle.round_marks.specs.Finished.{HasFinishedPe}
use Rattle.round_marks.proofs.Walks.{from_here, walk_ends, walk_on, walk_stops}
use Rattle.round_marks.proofs.finished.pes_finished.Goals as goal

pub returns-then-not-pe_finished : goal.returns-then-not-pe_finished
returns-then-not-pe_finished g c =
    let i = c.loop-pe.pe-index in
    let pes = c.args.pes.now in (
      λ t. absurd (false≢true t),
      λ h. absurd (walk_stops HasFinishedPe pes (drop i pes) c.loop-pe.invariant c.pe-item.result (drop (i + 1) pes)
          (from_here pes i c.pe-item.result c.loop-pe-test.true c.pe-item.is) (iff_false c.pe_finished.ensures c.if-not-pe_finished.true) h),
    )

pub loop-pe-preserved : goal.loop-pe-preserved
loop-pe-preserved g c =
    let i = c.loop-pe.pe-index in
    let pes = c.args.pes.now in
    walk_on HasFinishedPe pes (drop i pes) c.loop-pe.invariant c.pe-item.result (drop (i + 1) pes)
    (from_here pes i c.pe-item.result c.loop-pe-test.true c.pe-item.is) (c.pe_finished.ensures.0 c.if-not-pe_finished.false)

pub returns : goal.returns
returns g c =
    let i = c.loop-pe.pe-index in
    let pes = c.args.pes.now in (
      λ _. walk_ends HasFinishedPe pes (drop i pes) c.loop-pe.invariant (drop_all i pes c.loop-pe-test.false),
      λ _. refl,
    )
