use Rattle.std.proofs.Common.{◌+◌, drop, refl}
use Rattle.std.proofs.lemmas.Bool.{false≢true, iff_false}
use Rattle.std.proofs.lemmas.List.{drop_all}
use Rattle.round_marks.specs.Runs.{IsMarkedPe}
use Rattle.round_marks.proofs.Walks.{from_here, walk_ends, walk_on, walk_stops}
use Rattle.round_marks.proofs.run.pes_agree.Goals as goal

pub returns-then-not-pe_agrees : goal.returns-then-not-pe_agrees
returns-then-not-pe_agrees g c =
    let i = c.loop-pe.pe-index in
    let pes = c.args.pes.now in (
      λ t. absurd (false≢true t),
      λ h. absurd (walk_stops (IsMarkedPe c.args.board.now c.args.homes.now) pes (drop i pes) c.loop-pe.invariant c.pe-item.result (drop (i + 1) pes)
          (from_here pes i c.pe-item.result c.loop-pe-test.true c.pe-item.is) (iff_false c.pe_agrees.ensures.agree c.if-not-pe_agrees.true) h),
    )

pub loop-pe-preserved : goal.loop-pe-preserved
loop-pe-preserved g c =
    let i = c.loop-pe.pe-index in
    let pes = c.args.pes.now in
    walk_on (IsMarkedPe c.args.board.now c.args.homes.now) pes (drop i pes) c.loop-pe.invariant c.pe-item.result (drop (i + 1) pes)
    (from_here pes i c.pe-item.result c.loop-pe-test.true c.pe-item.is) (c.pe_agrees.ensures.agree.0 c.if-not-pe_agrees.false)

pub returns : goal.returns
returns g c =
    let i = c.loop-pe.pe-index in
    let pes = c.args.pes.now in (
      λ _. walk_ends (IsMarkedPe c.args.board.now c.args.homes.now) pes (drop i pes) c.loop-pe.invariant (drop_all i pes c.loop-pe-test.false),
      λ _. refl,
    )
