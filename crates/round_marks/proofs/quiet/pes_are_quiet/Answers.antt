use Rattle.std.proofs.Common.{◌+◌, drop, refl}
use Rattle.std.proofs.lemmas.Bool.{false≢true, iff_false}
use Rattle.std.proofs.lemmas.List.{drop_all}
use Rattle.round_marks.specs.Quiet.{IsQuietPe}
use Rattle.round_marks.proofs.Walks.{from_here, walk_ends, walk_on, walk_stops}
use Rattle.round_marks.proofs.quiet.pes_are_quiet.Goals as goal

pub returns-then-not-pe_is_quiet : goal.returns-then-not-pe_is_quiet
returns-then-not-pe_is_quiet g c =
    let i = c.loop-pe.pe-index in
    let pes = c.args.pes.now in (
      λ t. absurd (false≢true t),
      λ h. absurd (walk_stops (IsQuietPe c.args.board.now) pes (drop i pes) c.loop-pe.invariant c.pe-item.result (drop (i + 1) pes)
          (from_here pes i c.pe-item.result c.loop-pe-test.true c.pe-item.is) (iff_false c.pe_is_quiet.ensures c.if-not-pe_is_quiet.true) h),
    )

pub loop-pe-preserved : goal.loop-pe-preserved
loop-pe-preserved g c =
    let i = c.loop-pe.pe-index in
    let pes = c.args.pes.now in
    walk_on (IsQuietPe c.args.board.now) pes (drop i pes) c.loop-pe.invariant c.pe-item.result (drop (i + 1) pes)
    (from_here pes i c.pe-item.result c.loop-pe-test.true c.pe-item.is) (c.pe_is_quiet.ensures.0 c.if-not-pe_is_quiet.false)

pub returns : goal.returns
returns g c =
    let i = c.loop-pe.pe-index in
    let pes = c.args.pes.now in (
      λ _. walk_ends (IsQuietPe c.args.board.now) pes (drop i pes) c.loop-pe.invariant (drop_all i pes c.loop-pe-test.false),
      λ _. refl,
    )
