use Rattle.std.proofs.Common.{slice_index}
use Rattle.load_report.proofs.Deviations.{deviation_is, no_deviation}
use Rattle.load_report.proofs.deviation.deviation_of.Goals as goal

pub returns-then-pes-eq0 : goal.returns-then-pes-eq0
returns-then-pes-eq0 c = no_deviation c.args.pes c.args.total (slice_index c.args.sums.now) c.if-pes-eq0.true

pub returns : goal.returns
returns c =
    deviation_is c.args.pes c.args.total (slice_index c.args.sums.now) c.squares_of-squares.result c.from.result c.isqrt-doubled.result
    c.if-pes-eq0.false c.squares_of-squares.ensures.value
    c.from.ensures c.isqrt-doubled.ensures.square_le c.isqrt-doubled.ensures.next_square_gt
