use Rattle.std.proofs.Common.{◌≡◌, arith, length, ap}
use Rattle.merged_refinement.proofs.Rows.{all_written}
use Rattle.merged_refinement.proofs.row.heights_over.Goals as goal

pub returns-clause-least : goal.returns-clause-least
returns-clause-least g c =
    let list = c.in_ok-heights.heights in
    let new = c.write_heights.new.heights in
    let counted : length new ≡ list.len = omega (arith, c.write_heights.ensures.counted, ap length c.deref_mut.ensures.value, list.ok.0) in
    rw (all_written list.len new list.items counted) c.write_heights.ensures.least
