use Rattle.std.proofs.Common.{◌-◌, ◌<◌, arith, length, ap}
use Rattle.merged_refinement.proofs.Found.{rows_rise}
use Rattle.merged_refinement.proofs.search.read_off.Goals as goal

pub read_cuts-requires-clause-rises : goal.read_cuts-requires-clause-rises
read_cuts-requires-clause-rises g c b x y inside onward =
    let rows = c.in_ok-rows.rows.items in
    let table = c.args.table.now in
    let few : b < length table.near.now - 1 = omega (arith, inside, ap length c.deref.ensures.value, c.in_ok-rows.rows.ok.0, c.in_ok-rows.ensures.counted) in
    rw c.deref.ensures.value (rows_rise c.args.bytes.now table (length table.near.now - 1) rows b x y c.in_ok-rows.ensures.piled few onward)
