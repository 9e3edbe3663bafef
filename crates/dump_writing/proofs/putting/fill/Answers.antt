use Rattle.std.proofs.Common.{◌≤◌, ◌+◌, length, arith, ◌∙◌}
use Rattle.dump_writing.proofs.Joining.{place_first, filled_none, place_next, place_inside, filled_more, filled_all}
use Rattle.dump_writing.proofs.putting.fill.Goals as goal

pub loop-i-init : goal.loop-i-init
loop-i-init g c = record {
  at_item = place_first g.row.N c.args.first;
  filled = filled_none _ c.args.first;
}

pub loop-i-preserved : goal.loop-i-preserved
loop-i-preserved g c =
    let inside : c.loop-i.at + g.row.N ≤ length c.loop-i.block = place_inside g.row.N c.args.first c.loop-i.i c.args.end c.loop-i.at
    (length c.loop-i.block) c.loop-i.auto.i c.loop-i-test.true c.loop-i.invariant.at_item (rw c.loop-i.auto.block c.requires.room) in record {
      at_item = place_next g.row.N c.args.first c.loop-i.i c.loop-i.at c.loop-i.auto.i c.loop-i.invariant.at_item;
      filled = filled_more (g.L.Items.item c.args.list.now) g.row.N c.args.first c.loop-i.i c.loop-i.at c.loop-i.block
          c.copy_from_slice.new.self c.loop-i.auto.i inside c.copy_from_slice.ensures.len (c.copy_from_slice.ensures.after ∙ c.item.ensures)
          c.loop-i.invariant.filled;
    }

pub returns : goal.returns
returns g c =
    filled_all (g.L.Items.item c.args.list.now) g.row.N c.args.first c.loop-i.i c.args.end c.loop-i.at c.loop-i.block (omega arith)
    c.loop-i.invariant.at_item c.loop-i.invariant.filled
