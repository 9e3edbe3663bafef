use Rattle.std.proofs.Common.{◌≡◌, ◌*◌, ◌-◌, length, arith, sym, ap}
use Rattle.schedules.specs.NumberSets.{has}
use Rattle.schedules.proofs.Counts.{count_grows, nth_past}
use Rattle.schedules.proofs.number_set.NumberSet.nth.Goals as goal

pub returns : goal.returns
returns g c =
    let view : c.self.inside.flags.items ≡ c.args.self.now = c.self.view_is in
    let flags = c.args.self.now in
    let at = c.loop-block.block * 256 in
    let grows = count_grows (has flags) (length flags) (at - length flags) at
    (omega (arith, c.self.invariant.covered, c.loop-block-test.false, c.len-block-end.ensures, ap length view)) in
    record { value = sym (nth_past (has flags) (length flags) c.args.place (omega (arith, c.loop-block.invariant, grows.0))) }
