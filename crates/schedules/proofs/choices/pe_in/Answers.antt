use Rattle.std.proofs.Common.{◌<◌, sym, arith, rules}
use Rattle.schedules.proofs.Sets.{member_below}
use Rattle.schedules.proofs.choices.pe_in.Goals as goal

pub unwrap-requires : goal.unwrap-requires
unwrap-requires g c =
    let below : c.in_ok-number.number < 256 = omega (arith, member_below c.args.set.now c.args.place c.in_ok-number.number (sym c.in_ok-number.ensures.value), c.requires.few) in
    search rules
