use Rattle.std.proofs.Common.{arith, ◌+◌, ◌*◌, ◌≤◌, subst, sym}
use Rattle.std.specs.Int.{w32, from_be_bytes}
use Rattle.dump_format.proofs.Bytes.{are_bytes}
use Rattle.lb_dump.proofs.NumbersRead.{behind_part}
use Rattle.lb_dump.proofs.PlanParts.{division_read, floor_whole}
use Rattle.lb_dump.proofs.plan_lists.division_of.Goals as goal

pub floor_of-requires-clause-kind : goal.floor_of-requires-clause-kind
floor_of-requires-clause-kind g c =
    let rest = behind_part c.args.bytes.now 8 (4 * (c.args.target + 1)) c.split_at.result.1.now c.split_at.ensures.back in
    subst (λ it. from_be_bytes w32 it ≤ 1) (sym rest) c.requires.kind

pub floor_of-requires-clause-whole : goal.floor_of-requires-clause-whole
floor_of-requires-clause-whole g c =
    let rest = behind_part c.args.bytes.now 8 (4 * (c.args.target + 1)) c.split_at.result.1.now c.split_at.ensures.back in
    floor_whole c.args.bytes.now c.split_at.result.1.now (8 + 4 * (c.args.target + 1)) (c.args.target + 1) rest c.requires.whole

pub returns : goal.returns
returns g c =
    division_read c.args.bytes.now c.split_at.result.0.now c.split_at.result.1.now c.in_ok-cuts.cuts.items c.args.target
    (record { bottleneck = c.long.result; cuts = c.new.result; floor = c.in_ok-floor.floor })
    (are_bytes c.args.bytes.now c.type_inv.bytes) (omega arith) c.long.ensures.value c.long.type_inv c.split_at.ensures.by_index.0
    c.in_ok-cuts.ensures.spelled c.in_ok-cuts.ensures.counted c.in_ok-cuts.ensures.range c.new.ensures.value c.in_ok-floor.ensures
