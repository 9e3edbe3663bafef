use Rattle.lb_dump.proofs.PlanParts.{prices_read}
use Rattle.lb_dump.proofs.plan_lists.prices_of.Goals as goal

pub returns : goal.returns
returns g c =
    prices_read c.args.bytes.now c.split_at.result.0.now c.split_at.result.1.now c.in_ok-u.u.items c.in_ok-v.v.items c.args.target
    (record { u = c.new.result; v = c.new-2.result }) c.split_at.ensures.by_index.0
    c.in_ok-u.ensures.spelled c.in_ok-u.ensures.counted c.in_ok-u.ensures.range c.new.ensures.value c.in_ok-v.ensures.spelled
    c.in_ok-v.ensures.counted c.in_ok-v.ensures.range c.new-2.ensures.value
