use Rattle.std.proofs.Common.{arith, ◌≤◌, subst, sym}
use Rattle.dump_format.proofs.Bytes.{are_bytes}
use Rattle.lb_dump.proofs.PlanParts.{Cut, front_kind, front_whole, plan_spelled}
use Rattle.lb_dump.proofs.plan_lists.recorded_of.Goals as goal

pub division_of-requires-clause-kind : goal.division_of-requires-clause-kind
division_of-requires-clause-kind g c =
    let cut : Cut c.args.bytes.now c.split_at.result.0.now c.split_at.result.1.now c.args.target =
    record { target = c.requires.target; whole = c.requires.whole; split = c.split_at.ensures.by_index.0; back_len = omega arith } in
    subst (λ n. n ≤ 1) (sym (front_kind c.args.bytes.now c.split_at.result.0.now c.split_at.result.1.now c.args.target cut)) c.requires.kind

pub division_of-requires-clause-whole : goal.division_of-requires-clause-whole
division_of-requires-clause-whole g c =
    let cut : Cut c.args.bytes.now c.split_at.result.0.now c.split_at.result.1.now c.args.target =
    record { target = c.requires.target; whole = c.requires.whole; split = c.split_at.ensures.by_index.0; back_len = omega arith } in
    front_whole c.args.bytes.now c.split_at.result.0.now c.split_at.result.1.now c.args.target cut

pub returns-clause-spelled : goal.returns-clause-spelled
returns-clause-spelled g c =
    let cut : Cut c.args.bytes.now c.split_at.result.0.now c.split_at.result.1.now c.args.target =
    record { target = c.requires.target; whole = c.requires.whole; split = c.split_at.ensures.by_index.0; back_len = omega arith } in
    plan_spelled c.args.bytes.now c.split_at.result.0.now c.split_at.result.1.now c.split_at-2.result.0.now c.split_at-2.result.1.now c.after_floor.result c.lists_len.result
    (record {
      target = c.args.target;
      decision = record {
        division = c.in_ok-division.division;
        naming = c.in_ok-naming.naming;
        prices = c.in_ok-naming.prices;
        moved = c.long.result;
        moves = c.new-2.result;
      };
    })
    cut (are_bytes c.args.bytes.now c.type_inv.bytes) c.requires.flag c.in_ok-division.ensures c.after_floor.ensures c.split_at.ensures.back
    c.lists_len.ensures c.split_at-2.ensures.back c.split_at-2.ensures.by_index.0 c.in_ok-naming.ensures c.long.ensures.value
