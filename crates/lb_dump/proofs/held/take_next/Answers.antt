use Rattle.std.proofs.Common.{◌≡◌, ◌∙◌, ◌≤◌, length, inr, sym, arith}
use Rattle.dump_format.specs.Fields.{dump}
use Rattle.lb_dump.specs.Held.{text_of}
use Rattle.dump_format.specs.Layout.{Unfinished, Whole}
use Rattle.lb_dump.proofs.GoodHeads.{good_behind_head}
use Rattle.lb_dump.proofs.Standing.{all_elements, move_missing, plan_begun, plan_missing}
use Rattle.lb_dump.proofs.Steps.{whole_trails}
use Rattle.lb_dump.proofs.held.take_next.Goals as goal

pub returns-then-is_whole-clause-broken : goal.returns-then-is_whole-clause-broken
returns-then-is_whole-clause-broken g c = inr (whole_trails dump (text_of c.args.held.now) c.args.bytes.now c.requires.some c.if-is_whole.ensures)

pub take_move_bytes-requires-clause-missing : goal.take_move_bytes-requires-clause-missing
take_move_bytes-requires-clause-missing g c =
    let held = c.args.held.now in
    move_missing g.row.A.Denot held.head held.loads.items held.sizes.items held.plan held.moves.items held.begun.items c.in-Made.field-0
    c.in-Made.all c.requires.held c.in-Made.is c.if-is_whole.ensures

pub take_plan-requires : goal.take_plan-requires
take_plan-requires g c =
    let held = c.args.held.now in
    let enough : c.in-Some.head.count ≤ length held.loads.items = omega arith in
    let fresh = plan_begun g.row.A.Denot held.head held.loads.items held.sizes.items held.plan held.moves.items held.begun.items
    c.requires.held c.in-Begun.is c.if-is_whole.ensures in
    record {
      held = c.requires.held;
      headed = c.in-Some.is;
      all = all_elements g.row.A.Denot held.head held.loads.items held.sizes.items held.plan held.moves.items held.begun.items c.in-Some.head c.requires.held c.in-Some.is enough;
      wide = plan_missing g.row.A.Denot held.head held.loads.items held.sizes.items held.plan held.moves.items held.begun.items
          c.in-Some.head c.requires.held c.in-Some.is enough fresh c.if-is_whole.ensures;
      begun = fresh;
      some = c.requires.some;
    }

pub returns-then-len-head-clause-head_first : goal.returns-then-len-head-clause-head_first
returns-then-len-head-clause-head_first g c refused =
    let held = c.args.held.now in
    good_behind_head g.row.A.Denot held.head held.loads.items held.sizes.items held.plan held.moves.items held.begun.items c.args.bytes.now
    c.in-Some.head c.requires.held c.in-Some.is

pub returns-in-Made-clause-head_first : goal.returns-in-Made-clause-head_first
returns-in-Made-clause-head_first g c refused =
    let held = c.args.held.now in
    good_behind_head g.row.A.Denot held.head held.loads.items held.sizes.items held.plan held.moves.items held.begun.items c.args.bytes.now
    c.in-Some.head c.requires.held c.in-Some.is

pub returns-in-Begun : goal.returns-in-Begun
returns-in-Begun g c =
    let held = c.args.held.now in
    record {
      taken = c.take_plan.ensures.taken;
      shorter = c.take_plan.ensures.shorter;
      broken = c.take_plan.ensures.broken;
      trailing = λ whole. absurd (let both : Whole ≡ Unfinished = sym whole ∙ c.if-is_whole.ensures in cc);
      head_first = λ refused. good_behind_head g.row.A.Denot held.head held.loads.items held.sizes.items held.plan held.moves.items
          held.begun.items c.args.bytes.now c.in-Some.head c.requires.held c.in-Some.is;
    }
