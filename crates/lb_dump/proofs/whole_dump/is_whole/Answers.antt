use Rattle.std.proofs.Common.{◌≡◌, length, arith}
use Rattle.lb_dump.proofs.Standing.{found_element, found_head, found_moves, found_narrow, found_nothing, found_plan, told_by}
use Rattle.lb_dump.proofs.whole_dump.is_whole.Goals as goal

pub returns-in_default : goal.returns-in_default
returns-in_default g c =
    let held = c.args.held.now in
    found_head g.row.A.Denot held.head held.loads.items held.sizes.items held.plan held.moves.items held.begun.items c.requires.held c.in_default.is

pub returns-then-len-head : goal.returns-then-len-head
returns-then-len-head g c =
    let held = c.args.held.now in
    found_element g.row.A.Denot held.head held.loads.items held.sizes.items held.plan held.moves.items held.begun.items c.in-Some.head c.requires.held c.in-Some.is (omega arith)

pub returns-in-Begun : goal.returns-in-Begun
returns-in-Begun g c =
    let held = c.args.held.now in
    told_by c.is_narrow.result _ _ _ _ c.is_narrow.ensures
    (found_narrow g.row.A.Denot held.head held.loads.items held.sizes.items held.plan held.moves.items held.begun.items c.in-Some.head
    c.requires.held c.in-Some.is (omega arith) c.in-Begun.is)
    (found_plan g.row.A.Denot held.head held.loads.items held.sizes.items held.plan held.moves.items held.begun.items c.in-Some.head
    c.requires.held c.in-Some.is (omega arith) c.in-Begun.is)

pub returns-in-Nothing : goal.returns-in-Nothing
returns-in-Nothing g c =
    let held = c.args.held.now in
    found_nothing g.row.A.Denot held.head held.loads.items held.sizes.items held.plan held.moves.items held.begun.items c.requires.held c.in-Nothing.is

pub returns-in-Made : goal.returns-in-Made
returns-in-Made g c =
    let held = c.args.held.now in
    let many : c.len-in-Made.result ≡ length held.moves.items = omega arith in
    rw many (found_moves g.row.A.Denot held.head held.loads.items held.sizes.items held.plan held.moves.items held.begun.items
    c.in-Made.field-0 c.in-Made.all c.requires.held c.in-Made.is)
