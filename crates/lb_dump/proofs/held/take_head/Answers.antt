use Rattle.std.proofs.Common.{◌≡◌, ◌∙◌, ◌++◌, inr, subst, sym, arith}
use Rattle.std.proofs.lemmas.Result.{err_from_is_err_and}
use Rattle.dump_format.proofs.OnlyFaults.{only_text_faults}
use Rattle.dump_format.specs.Faults.{IsBroken}
use Rattle.dump_format.specs.declared.error.DumpError.TheVariants.{OutOfMemory}
use Rattle.lb_dump.proofs.GoodHeads.{good_in_head}
use Rattle.lb_dump.proofs.PlanSteps.{head_breaks, head_ends}
use Rattle.lb_dump.proofs.held.take_head.Goals as goal

pub returns-in_err-head-clause-broken : goal.returns-in_err-head-clause-broken
returns-in_err-head-clause-broken g c =
    let held = c.args.held.now in
    let p = err_from_is_err_and c.from_residual.result c.from_residual.ensures.1 in
    let broken = rw c.deref.ensures.value at c.in_err-head.ensures.answer in
    rw (p.1, p.2) (inr (head_breaks g.row.A.Denot held.head held.loads.items held.sizes.items held.plan held.moves.items held.begun.items
    c.args.bytes.now c.requires.held c.requires.headless c.split_at.result.0.now c.split_at.result.1.now _ c.split_at.ensures.by_index.0 broken))

pub returns-clause-taken : goal.returns-clause-taken
returns-clause-taken g c =
    let held = c.args.held.now in
    let answer = rw (c.in-Some.is, c.deref.ensures.value) at c.in_ok-head.ensures.answer in
    rw c.clear.ensures.items (head_ends g.row.A.Denot held.head held.loads.items held.sizes.items held.plan held.moves.items
    held.begun.items c.args.bytes.now c.requires.held c.requires.headless c.in-Some.head c.split_at.result.0.now c.split_at.result.1.now
    c.split_at.ensures.by_index.0 answer.0 answer.1)

pub returns-in_err-head-clause-head_first : goal.returns-in_err-head-clause-head_first
returns-in_err-head-clause-head_first g c refused =
    let text = c.args.held.now.begun.items ++ c.split_at.result.0.now in
    let p = err_from_is_err_and c.from_residual.result c.from_residual.ensures.1 in
    let broken = rw c.deref.ensures.value at c.in_err-head.ensures.answer in
    let memory : p.0 ≡ OutOfMemory = (let same = sym p.1 ∙ refused in cc) in
    absurd (only_text_faults text OutOfMemory (subst (λ e. IsBroken text e) (sym p.2 ∙ memory) broken))

pub returns-in_err-extend_from_slice-clause-head_first : goal.returns-in_err-extend_from_slice-clause-head_first
returns-in_err-extend_from_slice-clause-head_first g c refused =
    let held = c.args.held.now in
    let answer = rw (c.in_default.is, c.deref.ensures.value) at c.in_ok-head.ensures.answer in
    good_in_head g.row.A.Denot held.head held.loads.items held.sizes.items held.plan held.moves.items held.begun.items c.args.bytes.now
    c.split_at.result.0.now c.split_at.result.1.now c.requires.held c.requires.headless c.split_at.ensures.by_index.0
    (omega (arith, c.split_at.ensures.front_len)) answer.0 answer.1
