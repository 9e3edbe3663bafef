use Rattle.std.proofs.Common.{arith, inr, ◌≡◌, ◌<◌, ◌≤◌, ◌⊎◌, subst, sym, ◌∙◌}
use Rattle.std.proofs.lemmas.Bool.{MatchBool-at_false}
use Rattle.chare_index.specs.declared.limits.TheConstants.Limits.{PES}
use Rattle.lb_dump.proofs.BegunPlans.{waits_for_flag, waits_for_target}
use Rattle.lb_dump.proofs.PlanJudging.{broken_flag, broken_target}
use Rattle.lb_dump.proofs.NumbersRead.{word_read}
use Rattle.lb_dump.proofs.plan_reading.read_plan.Goals as goal

pub returns-then-bytes-lt-TARGET_AT-clause-plan : goal.returns-then-bytes-lt-TARGET_AT-clause-plan
returns-then-bytes-lt-TARGET_AT-clause-plan g c = waits_for_flag c.args.count c.args.bytes.now c.if-bytes-lt-TARGET_AT.true

pub returns-in_default-clause-broken : goal.returns-in_default-clause-broken
returns-in_default-clause-broken g c =
    let high : 1 < c.word.result = omega arith in
    inr (broken_flag c.args.count c.args.bytes.now c.if-bytes-lt-TARGET_AT.false (subst (λ n. 1 < n) c.word.ensures.value high))

pub returns-then-bytes-clause-plan : goal.returns-then-bytes-clause-plan
returns-then-bytes-clause-plan g c = waits_for_target c.args.count c.args.bytes.now c.if-bytes-lt-TARGET_AT.false c.if-bytes.true (sym c.word.ensures.value ∙ c.in-1.is)

pub returns-then-not-is_target-clause-broken : goal.returns-then-not-is_target-clause-broken
returns-then-not-is_target-clause-broken g c =
    let target = word_read c.args.bytes.now 4 c.word-target.result c.word-target.ensures.value in
    inr (broken_target c.args.count c.args.bytes.now c.word-target.result c.if-bytes.false (sym c.word.ensures.value ∙ c.in-1.is) target
    (MatchBool-at_false ((0 < c.word-target.result) × (c.word-target.result ≤ PES))
    ((c.word-target.result ≡ 0) ⊎ (PES < c.word-target.result)) c.if-not-is_target.true c.is_target.ensures))

pub read_lists-requires-clause-flag : goal.read_lists-requires-clause-flag
read_lists-requires-clause-flag g c = sym c.word.ensures.value ∙ c.in-1.is
