use Rattle.std.proofs.Common.{arith, inr, ◌<◌, ◌≤◌, ◌+◌, ◌-◌, length, subst, sym, ◌∙◌}
use Rattle.std.proofs.lemmas.Bool.{MatchBool-at_false, MatchBool-at_true}
use Rattle.lb_dump.proofs.BegunPlans.{floored_by, waits_for_kind, waits_for_moves, whole_by}
use Rattle.lb_dump.proofs.PlanJudging.{IsOpened, broken_floor, broken_moves}
use Rattle.lb_dump.proofs.MadePlans.{made_by}
use Rattle.lb_dump.proofs.NumbersRead.{word_read}
use Rattle.lb_dump.proofs.plan_reading.read_lists.Goals as goal

pub returns-then-bytes-kind_at-clause-plan : goal.returns-then-bytes-kind_at-clause-plan
returns-then-bytes-kind_at-clause-plan g c =
    let known : IsOpened c.args.bytes.now c.args.target = record {
      long = c.requires.long;
      flag = c.requires.flag;
      target_is = sym c.requires.target;
      some_target = c.requires.some_target;
      few_targets = c.requires.few_targets;
    } in
    waits_for_kind c.args.count c.args.bytes.now c.args.target known (subst (λ n. length c.args.bytes.now < n + 4) c.kind_at-kind_at.ensures c.if-bytes-kind_at.true)

pub returns-then-not-is_kind-clause-broken : goal.returns-then-not-is_kind-clause-broken
returns-then-not-is_kind-clause-broken g c =
    let known : IsOpened c.args.bytes.now c.args.target = record {
      long = c.requires.long;
      flag = c.requires.flag;
      target_is = sym c.requires.target;
      some_target = c.requires.some_target;
      few_targets = c.requires.few_targets;
    } in
    inr (broken_floor c.args.count c.args.bytes.now c.args.target c.kind_at-kind_at.result c.word-kind.result known
    c.kind_at-kind_at.ensures c.if-bytes-kind_at.false
    (word_read c.args.bytes.now c.kind_at-kind_at.result c.word-kind.result c.word-kind.ensures.value)
    (MatchBool-at_false (c.word-kind.result ≤ 1) (1 < c.word-kind.result) c.if-not-is_kind.true c.is_kind.ensures))

pub returns-then-bytes-len-clause-plan : goal.returns-then-bytes-len-clause-plan
returns-then-bytes-len-clause-plan g c =
    let known : IsOpened c.args.bytes.now c.args.target = record {
      long = c.requires.long;
      flag = c.requires.flag;
      target_is = sym c.requires.target;
      some_target = c.requires.some_target;
      few_targets = c.requires.few_targets;
    } in
    let floored = floored_by c.args.bytes.now c.args.target c.kind_at-kind_at.result c.word-kind.result known c.kind_at-kind_at.ensures
    c.if-bytes-kind_at.false c.word-kind.ensures.value
    (MatchBool-at_true (c.word-kind.result ≤ 1) (1 < c.word-kind.result) c.if-not-is_kind.false c.is_kind.ensures) in
    waits_for_moves c.args.count c.args.bytes.now c.args.target c.word-kind.result floored
    (subst (λ n. length c.args.bytes.now < n) c.plan_len-len.ensures.value c.if-bytes-len.true)

pub returns-then-moves-count-clause-broken : goal.returns-then-moves-count-clause-broken
returns-then-moves-count-clause-broken g c =
    let known : IsOpened c.args.bytes.now c.args.target = record {
      long = c.requires.long;
      flag = c.requires.flag;
      target_is = sym c.requires.target;
      some_target = c.requires.some_target;
      few_targets = c.requires.few_targets;
    } in
    let floored = floored_by c.args.bytes.now c.args.target c.kind_at-kind_at.result c.word-kind.result known c.kind_at-kind_at.ensures
    c.if-bytes-kind_at.false c.word-kind.ensures.value
    (MatchBool-at_true (c.word-kind.result ≤ 1) (1 < c.word-kind.result) c.if-not-is_kind.false c.is_kind.ensures) in
    let whole = whole_by c.args.bytes.now c.args.target c.word-kind.result c.plan_len-len.result c.requires.begun floored c.plan_len-len.ensures.value c.if-bytes-len.false in
    let moves = word_read c.args.bytes.now (c.plan_len-len.result - 4) c.word-moves.result c.word-moves.ensures.value in
    let high : c.args.count < c.word-moves.result = omega arith in
    inr (broken_moves c.args.count c.args.bytes.now c.args.target c.word-kind.result c.plan_len-len.result c.word-moves.result floored whole
    c.plan_len-len.ensures.value moves high)

pub returns-clause-plan : goal.returns-clause-plan
returns-clause-plan g c =
    let known : IsOpened c.args.bytes.now c.args.target = record {
      long = c.requires.long;
      flag = c.requires.flag;
      target_is = sym c.requires.target;
      some_target = c.requires.some_target;
      few_targets = c.requires.few_targets;
    } in
    let floored = floored_by c.args.bytes.now c.args.target c.kind_at-kind_at.result c.word-kind.result known c.kind_at-kind_at.ensures
    c.if-bytes-kind_at.false c.word-kind.ensures.value
    (MatchBool-at_true (c.word-kind.result ≤ 1) (1 < c.word-kind.result) c.if-not-is_kind.false c.is_kind.ensures) in
    let whole = whole_by c.args.bytes.now c.args.target c.word-kind.result c.plan_len-len.result c.requires.begun floored c.plan_len-len.ensures.value c.if-bytes-len.false in
    let moves = word_read c.args.bytes.now (c.plan_len-len.result - 4) c.word-moves.result c.word-moves.ensures.value in
    made_by c.args.bytes.now c.args.count c.in_ok-recorded.recorded c.word-moves.result c.plan_len-len.result
    c.in_ok-recorded.ensures.spelled c.in_ok-recorded.ensures.recorded c.in_ok-recorded.ensures.fields c.in_ok-recorded.ensures.no_moves
    (whole ∙ sym c.plan_len-len.ensures.value) moves c.if-moves-count.false
