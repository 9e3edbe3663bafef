use Rattle.std.proofs.Common.{◌+◌, ap, inl, inr, ◌∙◌}
use Rattle.lb_dump.specs.Plans.{kind_at, plan_len, target_in, word_at}
use Rattle.lb_dump.proofs.BegunPlans.{begun_to_end, begun_to_flag, begun_to_kind, begun_to_target}
use Rattle.lb_dump.proofs.NumbersRead.{word_read}
use Rattle.lb_dump.proofs.plan_reading.plan_end.Goals as goal

pub returns-then-begun-lt-TARGET_AT-clause-allowed : goal.returns-then-begun-lt-TARGET_AT-clause-allowed
returns-then-begun-lt-TARGET_AT-clause-allowed c rest fits = begun_to_flag c.args.begun.now rest fits

pub returns-then-begun-clause-allowed : goal.returns-then-begun-clause-allowed
returns-then-begun-clause-allowed c = begun_to_target c.args.begun.now c.requires c.if-begun-lt-TARGET_AT.false

pub returns-then-begun-kind_at-clause-allowed : goal.returns-then-begun-kind_at-clause-allowed
returns-then-begun-kind_at-clause-allowed c =
    let target = word_read c.args.begun.now 4 c.word-target.result c.word-target.ensures.value in
    begun_to_kind c.args.begun.now c.word-target.result c.kind_at-kind_at.result c.requires c.if-begun.false target c.kind_at-kind_at.ensures

pub returns-clause-allowed : goal.returns-clause-allowed
returns-clause-allowed c =
    let target = word_read c.args.begun.now 4 c.word-target.result c.word-target.ensures.value in
    let kind = word_read c.args.begun.now c.kind_at-kind_at.result c.word.result c.word.ensures.value in
    begun_to_end c.args.begun.now c.word-target.result c.word.result c.kind_at-kind_at.result c.plan_len.result c.requires target
    c.kind_at-kind_at.ensures kind c.if-begun-kind_at.false c.plan_len.ensures.value

pub returns-then-begun-kind_at-clause-rule : goal.returns-then-begun-kind_at-clause-rule
returns-then-begun-kind_at-clause-rule c =
    let target = word_read c.args.begun.now 4 c.word-target.result c.word-target.ensures.value in
    inr (inr (inl (ap (λ n. n + 4) (c.kind_at-kind_at.ensures ∙ ap kind_at target))))

pub returns-clause-rule : goal.returns-clause-rule
returns-clause-rule c =
    let begun = c.args.begun.now in
    let target = word_read begun 4 c.word-target.result c.word-target.ensures.value in
    let kind = word_read begun c.kind_at-kind_at.result c.word.result c.word.ensures.value in
    let at = c.kind_at-kind_at.ensures ∙ ap kind_at target in
    inr (inr (inr (c.plan_len.ensures.value ∙ ap (λ t. plan_len t c.word.result) target ∙ ap (plan_len (target_in begun)) (kind ∙ ap (word_at begun) at))))
