use Rattle.std.proofs.Common.{◌<◌, ◌≤◌, refl, subst, arith}
use Rattle.chare_index.specs.declared.limits.TheConstants.Limits.{PES}
use Rattle.lb_dump.proofs.Partial.{index_breaks, number_from, present_breaks}
use Rattle.lb_dump.proofs.moves.judge_move.Goals as goal

pub returns-then-word-count-clause-broken : goal.returns-then-word-count-clause-broken
returns-then-word-count-clause-broken c =
    index_breaks c.args.count c.args.k c.args.bytes.now (omega arith) (subst (λ n. c.args.count ≤ n) c.word.ensures.value (omega arith))

pub returns-then-word-ge-PES-clause-broken : goal.returns-then-word-ge-PES-clause-broken
returns-then-word-ge-PES-clause-broken c =
    present_breaks c.args.count c.args.k c.args.bytes.now (omega arith) (subst (λ n. n < c.args.count) c.word.ensures.value (omega arith))
    (subst (λ n. PES ≤ n) (number_from c.args.bytes.now 4 4 c.word-2.result c.word-2.ensures.value refl) c.if-word-ge-PES.true)

pub returns-clause-present : goal.returns-clause-present
returns-clause-present c = λ _. subst (λ n. n < PES) (number_from c.args.bytes.now 4 4 c.word-2.result c.word-2.ensures.value refl) c.if-word-ge-PES.false
