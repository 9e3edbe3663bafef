use Rattle.std.proofs.Common.{◌≤◌, ◌∙◌, refl, subst, arith}
use Rattle.chare_index.specs.declared.limits.TheConstants.Limits.{PES}
use Rattle.lb_dump.proofs.Partial.{number_from, planned_breaks}
use Rattle.dump_format.proofs.Bytes.{are_bytes}
use Rattle.lb_dump.proofs.Respelled.{three_words}
use Rattle.lb_dump.proofs.moves.move_of.Goals as goal

pub returns-then-planned-ge-PES-clause-broken : goal.returns-then-planned-ge-PES-clause-broken
returns-then-planned-ge-PES-clause-broken c =
    planned_breaks c.args.count c.args.k c.args.bytes.now (omega (arith, c.requires.whole))
    (c.in_ok-judge_move.ensures.index (omega (arith, c.requires.whole))) (c.in_ok-judge_move.ensures.present (omega (arith, c.requires.whole)))
    (subst (λ n. PES ≤ n) (number_from c.args.bytes.now 8 8 c.word-planned.result c.word-planned.ensures.value refl) c.if-planned-ge-PES.true)

pub returns-clause-spelled : goal.returns-clause-spelled
returns-clause-spelled c =
    three_words c.args.bytes.now c.index.result c.pe.result c.pe-2.result c.requires.whole (are_bytes c.args.bytes.now c.type_inv.bytes)
    (c.index.ensures ∙ c.word.ensures.value)
    (c.pe.ensures ∙ number_from c.args.bytes.now 4 4 c.word-2.result c.word-2.ensures.value refl)
    (c.pe-2.ensures ∙ number_from c.args.bytes.now 8 8 c.word-planned.result c.word-planned.ensures.value refl)

pub returns-clause-index : goal.returns-clause-index
returns-clause-index c = omega (arith, c.index.ensures, c.word.ensures.value, c.in_ok-judge_move.ensures.index (omega (arith, c.requires.whole)))
