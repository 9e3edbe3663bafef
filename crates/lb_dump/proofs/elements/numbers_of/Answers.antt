use Rattle.std.proofs.Common.{◌∙◌, arith}
use Rattle.lb_dump.proofs.WholeElements.{AreRead, fault_judged, narrow_read, text_judged, wide_read, width_judged}
use Rattle.dump_format.proofs.Bytes.{are_bytes}
use Rattle.lb_dump.proofs.elements.numbers_of.Goals.{After-judged, After-judged-in-Lbd2}
use Rattle.lb_dump.proofs.elements.numbers_of.Goals as goal

narrow : (c : After-judged) → AreRead c.args.format c.args.element.now c.from-load.result c.word-size.result c.word-place.result
narrow c =
    narrow_read c.args.format c.args.element.now c.from-load.result c.word-size.result c.word-place.result c.in-Lbd1.is c.requires.whole
    (omega (arith, c.from-load.ensures, c.word.type_inv)) (c.from-load.ensures ∙ c.word.ensures.value)
    c.word-size.ensures.value c.word-place.ensures.value

wide : (c : After-judged-in-Lbd2) → AreRead c.args.format c.args.element.now c.long-load.result c.word-size-in-Lbd2.result c.word-place-in-Lbd2.result
wide c =
    wide_read c.args.format c.args.element.now c.long-load.result c.word-size-in-Lbd2.result c.word-place-in-Lbd2.result c.in-Lbd2.is
    c.requires.whole c.long-load.type_inv c.long-load.ensures.value
    c.word-size-in-Lbd2.ensures.value c.word-place-in-Lbd2.ensures.value

pub returns-in-Lbd1-clause-spelled : goal.returns-in-Lbd1-clause-spelled
returns-in-Lbd1-clause-spelled c =
    text_judged c.args.format c.args.element.now c.from-load.result c.word-size.result c.word-place.result c.judged.result
    (are_bytes c.args.element.now c.type_inv.element) (narrow c) c.judged.ensures.numbers

pub returns-in-Lbd1-clause-fits : goal.returns-in-Lbd1-clause-fits
returns-in-Lbd1-clause-fits c =
    width_judged c.args.format c.args.element.now c.from-load.result c.word-size.result c.word-place.result c.judged.result (narrow c) c.judged.ensures.numbers

pub returns-in-Lbd2-clause-fits : goal.returns-in-Lbd2-clause-fits
returns-in-Lbd2-clause-fits c =
    width_judged c.args.format c.args.element.now c.long-load.result c.word-size-in-Lbd2.result c.word-place-in-Lbd2.result
    c.judged-in-Lbd2.result (wide c) c.judged-in-Lbd2.ensures.numbers

pub returns-in-Lbd1-clause-broken : goal.returns-in-Lbd1-clause-broken
returns-in-Lbd1-clause-broken c =
    fault_judged c.args.format c.args.procs c.args.i c.args.element.now c.from-load.result c.word-size.result c.word-place.result c.judged.result (narrow c) c.judged.ensures.fault

pub returns-in-Lbd2-clause-spelled : goal.returns-in-Lbd2-clause-spelled
returns-in-Lbd2-clause-spelled c =
    text_judged c.args.format c.args.element.now c.long-load.result c.word-size-in-Lbd2.result c.word-place-in-Lbd2.result
    c.judged-in-Lbd2.result (are_bytes c.args.element.now c.type_inv.element) (wide c) c.judged-in-Lbd2.ensures.numbers

pub returns-in-Lbd2-clause-broken : goal.returns-in-Lbd2-clause-broken
returns-in-Lbd2-clause-broken c =
    fault_judged c.args.format c.args.procs c.args.i c.args.element.now c.long-load.result c.word-size-in-Lbd2.result
    c.word-place-in-Lbd2.result c.judged-in-Lbd2.result (wide c) c.judged-in-Lbd2.ensures.fault
