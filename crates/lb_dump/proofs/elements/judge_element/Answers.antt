use Rattle.std.proofs.Common.{◌<◌, ◌≤◌, subst, arith}
use Rattle.chare_index.specs.declared.limits.TheConstants.Limits.{LOAD, STATE_BYTES}
use Rattle.lb_dump.proofs.Partial.{load_breaks, number_from, size_at, size_breaks}
use Rattle.lb_dump.proofs.elements.judge_element.Goals as goal

pub returns-then-load_of-gt-LOAD-clause-broken : goal.returns-then-load_of-gt-LOAD-clause-broken
returns-then-load_of-gt-LOAD-clause-broken c =
    let at = size_at c.args.format c.load_len-len.result c.load_len-len.ensures.value in
    λ procs. load_breaks c.args.format procs c.args.i c.args.bytes.now (omega arith) (subst (λ n. LOAD < n) c.load_of.ensures.value c.if-load_of-gt-LOAD.true)

pub returns-then-word-gt-STATE_BYTES-clause-broken : goal.returns-then-word-gt-STATE_BYTES-clause-broken
returns-then-word-gt-STATE_BYTES-clause-broken c =
    let at = size_at c.args.format c.load_len-len.result c.load_len-len.ensures.value in
    λ procs. size_breaks c.args.format procs c.args.i c.args.bytes.now (omega arith) (subst (λ n. n ≤ LOAD) c.load_of.ensures.value c.if-load_of-gt-LOAD.false)
    (subst (λ n. STATE_BYTES < n) (number_from c.args.bytes.now c.load_len-len.result _ c.word.result c.word.ensures.value at) c.if-word-gt-STATE_BYTES.true)

pub returns-clause-size : goal.returns-clause-size
returns-clause-size c =
    let at = size_at c.args.format c.load_len-len.result c.load_len-len.ensures.value in
    λ _. subst (λ n. n ≤ STATE_BYTES) (number_from c.args.bytes.now c.load_len-len.result _ c.word.result c.word.ensures.value at) c.if-word-gt-STATE_BYTES.false
