use Rattle.std.proofs.Common.{refl, sym, subst}
use Rattle.std.proofs.lemmas.List.{take_rest}
use Rattle.workload.specs.Machine.{Reaches, state_of}
use Rattle.workload.specs.declared.form.TheConstants.{BLANK}
use Rattle.workload.proofs.Runs.{reaches_none, reaches_more, reaches_on}
use Rattle.workload.proofs.judge.Judge.take_numbers.Goals as goal

pub loop-self-init : goal.loop-self-init
loop-self-init g c = (reaches_none c.take_digits-rest.result.now (state_of c.take_digits-rest.new.self), c.take_digits-rest.ensures.held)

pub loop-self-preserved : goal.loop-self-preserved
loop-self-preserved g c =
    let digits = c.take_digits-rest in
    let first = digits.result.now in
    let rest = c.loop-self.rest.now in
    let s = state_of digits.new.self in
    let t = state_of c.take_blank.new.self in
    let on = c.take_digits-rest-in-loop-self in
    let u = state_of on.new.self in
    let blank = c.loop-self-test.ensures.taken refl in
    let taken = reaches_more first rest s (state_of c.loop-self.self) t BLANK c.loop-self.invariant.0 blank.0 blank.1 in
    let more = subst (λ r. Reaches r t on.result.now u) (take_rest rest 1) on.ensures.taken in
    (reaches_on first _ on.result.now s t u taken more, on.ensures.held)

pub returns-clause-taken : goal.returns-clause-taken
returns-clause-taken g c =
    let digits = c.take_digits-rest in
    let first = digits.result.now in
    let rest = c.loop-self.rest.now in
    let t = state_of digits.new.self in
    let whole = reaches_on c.args.bytes.now first rest (state_of c.args.self.now) t (state_of c.loop-self.self) digits.ensures.taken c.loop-self.invariant.0 in
    subst (λ u. Reaches c.args.bytes.now (state_of c.args.self.now) rest u) (sym (c.loop-self-test.ensures.left refl)) whole
