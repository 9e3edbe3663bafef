use Rattle.std.proofs.Common.{inl, inr, sym, subst}
use Rattle.std.proofs.lemmas.List.{take_rest}
use Rattle.std.proofs.lemmas.Result.{err_from_is_err_and}
use Rattle.workload.specs.Machine.{Reaches, state_of}
use Rattle.workload.proofs.Runs.{reaches_none, reaches_more, reaches_on, reaches_stop}
use Rattle.workload.proofs.judge.Judge.feed.Goals as goal

pub loop-byte-init : goal.loop-byte-init
loop-byte-init g c = (reaches_none c.args.bytes.now (state_of c.args.self.now), c.requires.held)

pub returns-in_err-take : goal.returns-in_err-take
returns-in_err-take g c =
    let p = err_from_is_err_and c.from_residual.result c.from_residual.ensures.1 in
    let before = c.loop-byte.invariant.0 in
    record {
      fed = rw (p.1, p.2) (elim c.in_err-take.ensures.stepped [
        | inl (none, growing) ↦ inl (
          none,
          record {
            front = before.front;
            rest = c.loop-byte.rest.now;
            at = state_of c.loop-byte.self;
            split = before.split;
            came = before.came;
            growing = growing;
          },
        )
        | inr stops ↦ inr (reaches_stop c.args.bytes.now c.loop-byte.rest.now (state_of c.args.self.now) (state_of c.loop-byte.self) c.in-Some.byte.now
            c.in_err-take.field-0.0 before (sym c.in-Some.ensures.value) stops)
      ]);
    }

pub loop-byte-preserved : goal.loop-byte-preserved
loop-byte-preserved g c =
    let bytes = c.args.bytes.now in
    let rest = c.loop-byte.rest.now in
    let s = state_of c.args.self.now in
    let t = state_of c.take.new.self in
    let u = state_of c.take_numbers-rest.new.self in
    let last = c.take_numbers-rest.result.now in
    let taken = reaches_more bytes rest s (state_of c.loop-byte.self) t c.in-Some.byte.now c.loop-byte.invariant.0 (sym c.in-Some.ensures.value) c.in_ok-take.ensures.stepped.0 in
    let more = subst (λ r. Reaches r t last u) (take_rest rest 1) c.take_numbers-rest.ensures.taken in
    (reaches_on bytes _ last s t u taken more, c.take_numbers-rest.ensures.held)
