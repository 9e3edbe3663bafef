use Rattle.std.proofs.Common.{◌≡◌, ◌+◌, ◌*◌, ◌-◌, false, sym, subst}
use Rattle.std.proofs.lemmas.List.{take_rest}
use Rattle.workload.specs.declared.judge.Spot.TheVariants.{Number}
use Rattle.workload.specs.Faults.{is_whole}
use Rattle.workload.specs.Machine.{IsSpot, Reaches, State, is_full, state_of}
use Rattle.workload.proofs.Judged.{digit_more}
use Rattle.workload.proofs.Runs.{digit_step, reaches_none, reaches_more}
use Rattle.workload.proofs.judge.Judge.take_digits.Goals as goal

pub returns-in_default-clause-taken : goal.returns-in_default-clause-taken
returns-in_default-clause-taken g c = reaches_none c.args.bytes.now (state_of c.args.self.now)

pub returns-then-is_whole-clause-taken : goal.returns-then-is_whole-clause-taken
returns-then-is_whole-clause-taken g c = reaches_none c.args.bytes.now (state_of c.args.self.now)

pub loop-byte-init : goal.loop-byte-init
loop-byte-init g c =
    let s = state_of c.args.self.now in
    let spot = subst IsSpot c.in-Number.is c.requires.held.spot in
    record {
      taken = subst (λ at. Reaches c.args.bytes.now s c.args.bytes.now (record s { spot = at })) c.in-Number.is (reaches_none c.args.bytes.now s);
      few = spot.0;
      small = spot.1;
    }

pub loop-byte-preserved : goal.loop-byte-preserved
loop-byte-preserved g c =
    let s = state_of c.args.self.now in
    let before = c.loop-byte.invariant in
    let value = c.loop-byte.value in
    let digits = c.loop-byte.digits in
    let rest = c.loop-byte.rest.now in
    let b = c.in-Some.byte.now in
    let digit = sym c.if-not-is_ascii_digit.ensures.value in
    let free : is_full value digits ≡ false = sym c.if-is_full.ensures in
    let more : is_whole s.lines ≡ false = sym c.if-is_whole.ensures in
    let on = digit_more value digits b digit free before.few before.small in
    let at : State = record s { spot = Number value digits } in
    let next : State = record s { spot = Number (10 * value + (b - 48)) (digits + 1) } in
    let step = digit_step s.lines s.form value digits s.left s.row b more digit free in
    record {
      taken = subst (λ r. Reaches c.args.bytes.now s r next) (sym (take_rest rest 1))
          (reaches_more c.args.bytes.now rest s at next b before.taken (sym c.in-Some.ensures.value) step);
      few = on.0;
      small = on.1;
    }
