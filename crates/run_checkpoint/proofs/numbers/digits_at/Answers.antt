use Rattle.std.proofs.Common.{◌∙◌, ◌-◌, ◌*◌, ◌+◌, ap, sym}
use Rattle.std.proofs.lemmas.List.{take_rest}
use Rattle.run_checkpoint.specs.Scanning.{digits_at}
use Rattle.run_checkpoint.proofs.Digits.{NoDigit, more_small, past_front, more_front, plain_front, no_front, ends, ends_none, room_for_more}
use Rattle.run_checkpoint.proofs.numbers.digits_at.Goals.{in-Some+then-not-is_ascii_digit, in_default}
use Rattle.run_checkpoint.proofs.numbers.digits_at.Goals as goal

pub returns-then-is_full : goal.returns-then-is_full
returns-then-is_full c =
    sym c.loop-byte.invariant.0
    ∙ past_front c.loop-byte.rest.now c.loop-byte.value c.loop-byte.digits c.in-Some.byte.now c.in-Some.ensures.value (sym c.if-not-is_ascii_digit.ensures.value)
    (sym c.if-is_full.ensures)

pub loop-byte-preserved : goal.loop-byte-preserved
loop-byte-preserved c =
    let before = c.loop-byte.invariant in
    let digit = c.if-not-is_ascii_digit.ensures.value in (
      ap (digits_at (10 * c.loop-byte.value + (c.in-Some.byte.now - 48)) (c.loop-byte.digits + 1)) (take_rest c.loop-byte.rest.now 1)
          ∙ sym (more_front c.loop-byte.rest.now c.loop-byte.value c.loop-byte.digits c.in-Some.byte.now c.in-Some.ensures.value (sym digit) (sym c.if-is_full.ensures)) ∙ before.0,
      room_for_more c.loop-byte.value c.loop-byte.digits (sym c.if-is_full.ensures) before.1,
      more_small c.loop-byte.value c.loop-byte.digits c.in-Some.byte.now before.2 (sym digit),
    )

pub returns-then-digits-eq0 : goal.returns-then-digits-eq0
returns-then-digits-eq0 c =
    let plain : NoDigit c.loop-byte.rest.now = elim c.match-first.branch [
      | in-Some+then-not-is_ascii_digit w ↦ plain_front c.loop-byte.rest.now w.in-Some.byte.now w.in-Some.ensures.value (sym w.if-not-is_ascii_digit.ensures.value)
      | in_default w ↦ no_front c.loop-byte.rest.now w.in_default.ensures.value
    ] in
    sym c.loop-byte.invariant.0 ∙ ends_none c.loop-byte.rest.now c.loop-byte.value c.loop-byte.digits plain c.if-digits-eq0.true

pub returns : goal.returns
returns c =
    let plain : NoDigit c.loop-byte.rest.now = elim c.match-first.branch [
      | in-Some+then-not-is_ascii_digit w ↦ plain_front c.loop-byte.rest.now w.in-Some.byte.now w.in-Some.ensures.value (sym w.if-not-is_ascii_digit.ensures.value)
      | in_default w ↦ no_front c.loop-byte.rest.now w.in_default.ensures.value
    ] in
    sym c.loop-byte.invariant.0 ∙ ends c.loop-byte.value c.loop-byte.digits c.loop-byte.rest.now c.if-digits-eq0.false plain
