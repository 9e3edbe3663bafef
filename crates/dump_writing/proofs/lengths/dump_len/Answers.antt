use Rattle.std.proofs.Common.{arith, ap, ◌∙◌, length}
use Rattle.lb_snapshot.specs.Measured.{Taken}
use Rattle.dump_writing.proofs.Counting.{few_recorded, length_without, length_with}
use Rattle.dump_writing.proofs.lengths.dump_len.Goals as goal

pub overflow_add-result-in-Some-2 : goal.overflow_add-result-in-Some-2
overflow_add-result-in-Some-2 g c = omega (arith, c.len.ensures.few, c.plan_len.ensures.short)

pub overflow_add-result-in-Some-3 : goal.overflow_add-result-in-Some-3
overflow_add-result-in-Some-3 g c =
    omega (
      arith,
      c.len.ensures.few,
      c.plan_len.ensures.short,
      few_recorded c.args.dump.now c.in-Some.recorded.now c.snapshot.ensures.consistent c.in-Some.ensures.value,
      ap length c.as_slice-moves.ensures.value,
    )

pub returns-in-None : goal.returns-in-None
returns-in-None g c =
    length_without c.args.dump.now c.len.result c.snapshot.ensures.consistent
    (c.len.ensures.value ∙ ap length c.loads.ensures.value ∙ ap (λ (s : Taken). length s.loads) c.snapshot.ensures.value) c.in-None.ensures.value

pub returns-in-Some : goal.returns-in-Some
returns-in-Some g c =
    length_with c.args.dump.now c.in-Some.recorded.now c.len.result c.plan_len.result (length c.as_slice-moves.result.now)
    c.snapshot.ensures.consistent (c.len.ensures.value ∙ ap length c.loads.ensures.value
    ∙ ap (λ (s : Taken). length s.loads) c.snapshot.ensures.value) c.in-Some.ensures.value c.plan_len.ensures.value
    (ap length c.as_slice-moves.ensures.value)
