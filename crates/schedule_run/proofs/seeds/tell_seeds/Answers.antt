use Rattle.std.proofs.Common.{inl}
use Rattle.schedule_run.proofs.seeds.tell_seeds.Goals as goal

pub returns : goal.returns
returns g c =
    let told = rw (
      c.as_bytes.ensures.value,
      c.in-Ok-seeds_text.ensures.text,
      c.deref.ensures.value,
      c.first_fault.ensures.first,
      c.deref-2.ensures.value,
    ) at c.report_text.ensures.written in
    record { tried = inl (c.in-Ok.verdicts.items, c.in-Ok.ensures.verdicts, c.in-Ok.ensures.each, inl told) }
