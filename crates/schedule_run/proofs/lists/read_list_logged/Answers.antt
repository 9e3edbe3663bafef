use Rattle.schedule_run.proofs.ListFaults.{list_refused, passed_on}
use Rattle.schedule_run.proofs.lists.read_list_logged.Goals as goal

pub returns-clause-reads : goal.returns-clause-reads
returns-clause-reads g c =
    list_refused _ _ c.in_ok-bytes.bytes.items c.in-Err.error c.in_ok-bytes.ensures.bytes c.in_ok-bytes.ensures.ended
    (rw c.deref.ensures.value at c.in-Err.ensures.answer)

pub returns-in_err-bytes-clause-failed : goal.returns-in_err-bytes-clause-failed
returns-in_err-bytes-clause-failed g c = passed_on _ c.in_err-bytes.field-0.0 _ _ c.from_residual.ensures.1 c.in_err-bytes.ensures.failed
