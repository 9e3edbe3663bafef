use Rattle.std.proofs.Common.{ap, ◌∙◌, Err, List, ℕ}
use Rattle.std.specs.Int.{w64}
use Rattle.std.proofs.lemmas.Result.{err_from_is_err_and}
use Rattle.dump_format.specs.Text.{elements_text}
use Rattle.dump_writing.specs.Parts.{front_text}
use Rattle.dump_writing.proofs.Plans.{front_parts}
use Rattle.dump_writing.proofs.Sending.{fails, goes_on, spelled}
use Rattle.dump_writing.proofs.elements.put_front.Goals as goal

pub returns-in_err-put-clause-written : goal.returns-in_err-put-clause-written
returns-in_err-put-clause-written g c =
    let p = err_from_is_err_and c.from_residual.result c.from_residual.ensures.1 in
    let s = c.args.snapshot.now in
    fails _ _ c.head.result (elements_text w64 s.loads s.sizes) (front_text s) c.in_err-put.field-0.0 c.from_residual.result
    (front_parts s c.head.result c.as_slice-loads.result.now c.step.result c.procs.result c.step.ensures.value c.procs.ensures.value
    (c.as_slice-loads.ensures.value ∙ c.loads.ensures.value) c.head.ensures) c.in_err-put.ensures.written (p.1 ∙ ap Err p.2)

pub returns-clause-written : goal.returns-clause-written
returns-clause-written g c =
    let s = c.args.snapshot.now in
    goes_on _ _ _ c.head.result (elements_text w64 s.loads s.sizes) (front_text s) c.put_items.result
    (front_parts s c.head.result c.as_slice-loads.result.now c.step.result c.procs.result c.step.ensures.value c.procs.ensures.value
    (c.as_slice-loads.ensures.value ∙ c.loads.ensures.value) c.head.ensures) c.in_ok-put.ensures.written
    (spelled _ _ (elements_text w64 c.as_slice-loads.result.now c.as_slice-sizes.result.now) (elements_text w64 s.loads s.sizes) c.put_items.result
    (ap (λ (xs : List ℕ). elements_text w64 xs c.as_slice-sizes.result.now) (c.as_slice-loads.ensures.value ∙ c.loads.ensures.value)
    ∙ ap (elements_text w64 s.loads) (c.as_slice-sizes.ensures.value ∙ c.sizes.ensures.value)) c.put_items.ensures.written)
