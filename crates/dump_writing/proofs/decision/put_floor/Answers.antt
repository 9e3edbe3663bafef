use Rattle.std.proofs.Common.{ap, sym, ◌∙◌, ◌++◌, Err, List, ℕ}
use Rattle.std.specs.Prelude.{flat_map}
use Rattle.std.proofs.lemmas.Result.{err_from_is_err_and}
use Rattle.dump_format.specs.Text.{word, floor_text}
use Rattle.dump_writing.proofs.Sending.{fails, goes_on, spelled}
use Rattle.dump_writing.proofs.decision.put_floor.Goals as goal

pub returns-in-Zero-clause-written : goal.returns-in-Zero-clause-written
returns-in-Zero-clause-written g c = spelled _ _ c.to_be_bytes.result _ c.put.result (c.to_be_bytes.ensures ∙ sym (ap floor_text c.in-Zero.is)) c.put.ensures.written

pub returns-in_err-put-in-Fence-clause-written : goal.returns-in_err-put-in-Fence-clause-written
returns-in_err-put-in-Fence-clause-written g c =
    let p = err_from_is_err_and c.from_residual.result c.from_residual.ensures.1 in
    let stops = flat_map word c.in-Fence.stops in
    fails _ _ c.to_be_bytes-in-Fence.result stops _ c.in_err-put-in-Fence.field-0.0 c.from_residual.result
    (ap (λ (t : List ℕ). t ++ stops) c.to_be_bytes-in-Fence.ensures ∙ sym (ap floor_text c.in-Fence.is)) c.in_err-put-in-Fence.ensures.written (p.1 ∙ ap Err p.2)

pub returns-in_ok-put-in-Fence-clause-written : goal.returns-in_ok-put-in-Fence-clause-written
returns-in_ok-put-in-Fence-clause-written g c =
    let stops = flat_map word c.as_slice.result.now in
    goes_on _ _ _ c.to_be_bytes-in-Fence.result stops _ c.put_items.result
    (ap (λ (t : List ℕ). t ++ stops) c.to_be_bytes-in-Fence.ensures
    ∙ ap (λ (s : List ℕ). word 1 ++ flat_map word s) c.as_slice.ensures.value ∙ sym (ap floor_text c.in-Fence.is))
    c.in_ok-put-in-Fence.ensures.written c.put_items.ensures.written
