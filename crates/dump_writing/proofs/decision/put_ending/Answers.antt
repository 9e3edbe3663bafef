use Rattle.std.proofs.Common.{ap, ◌∙◌, ◌++◌, Err, List, ℕ, refl}
use Rattle.std.specs.Prelude.{flat_map}
use Rattle.std.proofs.lemmas.Result.{err_from_is_err_and}
use Rattle.dump_format.specs.Text.{word, plan_text, move_text, ending_text}
use Rattle.dump_writing.proofs.Sending.{fails, goes_on}
use Rattle.dump_writing.proofs.decision.put_ending.Goals as goal

pub returns-in_err-put-clause-written : goal.returns-in_err-put-clause-written
returns-in_err-put-clause-written g c =
    let p = err_from_is_err_and c.from_residual.result c.from_residual.ensures.1 in
    let r = c.in-Some.recorded.now in
    let more = plan_text r ++ flat_map move_text r.decision.moves in
    fails _ _ c.to_be_bytes-2.result more _ c.in_err-put.field-0.0 c.from_residual.result
    (ap (λ (t : List ℕ). t ++ more) c.to_be_bytes-2.ensures ∙ ap ending_text c.in-Some.ensures.value) c.in_err-put.ensures.written (p.1 ∙ ap Err p.2)

pub returns-in_err-put_plan-clause-written : goal.returns-in_err-put_plan-clause-written
returns-in_err-put_plan-clause-written g c =
    let p = err_from_is_err_and c.from_residual-in_err-put_plan.result c.from_residual-in_err-put_plan.ensures.1 in
    let r = c.in-Some.recorded.now in
    let moves = flat_map move_text r.decision.moves in
    let more = plan_text r ++ moves in
    goes_on _ _ _ c.to_be_bytes-2.result more _ c.from_residual-in_err-put_plan.result
    (ap (λ (t : List ℕ). t ++ more) c.to_be_bytes-2.ensures ∙ ap ending_text c.in-Some.ensures.value) c.in_ok-put.ensures.written
    (fails _ _ (plan_text r) moves more c.in_err-put_plan.field-0.0 c.from_residual-in_err-put_plan.result refl c.in_err-put_plan.ensures.written (p.1 ∙ ap Err p.2))

pub returns-clause-written : goal.returns-clause-written
returns-clause-written g c =
    let r = c.in-Some.recorded.now in
    let moves = flat_map move_text c.as_slice.result.now in
    let more = plan_text r ++ moves in
    goes_on _ _ _ c.to_be_bytes-2.result more _ c.put_items.result
    (ap (λ (t : List ℕ). t ++ more) c.to_be_bytes-2.ensures
    ∙ ap (λ ms. word 1 ++ (plan_text r ++ flat_map move_text ms)) c.as_slice.ensures.value ∙ ap ending_text c.in-Some.ensures.value) c.in_ok-put.ensures.written
    (goes_on _ _ _ (plan_text r) moves more c.put_items.result refl c.in_ok-put_plan.ensures.written c.put_items.ensures.written)
