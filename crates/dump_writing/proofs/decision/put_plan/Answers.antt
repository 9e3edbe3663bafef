use Rattle.std.proofs.Common.{ap, ◌∙◌, ◌++◌, Err, List, ℕ, refl}
use Rattle.std.proofs.lemmas.Result.{err_from_is_err_and}
use Rattle.dump_format.specs.Text.{plan_text}
use Rattle.dump_writing.specs.Parts.{division_text, naming_text}
use Rattle.dump_writing.proofs.Plans.{plan_parts}
use Rattle.dump_writing.proofs.Sending.{fails, goes_on}
use Rattle.dump_writing.proofs.decision.put_plan.Goals as goal

pub returns-in_err-put-clause-written : goal.returns-in_err-put-clause-written
returns-in_err-put-clause-written g c =
    let p = err_from_is_err_and c.from_residual.result c.from_residual.ensures.1 in
    let r = c.args.recorded.now in
    let more = division_text r.decision.division ++ naming_text r.decision in
    fails _ _ c.to_be_bytes.result more (plan_text r) c.in_err-put.field-0.0 c.from_residual.result
    (ap (λ (t : List ℕ). t ++ more) c.to_be_bytes.ensures ∙ plan_parts r) c.in_err-put.ensures.written (p.1 ∙ ap Err p.2)

pub returns-in_err-put_division-clause-written : goal.returns-in_err-put_division-clause-written
returns-in_err-put_division-clause-written g c =
    let p = err_from_is_err_and c.from_residual-in_err-put_division.result c.from_residual-in_err-put_division.ensures.1 in
    let r = c.args.recorded.now in
    let more = division_text r.decision.division ++ naming_text r.decision in
    goes_on _ _ _ c.to_be_bytes.result more (plan_text r) c.from_residual-in_err-put_division.result
    (ap (λ (t : List ℕ). t ++ more) c.to_be_bytes.ensures ∙ plan_parts r) c.in_ok-put.ensures.written
    (fails _ _ (division_text r.decision.division) (naming_text r.decision) more c.in_err-put_division.field-0.0
    c.from_residual-in_err-put_division.result refl c.in_err-put_division.ensures.written (p.1 ∙ ap Err p.2))

pub returns-clause-written : goal.returns-clause-written
returns-clause-written g c =
    let r = c.args.recorded.now in
    let more = division_text r.decision.division ++ naming_text r.decision in
    goes_on _ _ _ c.to_be_bytes.result more (plan_text r) c.put_naming.result (ap (λ (t : List ℕ). t ++ more) c.to_be_bytes.ensures ∙ plan_parts r) c.in_ok-put.ensures.written
    (goes_on _ _ _ (division_text r.decision.division) (naming_text r.decision) more c.put_naming.result refl c.in_ok-put_division.ensures.written c.put_naming.ensures.written)
