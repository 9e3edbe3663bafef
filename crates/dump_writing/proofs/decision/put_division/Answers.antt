use Rattle.std.proofs.Common.{ap, ◌∙◌, ◌++◌, Err, List, ℕ}
use Rattle.std.specs.Prelude.{flat_map}
use Rattle.std.proofs.lemmas.Result.{err_from_is_err_and}
use Rattle.dump_format.specs.Text.{word, floor_text}
use Rattle.dump_writing.specs.Parts.{division_text}
use Rattle.dump_writing.proofs.Sending.{fails, goes_on}
use Rattle.dump_writing.proofs.decision.put_division.Goals as goal

pub returns-in_err-put-clause-written : goal.returns-in_err-put-clause-written
unfolding division_text
returns-in_err-put-clause-written g c =
    let p = err_from_is_err_and c.from_residual.result c.from_residual.ensures.1 in
    let d = c.args.division.now in
    let more = flat_map word d.cuts ++ floor_text d.floor in
    fails _ _ c.to_be_bytes.result more _ c.in_err-put.field-0.0 c.from_residual.result
    (ap (λ (t : List ℕ). t ++ more) c.to_be_bytes.ensures) c.in_err-put.ensures.written (p.1 ∙ ap Err p.2)

pub returns-in_err-put_items-clause-written : goal.returns-in_err-put_items-clause-written
unfolding division_text
returns-in_err-put_items-clause-written g c =
    let p = err_from_is_err_and c.from_residual-in_err-put_items.result c.from_residual-in_err-put_items.ensures.1 in
    let d = c.args.division.now in
    let more = flat_map word d.cuts ++ floor_text d.floor in
    goes_on _ _ _ c.to_be_bytes.result more _ c.from_residual-in_err-put_items.result (ap (λ (t : List ℕ). t ++ more) c.to_be_bytes.ensures) c.in_ok-put.ensures.written
    (fails _ _ (flat_map word c.as_slice.result.now) (floor_text d.floor) more c.in_err-put_items.field-0.0
    c.from_residual-in_err-put_items.result (ap (λ (t : List ℕ). flat_map word t ++ floor_text d.floor) c.as_slice.ensures.value)
    c.in_err-put_items.ensures.written (p.1 ∙ ap Err p.2))

pub returns-clause-written : goal.returns-clause-written
unfolding division_text
returns-clause-written g c =
    let d = c.args.division.now in
    let more = flat_map word d.cuts ++ floor_text d.floor in
    goes_on _ _ _ c.to_be_bytes.result more _ c.put_floor.result (ap (λ (t : List ℕ). t ++ more) c.to_be_bytes.ensures) c.in_ok-put.ensures.written
    (goes_on _ _ _ (flat_map word c.as_slice.result.now) (floor_text d.floor) more c.put_floor.result
    (ap (λ (t : List ℕ). flat_map word t ++ floor_text d.floor) c.as_slice.ensures.value) c.in_ok-put_items.ensures.written c.put_floor.ensures.written)
