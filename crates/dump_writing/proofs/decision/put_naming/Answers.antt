use Rattle.std.proofs.Common.{ap, ◌∙◌, ◌++◌, Err, List, ℕ, ℤ, length}
use Rattle.std.specs.Prelude.{flat_map}
use Rattle.std.proofs.lemmas.Result.{err_from_is_err_and}
use Rattle.dump_format.specs.Text.{word, long, price}
use Rattle.lb_strategy.specs.declared.decision.Decision.{Decision}
use Rattle.dump_writing.specs.Parts.{naming_text}
use Rattle.dump_writing.proofs.Sending.{fails, goes_on, spelled}
use Rattle.dump_writing.proofs.decision.put_naming.Goals as goal

-- the text from its number of moves on, from the bytes moved, from the prices of the PEs, and from those of the blocks
abbrev from_count : {A : Type 0} → Decision A → List ℕ
from_count d = word (length d.moves)

abbrev from_moved : {A : Type 0} → Decision A → List ℕ
from_moved d = long d.moved ++ from_count d

abbrev from_pe_prices : {A : Type 0} → Decision A → List ℕ
from_pe_prices d = flat_map price d.prices.v ++ from_moved d

abbrev from_block_prices : {A : Type 0} → Decision A → List ℕ
from_block_prices d = flat_map price d.prices.u ++ from_pe_prices d

pub returns-in_err-put_items-clause-written : goal.returns-in_err-put_items-clause-written
unfolding naming_text
returns-in_err-put_items-clause-written g c =
    let d = c.args.decision.now in
    let p = err_from_is_err_and c.from_residual.result c.from_residual.ensures.1 in
    fails _ _ (flat_map word c.as_slice.result.now) (from_block_prices d) _ c.in_err-put_items.field-0.0 c.from_residual.result
    (ap (λ (t : List ℕ). flat_map word t ++ (from_block_prices d)) c.as_slice.ensures.value) c.in_err-put_items.ensures.written (p.1 ∙ ap Err p.2)

pub returns-in_err-put_items-2-clause-written : goal.returns-in_err-put_items-2-clause-written
unfolding naming_text
returns-in_err-put_items-2-clause-written g c =
    let d = c.args.decision.now in
    let p = err_from_is_err_and c.from_residual-in_err-put_items-2.result c.from_residual-in_err-put_items-2.ensures.1 in
    goes_on _ _ _ (flat_map word c.as_slice.result.now) (from_block_prices d) _ c.from_residual-in_err-put_items-2.result
    (ap (λ (t : List ℕ). flat_map word t ++ (from_block_prices d)) c.as_slice.ensures.value) c.in_ok-put_items.ensures.written
    (fails _ _ (flat_map price c.as_slice-2.result.now) (from_pe_prices d) (from_block_prices d) c.in_err-put_items-2.field-0.0
    c.from_residual-in_err-put_items-2.result (ap (λ (t : List ℤ). flat_map price t ++ (from_pe_prices d)) c.as_slice-2.ensures.value)
    c.in_err-put_items-2.ensures.written (p.1 ∙ ap Err p.2))

pub returns-in_err-put_items-3-clause-written : goal.returns-in_err-put_items-3-clause-written
unfolding naming_text
returns-in_err-put_items-3-clause-written g c =
    let d = c.args.decision.now in
    let p = err_from_is_err_and c.from_residual-in_err-put_items-3.result c.from_residual-in_err-put_items-3.ensures.1 in
    goes_on _ _ _ (flat_map word c.as_slice.result.now) (from_block_prices d) _ c.from_residual-in_err-put_items-3.result
    (ap (λ (t : List ℕ). flat_map word t ++ (from_block_prices d)) c.as_slice.ensures.value) c.in_ok-put_items.ensures.written
    (goes_on _ _ _ (flat_map price c.as_slice-2.result.now) (from_pe_prices d) (from_block_prices d)
    c.from_residual-in_err-put_items-3.result (ap (λ (t : List ℤ). flat_map price t ++ (from_pe_prices d)) c.as_slice-2.ensures.value)
    c.in_ok-put_items-2.ensures.written
    (fails _ _ (flat_map price c.as_slice-3.result.now) (from_moved d) (from_pe_prices d) c.in_err-put_items-3.field-0.0
    c.from_residual-in_err-put_items-3.result (ap (λ (t : List ℤ). flat_map price t ++ (from_moved d)) c.as_slice-3.ensures.value)
    c.in_err-put_items-3.ensures.written (p.1 ∙ ap Err p.2)))

pub returns-in_err-put-clause-written : goal.returns-in_err-put-clause-written
unfolding naming_text
returns-in_err-put-clause-written g c =
    let d = c.args.decision.now in
    let p = err_from_is_err_and c.from_residual-in_err-put.result c.from_residual-in_err-put.ensures.1 in
    goes_on _ _ _ (flat_map word c.as_slice.result.now) (from_block_prices d) _ c.from_residual-in_err-put.result
    (ap (λ (t : List ℕ). flat_map word t ++ (from_block_prices d)) c.as_slice.ensures.value) c.in_ok-put_items.ensures.written
    (goes_on _ _ _ (flat_map price c.as_slice-2.result.now) (from_pe_prices d) (from_block_prices d) c.from_residual-in_err-put.result
    (ap (λ (t : List ℤ). flat_map price t ++ (from_pe_prices d)) c.as_slice-2.ensures.value) c.in_ok-put_items-2.ensures.written
    (goes_on _ _ _ (flat_map price c.as_slice-3.result.now) (from_moved d) (from_pe_prices d) c.from_residual-in_err-put.result
    (ap (λ (t : List ℤ). flat_map price t ++ (from_moved d)) c.as_slice-3.ensures.value) c.in_ok-put_items-3.ensures.written
    (fails _ _ c.to_be_bytes.result (from_count d) (from_moved d) c.in_err-put.field-0.0 c.from_residual-in_err-put.result
    (ap (λ (t : List ℕ). t ++ (from_count d)) c.to_be_bytes.ensures) c.in_err-put.ensures.written (p.1 ∙ ap Err p.2))))

pub returns-clause-written : goal.returns-clause-written
unfolding naming_text
returns-clause-written g c =
    let d = c.args.decision.now in
    goes_on _ _ _ (flat_map word c.as_slice.result.now) (from_block_prices d) _ c.put-2.result
    (ap (λ (t : List ℕ). flat_map word t ++ (from_block_prices d)) c.as_slice.ensures.value) c.in_ok-put_items.ensures.written
    (goes_on _ _ _ (flat_map price c.as_slice-2.result.now) (from_pe_prices d) (from_block_prices d) c.put-2.result
    (ap (λ (t : List ℤ). flat_map price t ++ (from_pe_prices d)) c.as_slice-2.ensures.value) c.in_ok-put_items-2.ensures.written
    (goes_on _ _ _ (flat_map price c.as_slice-3.result.now) (from_moved d) (from_pe_prices d) c.put-2.result
    (ap (λ (t : List ℤ). flat_map price t ++ (from_moved d)) c.as_slice-3.ensures.value) c.in_ok-put_items-3.ensures.written
    (goes_on _ _ _ c.to_be_bytes.result (from_count d) (from_moved d) c.put-2.result (ap (λ (t : List ℕ). t ++ (from_count d)) c.to_be_bytes.ensures) c.in_ok-put.ensures.written
    (spelled _ _ c.to_be_bytes-2.result (from_count d) c.put-2.result (c.to_be_bytes-2.ensures ∙ ap (λ ms. word (length ms)) c.as_slice-4.ensures.value) c.put-2.ensures.written))))
