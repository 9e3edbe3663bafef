use Rattle.std.proofs.Common.{◌≡◌, ◌++◌, List, [], ◌∷◌, ℕ, ap, map, sym, ◌∙◌}
use Rattle.std.specs.Prelude.{codes, Vec}
use Rattle.std.specs.List.{flat_map}
use Rattle.workload.specs.Text.{amounts_text, line, WorkloadView}
use Rattle.run_checkpoint.proofs.WrittenParts.{after, fails, spelled, pieces_of}
use Rattle.run_checkpoint.proofs.writing.put_workload.Goals as goal

-- the text from the rounds on, from the padding, and from the chares
abbrev from_amounts : WorkloadView → List ℕ
from_amounts w = flat_map amounts_text w.amounts

abbrev from_chares : WorkloadView → List ℕ
from_chares w = line (codes "chares") (w.chares ∷ []) ++ from_amounts w

abbrev from_pad : WorkloadView → List ℕ
from_pad w = line (codes "pad") (w.pad ∷ []) ++ from_chares w

abbrev from_rounds : WorkloadView → List ℕ
from_rounds w = line (codes "rounds") (w.rounds ∷ []) ++ from_pad w

pub returns-in_err-put_line : goal.returns-in_err-put_line
returns-in_err-put_line g c =
    let w = c.args.workload.now in
    let pes : c.workload.inside.pes ≡ w.pes = ap (λ v. v.pes) c.workload.view_is in
    fails _ _ _ (line (codes "pes") (w.pes ∷ [])) (from_rounds w) c.in_err-put_line.field-0.0 _ (rw pes at c.in_err-put_line.ensures) c.from_residual.ensures.1

pub returns-in_err-put_line-2 : goal.returns-in_err-put_line-2
returns-in_err-put_line-2 g c =
    let w = c.args.workload.now in
    let pes : c.workload.inside.pes ≡ w.pes = ap (λ v. v.pes) c.workload.view_is in
    let rounds : c.workload.inside.rounds ≡ w.rounds = ap (λ v. v.rounds) c.workload.view_is in
    after _ _ _ (line (codes "pes") (w.pes ∷ [])) (from_rounds w) _ (rw pes at c.in_ok-put_line.ensures)
    (fails _ _ _ (line (codes "rounds") (w.rounds ∷ [])) (from_pad w) c.in_err-put_line-2.field-0.0 _ (rw rounds at c.in_err-put_line-2.ensures) c.from_residual-in_err-put_line-2.ensures.1)

pub returns-in_err-put_line-3 : goal.returns-in_err-put_line-3
returns-in_err-put_line-3 g c =
    let w = c.args.workload.now in
    let pes : c.workload.inside.pes ≡ w.pes = ap (λ v. v.pes) c.workload.view_is in
    let rounds : c.workload.inside.rounds ≡ w.rounds = ap (λ v. v.rounds) c.workload.view_is in
    let pad : c.workload.inside.pad ≡ w.pad = ap (λ v. v.pad) c.workload.view_is in
    after _ _ _ (line (codes "pes") (w.pes ∷ [])) (from_rounds w) _ (rw pes at c.in_ok-put_line.ensures)
    (after _ _ _ (line (codes "rounds") (w.rounds ∷ [])) (from_pad w) _ (rw rounds at c.in_ok-put_line-2.ensures)
    (fails _ _ _ (line (codes "pad") (w.pad ∷ [])) (from_chares w) c.in_err-put_line-3.field-0.0 _ (rw pad at c.in_err-put_line-3.ensures) c.from_residual-in_err-put_line-3.ensures.1))

pub returns-in_err-put_line-4 : goal.returns-in_err-put_line-4
returns-in_err-put_line-4 g c =
    let w = c.args.workload.now in
    let pes : c.workload.inside.pes ≡ w.pes = ap (λ v. v.pes) c.workload.view_is in
    let rounds : c.workload.inside.rounds ≡ w.rounds = ap (λ v. v.rounds) c.workload.view_is in
    let pad : c.workload.inside.pad ≡ w.pad = ap (λ v. v.pad) c.workload.view_is in
    let chares : c.workload.inside.chares ≡ w.chares = ap (λ v. v.chares) c.workload.view_is in
    after _ _ _ (line (codes "pes") (w.pes ∷ [])) (from_rounds w) _ (rw pes at c.in_ok-put_line.ensures)
    (after _ _ _ (line (codes "rounds") (w.rounds ∷ [])) (from_pad w) _ (rw rounds at c.in_ok-put_line-2.ensures)
    (after _ _ _ (line (codes "pad") (w.pad ∷ [])) (from_chares w) _ (rw pad at c.in_ok-put_line-3.ensures)
    (fails _ _ _ (line (codes "chares") (w.chares ∷ [])) (from_amounts w) c.in_err-put_line-4.field-0.0 _ (rw chares at c.in_err-put_line-4.ensures) c.from_residual-in_err-put_line-4.ensures.1)))

pub returns : goal.returns
returns g c =
    let w = c.args.workload.now in
    let rows = c.workload.inside.amounts.items in
    let pes : c.workload.inside.pes ≡ w.pes = ap (λ v. v.pes) c.workload.view_is in
    let rounds : c.workload.inside.rounds ≡ w.rounds = ap (λ v. v.rounds) c.workload.view_is in
    let pad : c.workload.inside.pad ≡ w.pad = ap (λ v. v.pad) c.workload.view_is in
    let chares : c.workload.inside.chares ≡ w.chares = ap (λ v. v.chares) c.workload.view_is in
    let amounts : map (λ (row : Vec ℕ g.row.A.Denot). row.items) rows ≡ w.amounts = ap (λ v. v.amounts) c.workload.view_is in
    let same : flat_map (λ (row : Vec ℕ g.row.A.Denot). amounts_text row.items) c.deref.result.now ≡ from_amounts w =
    ap (flat_map (λ (row : Vec ℕ g.row.A.Denot). amounts_text row.items)) c.deref.ensures.value
    ∙ sym (pieces_of amounts_text (λ (row : Vec ℕ g.row.A.Denot). row.items) rows)
    ∙ ap (flat_map amounts_text) amounts in
    after _ _ _ (line (codes "pes") (w.pes ∷ [])) (from_rounds w) _ (rw pes at c.in_ok-put_line.ensures)
    (after _ _ _ (line (codes "rounds") (w.rounds ∷ [])) (from_pad w) _ (rw rounds at c.in_ok-put_line-2.ensures)
    (after _ _ _ (line (codes "pad") (w.pad ∷ [])) (from_chares w) _ (rw pad at c.in_ok-put_line-3.ensures)
    (after _ _ _ (line (codes "chares") (w.chares ∷ [])) (from_amounts w) _ (rw chares at c.in_ok-put_line-4.ensures)
    (spelled _ _ (flat_map (λ (row : Vec ℕ g.row.A.Denot). amounts_text row.items) c.deref.result.now) (from_amounts w) c.put_amounts.result same c.put_amounts.ensures))))
