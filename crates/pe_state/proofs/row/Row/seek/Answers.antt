use Rattle.std.proofs.Common.{ℕ, List, length, get_or, ap, ◌∙◌, subst, arith}
use Rattle.std.specs.Prelude.{IfOk, IfErr}
use Rattle.chare_index.specs.declared.limits.TheConstants.Limits.{ELEMENTS}
use Rattle.chares.specs.Elements.{ElementView}
use Rattle.pe_state.specs.Rows.{IsWithin, IsPlace, IsGap}
use Rattle.pe_state.proofs.Places.{read_at, stands_at, ok_stands, err_belongs}
use Rattle.pe_state.proofs.row.Row.seek.Goals as goal

pub returns-then-index-clause-hit : goal.returns-then-index-clause-hit
returns-then-index-clause-hit g c =
    let w : IsWithin 0 ELEMENTS c.args.self.now = subst (λ (r : List (ℕ × ElementView g.row.C.Denot)). IsWithin 0 ELEMENTS r) c.self.view_is c.self.invariant in
    let long = ap length c.self.view_is in
    let read = c.index.ensures ∙ ap (λ r. get_or r c.guess-guess.result c.index.result.now) c.self.view_is in
    stands_at ELEMENTS c.args.self.now c.guess-guess.result c.args.index w
    (read_at c.args.self.now c.guess-guess.result c.args.index c.index.result.now (omega (arith, long)) read (c.if-index.true ∙ c.get-index.ensures.value))

pub returns : goal.returns
returns g c =
    let w : IsWithin 0 ELEMENTS c.args.self.now = subst (λ (r : List (ℕ × ElementView g.row.C.Denot)). IsWithin 0 ELEMENTS r) c.self.view_is c.self.invariant in
    record {
      hit = ok_stands ELEMENTS c.args.self.now c.args.index c.search.result w
          (subst (λ (e : ℕ). IfOk c.search.result (λ i. IsPlace e c.args.self.now i)) c.get-index.ensures.value c.search.ensures.hit);
      gap = err_belongs c.args.self.now c.args.index c.search.result
          (subst (λ (e : ℕ). IfErr c.search.result (λ i. IsGap e c.args.self.now i)) c.get-index.ensures.value c.search.ensures.gap);
    }
