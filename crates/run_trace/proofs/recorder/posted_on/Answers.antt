use Rattle.std.proofs.Common.{◌≡◌, ◌∙◌, ◌+◌, ◌∷◌, ◌++◌, [], ℕ, List, map, take, sym, ap, add-one, take-suc}
use Rattle.std.proofs.lemmas.List.{map-append, take_all}
use Rattle.pe_state.specs.declared.end.PeEnd.{PeEnd}
use Rattle.run_trace.proofs.recorder.posted_on.Goals as goal

-- src/recorder.rt:116:5
pub loop-end-preserved : goal.loop-end-preserved
loop-end-preserved g c =
    let ends = c.args.ends.now in
    let at = c.loop-end.end-index in
    let item = c.end-item.result in
    let count : PeEnd g.row.C.Denot g.row.B.Denot → ℕ = λ pe. pe.count in
    let cut : take (at + 1) ends ≡ take at ends ++ (item ∷ []) =
    ap (λ next. take next ends) (add-one at) ∙ take-suc ends at item c.loop-end-test.true
    ∙ ap (λ one. take at ends ++ (one ∷ [])) (sym c.end-item.is) in
    c.in_ok-push.ensures.items
    ∙ ap (λ (so_far : List ℕ). so_far ++ (c.count.result ∷ [])) c.loop-end.invariant
    ∙ ap (λ (last : ℕ). map count (take at ends) ++ (last ∷ [])) c.count.ensures.value
    ∙ sym (map-append count (take at ends) (item ∷ []))
    ∙ ap (map count) (sym cut)

-- src/recorder.rt:113:5
pub returns : goal.returns
returns g c = record {
  value = c.loop-end.invariant
      ∙ ap (λ (some : List (PeEnd g.row.C.Denot g.row.B.Denot)). map (λ pe. pe.count) some)
      (take_all c.loop-end.end-index c.args.ends.now c.loop-end-test.false);
}
