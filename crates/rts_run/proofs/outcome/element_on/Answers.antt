use Rattle.std.proofs.Common.{◌≡◌, ◌∙◌, ◌∷◌, None, drop, suc, sym, ap, add-one, drop-cons}
use Rattle.std.proofs.lemmas.List.{drop_all}
use Rattle.std.specs.Option.{option_copied, option_or}
use Rattle.pe_state.specs.Rooms.{found}
use Rattle.rts_run.specs.Outcomes.{element_on}
use Rattle.rts_run.proofs.outcome.element_on.Goals as goal

-- src/outcome.rt:205:5
pub loop-end-preserved : goal.loop-end-preserved
loop-end-preserved g c =
    let index = c.args.index in
    let ends = c.args.ends.now in
    let at = c.loop-end.end-index in
    let item = c.end-item.result in
    let rest = drop (suc at) ends in
    let cut : drop at ends ≡ item ∷ rest =
    drop-cons ends at item c.loop-end-test.true ∙ ap (λ one. one ∷ rest) (sym c.end-item.is) in
    let none : found index item.room ≡ None =
    sym (ap (λ room. found index room) c.room.ensures.value) ∙ sym c.element.ensures.value ∙ ap option_copied c.in_default.is in
    ap (λ next. element_on index (drop next ends)) (add-one at)
    ∙ ap (λ one. option_or one (element_on index rest)) (sym none)
    ∙ ap (element_on index) (sym cut)
    ∙ c.loop-end.invariant

-- src/outcome.rt:199:1
pub returns : goal.returns
returns g c = record { value = sym (ap (element_on c.args.index) (drop_all c.loop-end.end-index c.args.ends.now c.loop-end-test.false)) ∙ c.loop-end.invariant }
