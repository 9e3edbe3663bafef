use Rattle.std.proofs.Common.{◌≡◌, ◌∙◌, ℕ, List, ◌∷◌, [], ◌++◌, sym, ap, rules}
use Rattle.std.specs.Prelude.{slice_get}
use Rattle.schedules.proofs.Choosers.{taken_next}
use Rattle.schedules.proofs.choices.places_in.Goals as goal

pub loop-number-preserved : goal.loop-number-preserved
loop-number-preserved g c =
    let at = c.loop-number in
    let number : c.unwrap.result ≡ at.number = search rules in
    let here = sym (c.in-Some.ensures.value ∙ ap (λ (k : ℕ). slice_get c.args.world.now.words k) number) in
    let next = taken_next c.args.world.now.words at.number c.in-Some.place here in
    record { taken = c.in_ok-push.ensures.items ∙ ap (λ (xs : List ℕ). xs ++ c.in-Some.place ∷ []) at.invariant.taken ∙ sym next.0; within = next.1 }
