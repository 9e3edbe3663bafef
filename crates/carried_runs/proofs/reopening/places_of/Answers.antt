use Rattle.std.proofs.Common.{◌≡◌, ◌∙◌, ◌<◌, List, ℕ, All, ap, length, rules, subst, sym}
use Rattle.std.specs.List.{flat_map}
use Rattle.run_account.specs.Noting.{with_noted}
use Rattle.run_account.proofs.Noting.{length-with_noted}
use Rattle.carried_runs.proofs.Again.{all_back}
use Rattle.carried_runs.specs.Places.{sightings}
use Rattle.carried_runs.proofs.reopening.places_of.Goals as goal

pub returns : goal.returns
returns g c =
    let more = flat_map (sightings g.H.Openings.pes) c.args.states.now in
    let homes = c.in_ok-places.places.items in
    let noted : c.note_all.new.places ≡ with_noted homes more = search rules in
    let same : length c.note_all.new.places ≡ length homes = ap length noted ∙ length-with_noted homes more in
    let len : c.in_ok-places.places.len ≡ length homes = search rules in
    let back = all_back c.note_all.new.places homes c.in_ok-places.places.len same len in
    record {
      value = back ∙ noted ∙ ap (λ (v : List ℕ). with_noted v more) c.in_ok-places.ensures.value;
      counted = ap length back ∙ (same ∙ c.in_ok-places.ensures.counted);
      named = subst (All (λ q. q < g.H.Openings.pes)) (sym back) c.note_all.ensures.named;
    }
