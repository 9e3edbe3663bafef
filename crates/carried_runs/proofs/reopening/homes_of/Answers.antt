use Rattle.std.proofs.Common.{◌∙◌, ◌<◌, ℕ, All, ap, length, subst}
use Rattle.std.proofs.lemmas.List.FromFn.{length-map-range_with_len}
use Rattle.rts_core.specs.Worlds.{home, opening_words}
use Rattle.carried_runs.proofs.reopening.homes_of.Goals as goal

pub returns : goal.returns
returns g c = record {
  value = c.in_ok-places.ensures.value ∙ ap (opening_words c.args.n) c.requires.run;
  counted = ap length c.in_ok-places.ensures.value ∙ length-map-range_with_len (λ e. home e c.args.n c.args.pes) 0 c.args.n;
  named = subst (λ (v : ℕ). All (λ q. q < v) c.in_ok-places.places.items) c.requires.run c.in_ok-places.ensures.named;
}
