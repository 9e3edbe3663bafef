use Rattle.std.proofs.Common.{◌∙◌, ◌<◌, ℕ, All, List, ap, length, subst, sym}
use Rattle.carried_runs.proofs.opening.words_of.Goals as goal

pub new-requires-clause-known : goal.new-requires-clause-known
new-requires-clause-known g c =
    subst (λ (v : List ℕ). All (λ q. q < c.args.config.now.pes) v) (sym c.deref.ensures.value)
    (subst (λ (v : ℕ). All (λ q. q < v) c.in_ok-places.places.items) (sym c.requires.run) c.in_ok-places.ensures.named)

pub returns : goal.returns
returns g c =
    record {
      pes = c.in_ok-words.ensures.pes ∙ c.requires.run;
      elements = c.in_ok-words.ensures.elements ∙ (ap length c.deref.ensures.value ∙ c.in_ok-places.ensures.counted);
    }
