-- A run and a number of PEs determine the plan.
use Rattle.std.proofs.Common.{◌≡◌, ℕ, ◌<◌, List, length, arith, ap, subst, sym, ◌∙◌}
use Rattle.std.proofs.lemmas.Grind.{same_number_lists}
use Rattle.chain_partition.proofs.ChosenOnce.{only_from_chosen}
use Rattle.lb_certificates.specs.Naming.{IsLeastNaming, bytes_moved}
use Rattle.lb_certificates.specs.declared.division.Division.{Division}
use Rattle.lb_certificates.proofs.LeastNamings.{one_least}
use Rattle.lb_lists.specs.Claims.{division_of}
use Rattle.lb_lists.specs.Places.{ArePlaces}
use Rattle.lb_lists.specs.Plans.{IsPlan}
use Rattle.lb_lists.specs.Runs.{sizes_of, Listed}

-- the places by one division and its names
pub places_once : (cuts names : List ℕ) (n : ℕ) (places others : List ℕ) → ArePlaces cuts names n places → ArePlaces cuts names n others → places ≡ others
places_once cuts names n places others this that =
    same_number_lists places others (this.counted ∙ sym that.counted) (λ i inside.
    let below : i < n = omega (arith, inside, this.counted) in
    this.placed i below ∙ sym (that.placed i below))

pub plan_once : (run : Listed) (pes : ℕ) (places others : List ℕ) (bottleneck other moved more : ℕ) → IsPlan run pes places bottleneck moved
    → IsPlan run pes others other more → (places ≡ others) × (bottleneck ≡ other) × (moved ≡ more)
plan_once run pes places others bottleneck other moved more this that =
    let division : division_of {A = Unit {0}} bottleneck this.cuts this.stops ≡ division_of other that.cuts that.stops = only_from_chosen
    run.loads pes _ that.chosen _ this.chosen in
    let cuts : this.cuts ≡ that.cuts = ap (λ (d : Division (Unit {0})). d.cuts) division in
    let names : this.names ≡ that.names = one_least pes (bytes_moved (sizes_of run) this.cuts) this.names that.names this.naming
    (subst (λ c. IsLeastNaming (sizes_of run) c pes that.names) (sym cuts) that.naming) in
    let bytes : moved ≡ bytes_moved (sizes_of run) that.cuts that.names = this.moves
    ∙ ap (λ c. bytes_moved (sizes_of run) c this.names) cuts ∙ ap (bytes_moved (sizes_of run) that.cuts) names in
    let placed : ArePlaces that.cuts that.names (length run.loads) places = subst (λ n. ArePlaces that.cuts n (length run.loads) places)
    names (subst (λ c. ArePlaces c this.names (length run.loads) places) cuts this.placed) in
    (places_once that.cuts that.names (length run.loads) places others placed that.placed, ap (λ (d : Division (Unit {0})). d.bottleneck) division, bytes ∙ sym that.moves)
