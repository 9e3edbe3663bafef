-- The places of a round that is kept, copied.
use Rattle.std.proofs.Common.{◌≡◌, ◌∙◌, ℕ, ◌<◌, true, nat_lt, if◌then◌else◌, None, Some, ap, sym, arith}
use Rattle.std.specs.Option.{option_map}
use Rattle.std.specs.Prelude.{slice_index}
use Rattle.std.proofs.lemmas.Bool.{lt-ltb}
use Rattle.sync_board.proofs.Places.{has_place, place_below}
use Rattle.sync_board.specs.Boards.{BoardState, IsKeptIn, decision_of, place_in}
use Rattle.lb_certificates.specs.Naming.{blocks_between}
use Rattle.lb_database.specs.Measuring.{elements}
use Rattle.lb_strategy.specs.Moves.{planned_pe}
use Rattle.lb_strategy.specs.declared.decision.Decision.{Decision}
use Rattle.barrier.specs.Places.{ArePlaces, elements_cut, place_among, places_by}

-- all elements of the board are cut into blocks
all_cut : {A : Type 0} (b : BoardState A) (r : ℕ) (d : Decision A) → IsKeptIn b r d → elements_cut d.division.cuts ≡ elements b.database
all_cut b r d kept =
    let divides = kept.decided.placed.blocks in
    let counted : blocks_between d.division.cuts ≡ b.pes = omega (arith, divides.counted) in
    ap (slice_index d.division.cuts) counted ∙ divides.ends ∙ kept.decided.of_all

-- each of them has a place, which is one of the board's PEs
pub kept_places : {A : Type 0} (b : BoardState A) (r : ℕ) (d : Decision A) → IsKeptIn b r d → ArePlaces b.pes d.division.cuts d.naming
kept_places b r d kept = record {
  few_cuts = omega (arith, kept.decided.placed.blocks.counted);
  few_names = omega (arith, kept.decided.placed.naming.counted);
  has_place = λ i inside. has_place b r i d kept (omega (arith, inside, all_cut b r d kept));
  below = λ i inside. place_below b r i d kept (omega (arith, inside, all_cut b r d kept));
}

-- the place among those copied is the place in the round
pub same_place : {A : Type 0} (b : BoardState A) (r : ℕ) (d : Decision A) → IsKeptIn b r d → (i : ℕ) → i < elements b.database → place_among (places_by r d) i ≡ place_in b r i
same_place b r d kept i inside =
    let cut : nat_lt i (elements_cut d.division.cuts) ≡ true = lt-ltb i (elements_cut d.division.cuts) (omega (arith, inside, all_cut b r d kept)) in
    let found : decision_of b r ≡ Some d = ap (option_map (λ pair. pair.1)) kept.kept in
    ap (λ known. if known then Some (planned_pe d.division.cuts d.naming i) else None) cut
    ∙ sym (ap (option_map (λ e. planned_pe e.division.cuts e.naming i)) found)
