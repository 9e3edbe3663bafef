-- The places of a snapshot and of a decision are placements.
use Rattle.std.proofs.Common.{◌≡◌, ℕ, ℤ, ◌+◌, ◌<◌, List, length, ◌++◌, [], ◌∷◌, arith, subst, sym, ◌∙◌}
use Rattle.std.proofs.lemmas.List.{length-map}
use Rattle.std.proofs.lemmas.List.Elements.{All-map}
use Rattle.std.proofs.lemmas.List.FromFn.{get_or-map-range_with_len, length-map-range_with_len, map-range_with_len_more}
use Rattle.lb_certificates.specs.Naming.{block_of, blocks_between, IsNamed}
use Rattle.lb_snapshot.specs.Measured.{IsTaken}
use Rattle.lb_strategy.specs.declared.decision.Decision.{Decision}
use Rattle.lb_strategy.specs.Decisions.{IsRight}
use Rattle.lb_strategy.specs.Moves.{HasPlace, planned_pe}
use Rattle.lb_strategy.proofs.RightDecisions.{place_from_named}
use Rattle.load_report.specs.Figures.{IsPlacement, planned_places, present_places}

pub present_placed : (procs : ℕ) (loads : List ℕ) (sizes : List (ℕ × ℕ)) → IsTaken procs loads sizes → IsPlacement loads (present_places sizes) procs
present_placed procs loads sizes taken =
    record {
      paired = length-map sizes (λ size. size.1) ∙ sym taken.paired;
      placed = All-map (λ place. place < procs) (λ (size : ℕ × ℕ). size.1) sizes taken.placed;
      few_pes = taken.few_pes;
    }

-- one more place
pub places_more : (cuts names : List ℕ) (i : ℕ) → planned_places cuts names (i + 1) ≡ planned_places cuts names i ++ planned_pe cuts names i ∷ []
places_more cuts names i =
    map-range_with_len_more (planned_pe cuts names) 0 i i (omega arith)

-- elements that are placed by the names of blocks, where there are as many blocks as PEs
module _ (loads : List ℕ) (sizes : List (ℕ × ℕ)) (p : ℕ) (cuts names : List ℕ) (u v : List ℤ) where
  placed_below : IsNamed sizes cuts names u v → blocks_between cuts ≡ p → (i : ℕ) → HasPlace cuts names i → planned_pe cuts names i < p
  placed_below named counted i place =
      omega (arith, counted, named.naming.below (block_of cuts i) (omega (arith, place.named, named.naming.counted)))

  pub named_placed : IsNamed sizes cuts names u v → blocks_between cuts ≡ p → length loads ≡ length sizes → IsPlacement loads (planned_places cuts names (length sizes)) p
  named_placed named counted paired =
      let made : length (planned_places cuts names (length sizes)) ≡ length sizes = length-map-range_with_len (planned_pe cuts names) 0 (length sizes) in
      record {
        paired = made ∙ sym paired;
        placed = λ i e inside.
            let below : i < length sizes = omega (arith, made, inside) in
            subst (λ place. place < p) (sym (get_or-map-range_with_len (planned_pe cuts names) 0 (length sizes) i i e below (omega arith)))
            (placed_below named counted i (place_from_named sizes cuts names u v named i below));
        few_pes = omega (arith, counted, named.blocks.few_blocks);
      }

pub planned_placed : {A : Type 0} (loads : List ℕ) (sizes : List (ℕ × ℕ)) (p : ℕ) (d : Decision A) → IsRight loads sizes p d
    → length loads ≡ length sizes → IsPlacement loads (planned_places d.division.cuts d.naming (length sizes)) p
planned_placed loads sizes p d right paired =
    named_placed loads sizes p d.division.cuts d.naming d.prices.u d.prices.v right.named (omega (arith, right.division.divides.counted)) paired
