-- The snapshot and the number of PEs determine the decision, except for its prices.
use Rattle.std.proofs.Common.{◌≡◌, ℕ, List, length, ap, sym, ◌∙◌, subst}
use Rattle.chain_partition.specs.Chosen.{IsChosen}
use Rattle.chain_partition.proofs.ChosenOnce.{only_from_chosen}
use Rattle.lb_certificates.specs.Naming.{IsLeastNaming, bytes_moved}
use Rattle.lb_certificates.specs.declared.division.Division.{Division}
use Rattle.lb_certificates.proofs.LeastNamings.{one_least}
use Rattle.lb_strategy.specs.declared.decision.Decision.{Decision}
use Rattle.lb_strategy.specs.Decisions.{IsRight}
use Rattle.lb_strategy.specs.Moves.{moves_below}

-- what two plans have in common: all of a decision but its prices
pub record IsSame {A : Type 0} (d e : Decision A) : Type 0 where
  pub bottleneck : d.division.bottleneck ≡ e.division.bottleneck
  pub cuts : d.division.cuts ≡ e.division.cuts
  pub floor : d.division.floor ≡ e.division.floor
  pub naming : d.naming ≡ e.naming
  pub moved : d.moved ≡ e.moved
  pub moves : d.moves ≡ e.moves

pub one_decision : {A : Type 0} (loads : List ℕ) (sizes : List (ℕ × ℕ)) (p : ℕ) (d e : Decision A) → IsChosen loads p d.division
    → IsChosen loads p e.division → IsLeastNaming sizes d.division.cuts p d.naming → IsLeastNaming sizes e.division.cuts p e.naming
    → IsRight loads sizes p d → IsRight loads sizes p e → IsSame d e
one_decision {A = A} loads sizes p d e chosen_d chosen_e least_d least_e right_d right_e =
    record {
      bottleneck = ap (λ (v : Division A). v.bottleneck) division;
      cuts = cuts;
      floor = ap (λ (v : Division A). v.floor) division;
      naming = naming;
      moved = right_d.moved ∙ ap (λ xs. bytes_moved sizes xs d.naming) cuts ∙ ap (λ xs. bytes_moved sizes e.division.cuts xs) naming ∙ sym right_e.moved;
      moves = right_d.moves ∙ ap (λ xs. moves_below sizes xs d.naming (length sizes)) cuts
          ∙ ap (λ xs. moves_below sizes e.division.cuts xs (length sizes)) naming ∙ sym right_e.moves;
    }
  where
    division : d.division ≡ e.division
    division = only_from_chosen loads p e.division chosen_e d.division chosen_d

    cuts : d.division.cuts ≡ e.division.cuts
    cuts = ap (λ (v : Division A). v.cuts) division

    naming : d.naming ≡ e.naming
    naming = one_least p (bytes_moved sizes d.division.cuts) d.naming e.naming least_d (subst (λ xs. IsLeastNaming sizes xs p e.naming) (sym cuts) least_e)
