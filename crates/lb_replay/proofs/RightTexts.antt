-- What the text of a right decision needs.
use Rattle.std.proofs.Common.{◌≡◌, ℕ, List, length, arith, subst, sym}
use Rattle.lb_certificates.specs.Chain.{IsDivision}
use Rattle.lb_strategy.specs.declared.decision.Decision.{Decision}
use Rattle.lb_strategy.specs.Decisions.{IsRight}

-- a name for each block
pub named_from_right : {A : Type 0} (loads : List ℕ) (sizes : List (ℕ × ℕ)) (p : ℕ) (d : Decision A) → IsRight loads sizes p d → length d.naming ≡ p
named_from_right loads sizes p d right =
    omega (arith, right.named.naming.counted, right.division.divides.counted)

-- as many blocks as names
pub divides_from_right : {A : Type 0} (loads : List ℕ) (sizes : List (ℕ × ℕ)) (p : ℕ) (d : Decision A) → IsRight loads sizes p d
    → IsDivision 0 (length loads) (length d.naming) d.division.cuts
divides_from_right loads sizes p d right =
    subst (λ n. IsDivision 0 (length loads) n d.division.cuts) (sym (named_from_right loads sizes p d right)) right.division.divides
