-- The division of a claim is the same whatever holds its lists; and what a right claim implies.
use Rattle.std.proofs.Common.{◌≡◌, ℕ, List, [], ◌∷◌, Option, None, Some, arith, subst}
use Rattle.std.specs.Prelude.{MatchOption}
use Rattle.lb_certificates.specs.Certificate.{IsCertified, MatchFloor}
use Rattle.lb_certificates.specs.Flaws.{HasFlaw, IsFirst}
use Rattle.lb_certificates.specs.Naming.{blocks_between, IsCheapest}
use Rattle.lb_certificates.specs.declared.flaw.Flaw.{Flaw}
use Rattle.lb_certificates.specs.declared.flaw.Flaw.TheVariants.{FenceCount, FenceStart, FenceOrder, FenceEnd, FenceLight, ZeroFloor}
use Rattle.lb_certificates.proofs.BlockSums.{cheapest_from_named}
use Rattle.lb_certificates.proofs.LeastDivisions.{least_from_certified}
use Rattle.lb_lists.specs.Claims.{division_of, floor_of, claimed_division, Claimed, IsBest, IsFirstFlaw, IsRightClaim}
use Rattle.lb_lists.specs.Runs.{Listed, sizes_of}

floors_agree : (A B : Type 0) (stops : List ℕ) (zero : Type 0) (fence : List ℕ → Type 0) → MatchFloor {A = A} (floor_of stops) zero fence
    → MatchFloor {A = B} (floor_of stops) zero fence
floors_agree A B [] zero fence holds = holds
floors_agree A B (stop ∷ stops) zero fence holds = holds

pub flaws_agree : (A B : Type 0) (loads : List ℕ) (pes bottleneck : ℕ) (cuts stops : List ℕ) (flaw : Flaw)
    → HasFlaw loads pes (division_of {A = A} bottleneck cuts stops) flaw → HasFlaw loads pes (division_of {A = B} bottleneck cuts stops) flaw
flaws_agree A B loads pes bottleneck cuts stops FenceCount flawed = floors_agree A B stops _ _ flawed
flaws_agree A B loads pes bottleneck cuts stops FenceStart flawed = floors_agree A B stops _ _ flawed
flaws_agree A B loads pes bottleneck cuts stops FenceOrder flawed = floors_agree A B stops _ _ flawed
flaws_agree A B loads pes bottleneck cuts stops FenceEnd flawed = floors_agree A B stops _ _ flawed
flaws_agree A B loads pes bottleneck cuts stops (FenceLight i) flawed = floors_agree A B stops _ _ flawed
flaws_agree A B loads pes bottleneck cuts stops ZeroFloor flawed = floors_agree A B stops _ _ flawed
flaws_agree A B loads pes bottleneck cuts stops _ flawed = flawed

-- the first flaw
pub first_claimed : (A : Type 0) (loads : List ℕ) (pes bottleneck : ℕ) (cuts stops : List ℕ) (flaw : Flaw)
    → IsFirst (HasFlaw loads pes (division_of {A = A} bottleneck cuts stops)) flaw
    → IsFirst (HasFlaw loads pes (division_of {A = Unit {0}} bottleneck cuts stops)) flaw
first_claimed A loads pes bottleneck cuts stops flaw first =
    record {
      applies_itself = flaws_agree A (Unit {0}) loads pes bottleneck cuts stops flaw first.applies_itself;
      no_lower_number = λ other lower flawed. first.no_lower_number other lower (flaws_agree (Unit {0}) A loads pes bottleneck cuts stops other flawed);
      no_lower_place = λ other same before flawed. first.no_lower_place other same before (flaws_agree (Unit {0}) A loads pes bottleneck cuts stops other flawed);
    }

-- the certificate
pub certified_claimed : (A : Type 0) (loads : List ℕ) (pes bottleneck : ℕ) (cuts stops : List ℕ)
    → IsCertified loads pes (division_of {A = A} bottleneck cuts stops) → IsCertified loads pes (division_of {A = Unit {0}} bottleneck cuts stops)
certified_claimed A loads pes bottleneck cuts stops certified =
    record {
      divides = certified.divides;
      within = certified.within;
      floor_holds = floors_agree A (Unit {0}) stops _ _ certified.floor_holds;
    }

-- a right claim is best
pub best_from_right : (run : Listed) (pes : ℕ) (claim : Claimed) → IsRightClaim run pes claim → IsBest run pes claim
best_from_right run pes claim right =
    let counted : blocks_between claim.cuts ≡ pes = omega (arith, right.division.divides.counted) in
    record {
      least = least_from_certified run.loads pes (claimed_division claim) right.division;
      cheapest = subst (λ n. IsCheapest (sizes_of run) claim.cuts n claim.names) counted
          (cheapest_from_named (sizes_of run) claim.cuts claim.names claim.block_prices claim.pe_prices right.named);
      moved = right.moved;
      placed = right.placed;
    }

-- a claim in which no flaw was found is best
pub best_where_none : (run : Listed) (pes : ℕ) (claim : Claimed) (found : Option Flaw)
    → MatchOption found (IsRightClaim run pes claim) (IsFirstFlaw run pes claim) → found ≡ None → IsBest run pes claim
best_where_none run pes claim None right none = best_from_right run pes claim right
best_where_none run pes claim (Some flaw) first none = absurd cc
