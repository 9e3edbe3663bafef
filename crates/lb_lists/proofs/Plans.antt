-- A division and its names, whose places were written, are a plan.
use Rattle.std.proofs.Common.{◌≡◌, ℕ, ℤ, List, [], ◌∷◌, length, arith, refl, subst, sym}
use Rattle.chain_partition.specs.Chosen.{IsChosen, IsLeastFloor}
use Rattle.lb_certificates.specs.Certificate.{IsCertified, HoldsFor}
use Rattle.lb_certificates.specs.Chain.{IsLeastDivision}
use Rattle.lb_certificates.specs.Naming.{bytes_moved, IsLeastNaming}
use Rattle.lb_certificates.specs.declared.division.Division.{Division}
use Rattle.lb_certificates.specs.declared.division.Floor.{Floor}
use Rattle.lb_certificates.specs.declared.division.Floor.TheVariants.{Zero, Fence}
use Rattle.lb_certificates.proofs.LeastDivisions.{least_from_certified}
use Rattle.lb_lists.specs.Claims.{division_of, floor_of, Claimed, IsNamedRun, IsRightClaim}
use Rattle.lb_lists.specs.Places.{ArePlaces}
use Rattle.lb_lists.specs.Plans.{stops_in, IsPlan}
use Rattle.lb_lists.specs.Runs.{sizes_of, Listed}

-- a floor that holds, by its stops
floor_holds : {A : Type 0} (loads : List ℕ) (pes bottleneck : ℕ) (floor : Floor A) → HoldsFor loads pes bottleneck floor
    → HoldsFor {A = Unit {0}} loads pes bottleneck (floor_of (stops_in floor))
floor_holds loads pes bottleneck Zero holds = holds
floor_holds loads pes bottleneck (Fence []) holds = absurd (omega (arith, holds.counted))
floor_holds loads pes bottleneck (Fence (stop ∷ stops)) holds = holds

floor_least : {A : Type 0} (loads : List ℕ) (pes bottleneck : ℕ) (floor : Floor A) → IsLeastFloor loads pes bottleneck floor
    → IsLeastFloor {A = Unit {0}} loads pes bottleneck (floor_of (stops_in floor))
floor_least loads pes bottleneck Zero least = least
floor_least loads pes bottleneck (Fence []) least = absurd (omega (arith, least.1.fence.counted))
floor_least loads pes bottleneck (Fence (stop ∷ stops)) least = least

-- a division that is certified or chosen, by its stops
pub certified_by_stops : {A : Type 0} (loads : List ℕ) (pes : ℕ) (d : Division A) → IsCertified loads pes d
    → IsCertified loads pes (division_of {A = Unit {0}} d.bottleneck d.cuts (stops_in d.floor))
certified_by_stops loads pes d certified =
    record {
      divides = certified.divides;
      within = certified.within;
      floor_holds = floor_holds loads pes d.bottleneck d.floor certified.floor_holds;
    }

pub chosen_by_stops : {A : Type 0} (loads : List ℕ) (pes : ℕ) (d : Division A) → IsChosen loads pes d
    → IsChosen loads pes (division_of {A = Unit {0}} d.bottleneck d.cuts (stops_in d.floor))
chosen_by_stops loads pes d chosen =
    record {
      least_peak = chosen.least_peak;
      cuts = chosen.cuts;
      floor = floor_least loads pes d.bottleneck d.floor chosen.floor;
    }

-- the plan of a division and its names
pub plan_from : {A : Type 0} (run : Listed) (pes : ℕ) (d : Division A) (names new_places : List ℕ) (bottleneck moved n : ℕ)
    → IsCertified run.loads pes d → IsChosen run.loads pes d → IsLeastNaming (sizes_of run) d.cuts pes names → bottleneck ≡ d.bottleneck
    → moved ≡ bytes_moved (sizes_of run) d.cuts names → n ≡ length run.loads → ArePlaces d.cuts names n new_places
    → IsPlan run pes new_places bottleneck moved
plan_from run pes d names new_places bottleneck moved n certified chosen naming bottleneck_is moves counted placed =
    record {
      cuts = d.cuts;
      stops = stops_in d.floor;
      names = names;
      least = subst (λ k. IsLeastDivision run.loads pes k d.cuts) (sym bottleneck_is) (least_from_certified run.loads pes d certified);
      chosen = subst (λ k. IsChosen run.loads pes (division_of {A = Unit {0}} k d.cuts (stops_in d.floor))) (sym bottleneck_is) (chosen_by_stops run.loads pes d chosen);
      naming = naming;
      moves = moves;
      placed = subst (λ k. ArePlaces d.cuts names k new_places) counted placed;
    }

-- the division that is claimed, from its parts
division_written : {A : Type 0} (d : Division A) (bottleneck : ℕ) (cuts stops : List ℕ) → bottleneck ≡ d.bottleneck → cuts ≡ d.cuts
    → stops ≡ stops_in d.floor → division_of {A = Unit {0}} bottleneck cuts stops ≡ division_of d.bottleneck d.cuts (stops_in d.floor)
division_written d bottleneck_of cuts_of stops_of bottleneck cuts stops = rw (bottleneck, cuts, stops) refl

pub chosen_written : {A : Type 0} (run : Listed) (pes : ℕ) (d : Division A) (bottleneck : ℕ) (cuts stops : List ℕ) → IsChosen run.loads pes d
    → bottleneck ≡ d.bottleneck → cuts ≡ d.cuts → stops ≡ stops_in d.floor → IsChosen run.loads pes (division_of {A = Unit {0}} bottleneck cuts stops)
chosen_written run pes d bottleneck cuts stops chosen bottleneck_is cuts_are stops_are =
    subst (IsChosen run.loads pes) (sym (division_written d bottleneck cuts stops bottleneck_is cuts_are stops_are)) (chosen_by_stops run.loads pes d chosen)

-- a certified division and its names, written down, are a right claim
pub right_written : {A : Type 0} (run : Listed) (pes : ℕ) (d : Division A) (names : List ℕ) (u v : List ℤ) (n : ℕ) (claim : Claimed)
    → IsCertified run.loads pes d → IsNamedRun (sizes_of run) d.cuts names u v → claim.bottleneck ≡ d.bottleneck
    → claim.moved ≡ bytes_moved (sizes_of run) d.cuts names → n ≡ length run.loads → ArePlaces d.cuts names n claim.new_places → claim.cuts ≡ d.cuts
    → claim.stops ≡ stops_in d.floor → claim.names ≡ names → claim.block_prices ≡ u → claim.pe_prices ≡ v → IsRightClaim run pes claim
right_written run pes d names u v n claim certified named bottleneck moves counted placed cuts stops names_are u_are v_are =
    record {
      division = subst (IsCertified run.loads pes) (sym (division_written d claim.bottleneck claim.cuts claim.stops bottleneck cuts stops))
          (certified_by_stops run.loads pes d certified);
      named = rw (cuts, names_are, u_are, v_are) named;
      moved = rw (cuts, names_are) moves;
      placed = rw (cuts, names_are, ← counted) placed;
    }
