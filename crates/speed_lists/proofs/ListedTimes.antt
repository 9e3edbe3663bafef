-- A division is the same whatever holds its lists.
use Rattle.std.proofs.Common.{◌≡◌, ◌↔◌, ℕ, ◌+◌, ◌≤◌, List, [], ◌∷◌, Option, None, Result, Ok, Err, IsOk, OnOk, IfErr, length, arith, refl, subst}
use Rattle.std.specs.Result.{result_err}
use Rattle.std.specs.Prelude.{MatchOption}
use Rattle.speed_certificates.specs.Certificate.{IsTimeCertified, MatchFloor}
use Rattle.speed_certificates.specs.Flaws.{HasFlaw, IsFirst}
use Rattle.speed_certificates.specs.Speeds.{Pes, IsLeastTime, count}
use Rattle.speed_certificates.specs.declared.division.TimedDivision.{TimedDivision}
use Rattle.speed_certificates.specs.declared.division.TimeFloor.{TimeFloor}
use Rattle.speed_certificates.specs.declared.division.TimeFloor.TheVariants.{Idle, Fence}
use Rattle.speed_certificates.specs.declared.flaw.TimeFlaw.{TimeFlaw}
use Rattle.speed_certificates.specs.declared.flaw.TimeFlaw.TheVariants.{IdleRange, IdleEarly, FenceCount, FenceStart, FenceOrder, FenceEnd, FenceEarly}
use Rattle.speed_certificates.specs.declared.time.EndTime.{EndTime}
use Rattle.speed_partition.specs.Chosen.{IsChosen, IsLeastFloor}
use Rattle.speed_lists.specs.Lists.{floor_of, idle_in, stops_in, timed_of}

floors_agree : (A B : Type 0) (idle : ℕ) (stops : List ℕ) (at_idle : ℕ → Type 0) (at_fence : List ℕ → Type 0) → MatchFloor {A = A} (floor_of idle stops) at_idle at_fence
    → MatchFloor {A = B} (floor_of idle stops) at_idle at_fence
floors_agree A B idle [] at_idle at_fence holds = holds
floors_agree A B idle (stop ∷ stops) at_idle at_fence holds = holds

flaws_agree : (A B : Type 0) (loads : List ℕ) (pes : Pes) (time : EndTime) (cuts stops : List ℕ) (idle : ℕ) (flaw : TimeFlaw)
    → HasFlaw loads pes (timed_of {A = A} time cuts stops idle) flaw → HasFlaw loads pes (timed_of {A = B} time cuts stops idle) flaw
flaws_agree A B loads pes time cuts stops idle IdleRange flawed = floors_agree A B idle stops _ _ flawed
flaws_agree A B loads pes time cuts stops idle IdleEarly flawed = floors_agree A B idle stops _ _ flawed
flaws_agree A B loads pes time cuts stops idle FenceCount flawed = floors_agree A B idle stops _ _ flawed
flaws_agree A B loads pes time cuts stops idle FenceStart flawed = floors_agree A B idle stops _ _ flawed
flaws_agree A B loads pes time cuts stops idle FenceOrder flawed = floors_agree A B idle stops _ _ flawed
flaws_agree A B loads pes time cuts stops idle FenceEnd flawed = floors_agree A B idle stops _ _ flawed
flaws_agree A B loads pes time cuts stops idle (FenceEarly i) flawed = floors_agree A B idle stops _ _ flawed
flaws_agree A B loads pes time cuts stops idle _ flawed = flawed

-- what holds of a division that holds these lists, holds of the lists
certified_listed : {A : Type 0} (loads : List ℕ) (pes : Pes) (time : EndTime) (cuts stops : List ℕ) (idle : ℕ) (d : TimedDivision A)
    → d ≡ timed_of time cuts stops idle → IsTimeCertified loads pes d → IsTimeCertified loads pes (timed_of {A = Unit {0}} time cuts stops idle)
certified_listed {A = A} loads pes time cuts stops idle d e certified =
    let same = subst (λ other. IsTimeCertified loads pes other) e certified in
    record {
      some_speed = same.some_speed;
      divides = same.divides;
      none_late = same.none_late;
      floor_holds = floors_agree A (Unit {0}) idle stops _ _ same.floor_holds;
    }

first_listed : {A : Type 0} (loads : List ℕ) (pes : Pes) (time : EndTime) (cuts stops : List ℕ) (idle : ℕ) (d : TimedDivision A) (flaw : TimeFlaw)
    → d ≡ timed_of time cuts stops idle → IsFirst (HasFlaw loads pes d) flaw → IsFirst (HasFlaw loads pes (timed_of {A = Unit {0}} time cuts stops idle)) flaw
first_listed {A = A} loads pes time cuts stops idle d flaw e first =
    let same = subst (λ other. IsFirst (HasFlaw loads pes other) flaw) e first in
    record {
      applies_itself = flaws_agree A (Unit {0}) loads pes time cuts stops idle flaw same.applies_itself;
      no_lower_number = λ other lower flawed. same.no_lower_number other lower (flaws_agree (Unit {0}) A loads pes time cuts stops idle other flawed);
      no_lower_place = λ other equal before flawed. same.no_lower_place other equal before (flaws_agree (Unit {0}) A loads pes time cuts stops idle other flawed);
    }

-- what a check says of the lists
pub exact_listed : {A T : Type 0} (loads : List ℕ) (pes : Pes) (time : EndTime) (cuts stops : List ℕ) (idle : ℕ) (d : TimedDivision A)
    (answer : Result T TimeFlaw) (found : Option TimeFlaw) → d ≡ timed_of time cuts stops idle → found ≡ result_err answer
    → IsOk answer ↔ IsTimeCertified loads pes d → IfErr answer (IsFirst (HasFlaw loads pes d))
    → MatchOption found (IsTimeCertified loads pes (timed_of {A = Unit {0}} time cuts stops idle)) (IsFirst (HasFlaw loads pes (timed_of {A = Unit {0}} time cuts stops idle)))
exact_listed loads pes time cuts stops idle d (Ok t) found e found_is exact first =
    rw found_is (certified_listed loads pes time cuts stops idle d e (exact.0 refl))
exact_listed loads pes time cuts stops idle d (Err flaw) found e found_is exact first =
    rw found_is (first_listed loads pes time cuts stops idle d flaw e first)

-- where the PEs of the check are these
pub exact_for : {A T : Type 0} (loads : List ℕ) (pes other : Pes) (time : EndTime) (cuts stops : List ℕ) (idle : ℕ) (d : TimedDivision A)
    (answer : Result T TimeFlaw) (found : Option TimeFlaw) → other ≡ pes → d ≡ timed_of time cuts stops idle → found ≡ result_err answer
    → IsOk answer ↔ IsTimeCertified loads other d → IfErr answer (IsFirst (HasFlaw loads other d))
    → MatchOption found (IsTimeCertified loads pes (timed_of {A = Unit {0}} time cuts stops idle)) (IsFirst (HasFlaw loads pes (timed_of {A = Unit {0}} time cuts stops idle)))
exact_for loads pes other time cuts stops idle d answer found same e found_is exact first =
    subst (λ p. MatchOption found (IsTimeCertified loads p (timed_of {A = Unit {0}} time cuts stops idle))
    (IsFirst (HasFlaw loads p (timed_of {A = Unit {0}} time cuts stops idle)))) same
    (exact_listed loads other time cuts stops idle d answer found e found_is exact first)

pub least_listed : {A T : Type 0} (loads : List ℕ) (pes : Pes) (time : EndTime) (cuts stops : List ℕ) (idle : ℕ) (d : TimedDivision A)
    (answer : Result T TimeFlaw) (found : Option TimeFlaw) → d ≡ timed_of time cuts stops idle → found ≡ result_err answer
    → OnOk answer (IsLeastTime loads pes d.cuts d.time) → found ≡ None → IsLeastTime loads pes cuts time
least_listed loads pes time cuts stops idle d (Ok t) found e found_is least none =
    subst (λ (other : TimedDivision _). IsLeastTime loads pes other.cuts other.time) e least
least_listed loads pes time cuts stops idle d (Err flaw) found e found_is least none = absurd cc

-- a chosen division, written down
floor_listed : {A : Type 0} (loads : List ℕ) (pes : Pes) (time : EndTime) (floor : TimeFloor A) → IsLeastFloor loads pes time floor
    → IsLeastFloor {A = Unit {0}} loads pes time (floor_of (idle_in floor) (stops_in floor))
floor_listed loads pes time (Idle p) least = least
floor_listed loads pes time (Fence []) least = absurd (omega (arith, least.1.fence.counted))
floor_listed loads pes time (Fence (stop ∷ stops)) least = least

pub chosen_listed : {A : Type 0} (loads : List ℕ) (pes : Pes) (d : TimedDivision A) (cuts stops : List ℕ) (idle : ℕ) → IsChosen loads pes d → cuts ≡ d.cuts
    → stops ≡ stops_in d.floor → idle ≡ idle_in d.floor → IsChosen loads pes (timed_of {A = Unit {0}} d.time cuts stops idle)
chosen_listed loads pes d cuts stops idle chosen cuts_are stops_are idle_is =
    let written : IsChosen loads pes (timed_of {A = Unit {0}} d.time d.cuts (stops_in d.floor) (idle_in d.floor)) = record {
      least_time = chosen.least_time;
      first_latest = chosen.first_latest;
      greedy = chosen.greedy;
      floor = floor_listed loads pes d.time d.floor chosen.floor;
    } in
    rw (cuts_are, stops_are, idle_is) written

-- a chosen division has no more stops than one for each PE and one more
floor_room : {A : Type 0} (loads : List ℕ) (pes : Pes) (time : EndTime) (floor : TimeFloor A) → IsLeastFloor loads pes time floor → length (stops_in floor) ≤ count pes + 1
floor_room loads pes time (Idle p) least = omega arith
floor_room loads pes time (Fence stops) least = omega (arith, least.1.fence.counted)

pub chosen_room : {A : Type 0} (loads : List ℕ) (pes : Pes) (d : TimedDivision A) → IsChosen loads pes d → length (stops_in d.floor) ≤ count pes + 1
chosen_room loads pes d chosen = floor_room loads pes d.time d.floor chosen.floor
