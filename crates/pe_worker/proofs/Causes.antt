-- The cause of a fault, from what a PE or the board says of a refusal.
use Rattle.std.proofs.Common.{◌≢◌, ℕ, List, Option, Some, None, MatchOption, Result, Ok, Err, IfErr, subst}
use Rattle.std.specs.Prelude.{IfSome}
use Rattle.std.specs.Ordering.{nat_cmp}
use Rattle.std.specs.BTreeMap.{is_at}
use Rattle.std.proofs.lemmas.Map.Views.{IfSome-lookup_from_All}
use Rattle.chares.specs.Elements.{ElementView, IsHistory, Refuses}
use Rattle.chares.specs.Steps.{Step}
use Rattle.chares.specs.declared.carried.Carried.TheVariants.{Letter, Element}
use Rattle.chares.specs.declared.entry.Entry.{Entry}
use Rattle.chares.specs.declared.entry.Entry.TheVariants.{Letter as OfLetter, Resumption}
use Rattle.chares.specs.declared.sends.SendError.{SendError}
use Rattle.chares.specs.declared.sends.SendError.TheVariants as Send
use Rattle.pe_state.specs.Histories.{HasHistories}
use Rattle.pe_state.specs.Pes.{PeView, Parcel, Item, received}
use Rattle.pe_state.specs.Refusals.{RefusesStep, RefusesResume, RefusesAct, RefusesParcel}
use Rattle.pe_state.specs.Rooms.{found, RefusesIn}
use Rattle.pe_state.specs.declared.error.StepError.{StepError}
use Rattle.pe_state.specs.declared.error.StepError.TheVariants.{OutOfMemory, Unpack, Stranger, TooLong, Worn}
use Rattle.pe_worker.specs.Causes.{MayRefuse, HasCause}
use Rattle.pe_worker.specs.declared.fault.Fault.{Fault}
use Rattle.pe_worker.specs.declared.fault.Fault.TheVariants as Met

-- a step is refused for a reason behind the one that is known
step_cause : (R S : SendError → Type 0) → ((error : SendError) → R error → S error) → (error : StepError) → RefusesStep R error → RefusesStep S error
step_cause R S weaker OutOfMemory h = tt
step_cause R S weaker Unpack h = h
step_cause R S weaker Stranger h = weaker Send.Stranger h
step_cause R S weaker TooLong h = weaker Send.TooLong h
step_cause R S weaker Worn h = weaker Send.Worn h

each_cause : {V : Type 0} (R S : StepError → Type 0) → ((error : StepError) → R error → S error) → (r : Result V StepError) → IfErr r R → IfErr r S
each_cause R S weaker (Ok v) h = tt
each_cause R S weaker (Err error) h = weaker error h

module _ {C : Type 0} (step : Step C) (fits : C → Type 0) (pack : C → List ℕ) (refuses : Refuses C) (opened : List C) where
  abbrev Cause : SendError → Type 0
  Cause error = MayRefuse step pack refuses opened error

  in_room : (pe : PeView C) (e : ℕ) (input : Entry (List ℕ)) (error : SendError) → HasHistories step fits pack opened pe
      → RefusesIn refuses pe.room e pe.n pe.count input error → Cause error
  in_room pe e input error h k =
      by (found e pe.room) (IfSome-lookup_from_All (IsHistory step pack opened) (is_at (nat_cmp e)) pe.room h.room) k
    where
      by : (o : Option (ElementView C)) → IfSome o (IsHistory step pack opened) → MatchOption o ⊥ (λ el. refuses el.chare el.index pe.n pe.count input error) → Cause error
      by None all r = absurd r
      by (Some el) all r =
          record { el = el; history = all; count = pe.count; input = input; refused = subst (λ (n : ℕ). refuses el.chare el.index n pe.count input error) h.same_array r }

  in_parcel : (pe : PeView C) (parcel : Parcel) (error : SendError) → HasHistories step fits pack opened pe → RefusesParcel refuses pe parcel error → Cause error
  in_parcel pe (Letter l) error h k = in_room pe l.to (OfLetter l.body) error h k
  in_parcel pe (Element p) error h k = absurd k

  in_hand : (pe : PeView C) (hand : Option Item) (error : SendError) → HasHistories step fits pack opened pe
      → MatchOption hand ⊥ (λ x. RefusesParcel refuses pe x.parcel error) → Cause error
  in_hand pe None error h k = absurd k
  in_hand pe (Some x) error h k = in_parcel pe x.parcel error h k

  on_arrival : (pe : PeView C) (parcel : Parcel) (error : SendError) → HasHistories step fits pack opened pe → RefusesAct refuses (received pe parcel) error → Cause error
  on_arrival pe (Letter l) error h k = in_room pe l.to (OfLetter l.body) error h k
  on_arrival pe (Element p) error h k = absurd k

  -- of Act, of Start and Resume, and of an Act on what was just received
  pub act_cause : {V : Type 0} (pe : PeView C) (r : Result V StepError) → HasHistories step fits pack opened pe
      → IfErr r (RefusesStep (RefusesAct refuses pe)) → IfErr r (RefusesStep Cause)
  act_cause pe r h k = each_cause (RefusesStep (RefusesAct refuses pe)) (RefusesStep Cause) (step_cause (RefusesAct refuses pe) Cause (λ error. in_hand pe pe.hand error h)) r k

  pub resume_cause : (pe : PeView C) (e round : ℕ) (error : StepError) → HasHistories step fits pack opened pe
      → RefusesStep (RefusesResume refuses pe e round) error → RefusesStep Cause error
  resume_cause pe e round error h k = step_cause (RefusesResume refuses pe e round) Cause (λ error. in_room pe e (Resumption round) error h) error k

  pub arrival_cause : (pe : PeView C) (parcel : Parcel) (error : StepError) → HasHistories step fits pack opened pe
      → RefusesStep (RefusesAct refuses (received pe parcel)) error → RefusesStep Cause error
  arrival_cause pe parcel error h k = step_cause (RefusesAct refuses (received pe parcel)) Cause (λ error. on_arrival pe parcel error h) error k

  -- what has a cause is neither of the two that no worker meets
  pub caused_unpacks : (fault : Fault) → HasCause step pack refuses opened fault → fault ≢ Met.Unpack
  caused_unpacks Met.Unpack h k = h
  caused_unpacks Met.OutOfMemory h k = cc
  caused_unpacks Met.Idle h k = cc
  caused_unpacks Met.Stranger h k = cc
  caused_unpacks Met.TooLong h k = cc
  caused_unpacks Met.Worn h k = cc
  caused_unpacks Met.Mismatch h k = h
  caused_unpacks Met.Stopped h k = cc
  caused_unpacks Met.Quiet h k = cc

  pub caused_agrees : (fault : Fault) → HasCause step pack refuses opened fault → fault ≢ Met.Mismatch
  caused_agrees Met.Unpack h k = h
  caused_agrees Met.OutOfMemory h k = cc
  caused_agrees Met.Idle h k = cc
  caused_agrees Met.Stranger h k = cc
  caused_agrees Met.TooLong h k = cc
  caused_agrees Met.Worn h k = cc
  caused_agrees Met.Mismatch h k = h
  caused_agrees Met.Stopped h k = cc
  caused_agrees Met.Quiet h k = cc
