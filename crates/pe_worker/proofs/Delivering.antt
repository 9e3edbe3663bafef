-- What came of a delivery that may have been acted on at once, and of a letter that was looked for and then came back.
use Rattle.std.proofs.Common.{◌≡◌, ℕ, ◌↔◌, List, Some, Result, Bool, true, false, IsTrue, if◌then◌else◌, refl, ap, ◌∙◌}
use Rattle.std.specs.Prelude.{MatchBool}
use Rattle.chares.specs.Steps.{Step}
use Rattle.pup_pack.specs.declared.error.PupError.{PupError}
use Rattle.pe_state.specs.Pes.{Parcel, acting, front_parcel, gave_up, handed_back, looked, pe_after, received}
use Rattle.pe_state.proofs.Receiving.{ExecutesNow}
use Rattle.pe_queues.specs.Seats.{after_take}
use Rattle.pe_worker.specs.Seated.{SeatedView}
use Rattle.pe_worker.specs.Steps.{Delivers, Executes, Looks}
use Rattle.pe_worker.proofs.Keeping.{back_looked}

pub executes_or_delivers : {C : Type 0} (step : Step C) (pack : C → List ℕ) (unpack : List ℕ → Result (C × ℕ) PupError) (old new : SeatedView C) (parcel : Parcel) (acts : Bool)
    → IsTrue acts ↔ ExecutesNow step pack unpack old.pe parcel
    → new.pe ≡ (if acts then pe_after (received old.pe parcel) (acting step pack unpack (received old.pe parcel)) else received old.pe parcel)
    → new.seat ≡ after_take old.seat old.pe.me parcel
    → MatchBool acts (Executes step pack unpack old new) (Delivers old new)
executes_or_delivers step pack unpack old new parcel true acts is taken = record { parcel = parcel; executed = acts.0 refl; after = is; taken = taken }
executes_or_delivers step pack unpack old new parcel false acts is taken = record { parcel = parcel; held = is; taken = taken }

-- it has an address then, and nothing else has changed
pub looks_again : {C : Type 0} (old new : SeatedView C) (q : ℕ) (parcel back : Parcel)
    → front_parcel old.pe.outbox ≡ Some parcel → back ≡ parcel → new.pe ≡ handed_back (gave_up (looked old.pe q)) back → new.seat ≡ old.seat → Looks old new
looks_again old new q parcel back front same is seat =
    record {
      believed = q;
      found_at = is ∙ ap (λ (p : Parcel). handed_back (gave_up (looked old.pe q)) p) same ∙ back_looked old.pe q parcel front;
      same_seat = seat;
    }
