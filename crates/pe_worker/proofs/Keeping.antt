-- What a seated PE keeps in each of its steps.
use Rattle.std.proofs.Common.{◌≡◌, ℕ, ◌<◌, ◌↔◌, List, [], ◌∷◌, Option, Some, None, IsSome, Bool, true, false, IsTrue, if◌then◌else◌, refl, sym, ◌∙◌, subst, ap}
use Rattle.std.specs.Prelude.{Result, Ok, Err, OnOk, OnErr, slice_get, drop}
use Rattle.std.specs.Option.{option_to_list}
use Rattle.chares.specs.Elements.{ElementView}
use Rattle.chares.specs.Steps.{Step}
use Rattle.pup_pack.specs.declared.error.PupError.{PupError}
use Rattle.pe_state.specs.Histories.{HasHistories}
use Rattle.pe_state.specs.Pes.{PeView, Parcel, Item, acting, front_address, front_at, front_parcel, front_wants, gave_up, hand_wants, hand_wants_in, handed_back, looked, looked_in, pe_after, received}
use Rattle.pe_state.specs.Rooms.{IsKeyed}
use Rattle.pe_state.proofs.Histories.{gave_up_holds, looked_holds, received_holds}
use Rattle.pe_state.proofs.Receiving.{ExecutesNow, executes_letter}
use Rattle.pe_queues.specs.Seats.{SeatView, pes, new_seat, after_put, after_take}
use Rattle.rts_core.specs.Calls.{Call, Receive, HandBack, Look, Send, NoteDone, Act, Depart, Resume, MayCall, IsRunning, after_call, with_call}
use Rattle.rts_core.specs.Ledgers.{no_ledger, entered_in, IsLocalAccount}
use Rattle.rts_core.proofs.LocalAccount.{local_beginning, local_call}
use Rattle.pe_worker.specs.Seated.{Beginning, Matches, IsSeated}
use Rattle.pe_worker.proofs.Matching.{matches_still, matches_take, matches_put, matches_back, matches_new}

-- an outbox whose front was given up and came back is as it was
front_back : (outbox : List Item) (parcel : Parcel) → front_parcel outbox ≡ Some parcel → record { parcel = parcel; address = front_address outbox } ∷ drop 1 outbox ≡ outbox
front_back [] parcel front = cc
front_back (x ∷ xs) parcel front =
    let e : x.parcel ≡ parcel = cc in
    ap (λ (v : Parcel). record { parcel = v; address = x.address } ∷ xs) (sym e)

pub back_same : {C : Type 0} (pe : PeView C) (parcel : Parcel) → front_parcel pe.outbox ≡ Some parcel → handed_back (gave_up pe) parcel ≡ record pe { kept = None }
back_same pe parcel front = ap (λ (v : List Item). record pe { outbox = v; kept = None }) (front_back pe.outbox parcel front)

module _ {C : Type 0} (step : Step C) (fits : C → Type 0) (pack : C → List ℕ) (unpack : List ℕ → Result (C × ℕ) PupError)
    (opened : List C) (count : ℕ) (run : Beginning C) (pe : PeView C) (seat : SeatView Parcel)
    (w : IsSeated step opened count run pe seat) (keyed : IsKeyed pe.room) (histories : HasHistories step fits pack opened pe) where
  abbrev pub Kept : PeView C → SeatView Parcel → Type 0
  Kept pe' seat' = IsSeated step opened count run pe' seat'

  -- any call, with what it puts and takes
  keeps_call : (call : Call C) (seat' : SeatView Parcel) → MayCall pe call → IsRunning call → seat'.post ≡ seat.post → seat'.seats ≡ seat.seats
      → Matches (with_call step pack unpack w.ledger pe call) seat' → Kept (after_call step pack unpack pe call) seat'
  keeps_call call seat' may running post_is seats_is m =
      let l : IsLocalAccount step opened w.start (after_call step pack unpack pe call)
      (with_call step pack unpack w.ledger pe call) = local_call step fits pack opened w.start unpack pe w.ledger call may running
      histories keyed w.local in
      let me : (after_call step pack unpack pe call).me ≡ pe.me = l.same_me ∙ sym w.local.same_me in
      record {
        own = post_is ∙ w.own;
        share = ap (slice_get run.shares) me ∙ (w.share ∙ ap Some (sym seats_is));
        served = w.served;
        start = w.start;
        started = ap (slice_get run.starts) me ∙ w.started;
        ledger = with_call step pack unpack w.ledger pe call;
        local = l;
        matches = m;
      }

  pub keeps_received : (q : ℕ) (parcel : Parcel) → q < pes seat.post → pe.hand ≡ None → Kept (after_call step pack unpack pe (Receive parcel)) (after_take seat q parcel)
  keeps_received q parcel lt empty =
      keeps_call (Receive parcel) (after_take seat q parcel) empty tt refl refl (matches_take w.ledger seat q parcel [] lt w.matches)

  pub keeps_sent : (q : ℕ) (parcel : Parcel) → q < pes seat.post → front_parcel pe.outbox ≡ Some parcel → Kept (gave_up pe) (after_put seat q parcel)
  keeps_sent q parcel lt front =
      keeps_call Send (after_put seat q parcel) tt tt refl refl
      (subst (λ (o : Option Parcel). Matches (entered_in w.ledger [] (option_to_list o) []) (after_put seat q parcel)) (sym front)
      (matches_put w.ledger seat q parcel [] lt w.matches))

  pub keeps_looked : (q : ℕ) → Kept (after_call step pack unpack pe (Look q)) seat
  keeps_looked q = keeps_call (Look q) seat tt tt refl refl (matches_still w.ledger seat [] w.matches)

  pub keeps_noted : Kept (after_call step pack unpack pe NoteDone) seat
  keeps_noted = keeps_call NoteDone seat tt tt refl refl (matches_still w.ledger seat [] w.matches)

  pub keeps_acted : Kept (after_call step pack unpack pe Act) seat
  keeps_acted = keeps_call Act seat tt tt refl refl (matches_still w.ledger seat _ w.matches)

  -- after Act, whether it was refused or not
  pub keeps_after : {V E : Type 0} (pe' : PeView C) (r : Result V E) → OnOk r (pe' ≡ after_call step pack unpack pe Act) → OnErr r (pe' ≡ pe) → Kept pe' seat
  keeps_after pe' (Ok v) ok err = subst (λ (v : PeView C). Kept v seat) (sym ok) keeps_acted
  keeps_after pe' (Err e) ok err = subst (λ (v : PeView C). Kept v seat) (sym err) w

  pub keeps_departed : (e q : ℕ) → Kept (after_call step pack unpack pe (Depart e q)) seat
  keeps_departed e q = keeps_call (Depart e q) seat tt tt refl refl (matches_still w.ledger seat [] w.matches)

  pub keeps_resumed : (e round : ℕ) → Kept (after_call step pack unpack pe (Resume e round)) seat
  keeps_resumed e round = keeps_call (Resume e round) seat tt tt refl refl (matches_still w.ledger seat _ w.matches)

  -- a parcel that came back at once
  pub keeps_back : (parcel : Parcel) → front_parcel pe.outbox ≡ Some parcel → Kept (handed_back (gave_up pe) parcel) seat
  keeps_back parcel front =
      let given : IsLocalAccount step opened w.start (gave_up pe)
      (entered_in w.ledger [] (option_to_list (front_parcel pe.outbox)) []) = local_call step fits pack opened w.start unpack pe
      w.ledger Send tt tt histories keyed w.local in
      let still : HasHistories step fits pack opened (gave_up pe) = gave_up_holds step fits pack opened pe histories in
      let l : IsLocalAccount step opened w.start (handed_back (gave_up pe) parcel)
      (entered_in (entered_in w.ledger [] (option_to_list (front_parcel pe.outbox)) []) (parcel ∷ []) [] []) = local_call step fits pack
      opened w.start unpack (gave_up pe) (entered_in w.ledger [] (option_to_list (front_parcel pe.outbox)) []) (HandBack parcel) tt tt still keyed given in
      record {
        own = w.own;
        share = w.share;
        served = w.served;
        start = w.start;
        started = w.started;
        ledger = entered_in (entered_in w.ledger [] (option_to_list (front_parcel pe.outbox)) []) (parcel ∷ []) [] [];
        local = l;
        matches = subst (λ (o : Option Parcel). Matches (entered_in (entered_in w.ledger [] (option_to_list o) []) (parcel ∷ []) [] [])
            seat) (sym front) (matches_back w.ledger seat parcel [] [] w.matches);
      }

-- a parcel that was received, and executed at once where it is a letter that can be
pub keeps_executed : {C : Type 0} (step : Step C) (fits : C → Type 0) (pack : C → List ℕ) (unpack : List ℕ → Result (C × ℕ) PupError)
    (opened : List C) (count : ℕ) (run : Beginning C) (pe : PeView C) (seat : SeatView Parcel)
    → IsSeated step opened count run pe seat → IsKeyed pe.room → HasHistories step fits pack opened pe
    → (q : ℕ) (parcel : Parcel) → q < pes seat.post → pe.hand ≡ None
    → (pe' : PeView C) (acts : Bool) → IsTrue acts ↔ ExecutesNow step pack unpack pe parcel
    → pe' ≡ (if acts then pe_after (received pe parcel) (acting step pack unpack (received pe parcel)) else received pe parcel)
    → IsSeated step opened count run pe' (after_take seat q parcel)
keeps_executed {C} step fits pack unpack opened count run pe seat w keyed histories q parcel lt empty pe' false acts is =
    subst (λ (v : PeView C). IsSeated step opened count run v (after_take seat q parcel)) (sym is)
    (keeps_received step fits pack unpack opened count run pe seat w keyed histories q parcel lt empty)
keeps_executed {C} step fits pack unpack opened count run pe seat w keyed histories q parcel lt empty pe' true acts is =
    let seated = keeps_received step fits pack unpack opened count run pe seat w keyed histories q parcel lt empty in
    let whole = received_holds step fits pack opened pe parcel histories (executes_letter step pack unpack fits opened pe parcel (acts.0 refl)) in
    subst (λ (v : PeView C). IsSeated step opened count run v (after_take seat q parcel)) (sym is)
    (keeps_acted step fits pack unpack opened count run (received pe parcel) (after_take seat q parcel) seated keyed whole)

-- a look leaves the front, the room, and no address
module _ {C : Type 0} (pe : PeView C) (q : ℕ) where
  front_with : (outbox : List Item) → front_parcel (front_at q outbox) ≡ front_parcel outbox
  front_with [] = refl
  front_with (x ∷ xs) = refl

  looked_front_in : (o : Option ℕ) → front_parcel (looked_in pe q o).outbox ≡ front_parcel pe.outbox
  looked_front_in (Some e) = refl
  looked_front_in None = front_with pe.outbox

  pub looked_front : front_parcel (looked pe q).outbox ≡ front_parcel pe.outbox
  looked_front = looked_front_in (hand_wants pe)

  looked_room_in : (o : Option ℕ) → (looked_in pe q o).room ≡ pe.room
  looked_room_in (Some e) = refl
  looked_room_in None = refl

  pub looked_room : (looked pe q).room ≡ pe.room
  looked_room = looked_room_in (hand_wants pe)

  looked_kept_in : (o : Option ℕ) → record (looked_in pe q o) { kept = None } ≡ looked_in pe q o
  looked_kept_in (Some e) = refl
  looked_kept_in None = refl

  with_address : (outbox : List Item) → IsSome (front_wants outbox) → IsSome (front_address (front_at q outbox))
  with_address [] h = h
  with_address (x ∷ xs) h = refl

  -- a letter that was looked for has an address when it is given up
  pub looked_keeps : pe.hand ≡ None → IsSome (front_wants pe.outbox) → IsSome (gave_up (looked pe q)).kept
  looked_keeps hand some =
      let looks : looked pe q ≡ looked_in pe q None = ap (λ (o : Option ℕ). looked_in pe q o) (ap (hand_wants_in pe) hand) in
      subst (λ (v : PeView C). IsSome (front_address v.outbox)) (sym looks) (with_address pe.outbox some)

  -- what was looked for, given up and handed back is what was looked for
  pub back_looked : (parcel : Parcel) → front_parcel pe.outbox ≡ Some parcel → handed_back (gave_up (looked pe q)) parcel ≡ looked pe q
  back_looked parcel front = back_same (looked pe q) parcel (looked_front ∙ front) ∙ looked_kept_in (hand_wants pe)

-- a letter that was looked for, and then sent, or handed back
module _ {C : Type 0} (step : Step C) (fits : C → Type 0) (pack : C → List ℕ) (unpack : List ℕ → Result (C × ℕ) PupError)
    (opened : List C) (count : ℕ) (run : Beginning C) (pe : PeView C) (seat : SeatView Parcel)
    (w : IsSeated step opened count run pe seat) (keyed : IsKeyed pe.room) (histories : HasHistories step fits pack opened pe) (q : ℕ) (parcel : Parcel) where
  pub keeps_looked_sent : q < pes seat.post → front_parcel pe.outbox ≡ Some parcel → IsSeated step opened count run (gave_up (looked pe q)) (after_put seat q parcel)
  keeps_looked_sent lt front =
      keeps_sent step fits pack unpack opened count run (looked pe q) seat
      (keeps_looked step fits pack unpack opened count run pe seat w keyed histories q)
      (subst (λ (room : List (ℕ × ElementView C)). IsKeyed room) (sym (looked_room pe q)) keyed)
      (looked_holds step fits pack opened pe q histories)
      q parcel lt (looked_front pe q ∙ front)

  pub keeps_looked_back : front_parcel pe.outbox ≡ Some parcel → IsSeated step opened count run (handed_back (gave_up (looked pe q)) parcel) seat
  keeps_looked_back front =
      subst (λ (v : PeView C). IsSeated step opened count run v seat) (sym (back_looked pe q parcel front))
      (keeps_looked step fits pack unpack opened count run pe seat w keyed histories q)

-- as a PE begins
pub keeps_new : {C : Type 0} (step : Step C) (opened : List C) (count : ℕ) (run : Beginning C) (pe : PeView C) (seat : SeatView Parcel)
    → slice_get run.shares pe.me ≡ Some seat.seats → slice_get run.starts pe.me ≡ Some pe → seat ≡ new_seat run.post seat.seats → pes run.post ≡ count
    → IsSeated step opened count run pe seat
keeps_new step opened count run pe seat share at is served =
    record {
      own = ap (λ (s : SeatView Parcel). s.post) is;
      share = share;
      served = served;
      start = pe;
      started = at;
      ledger = no_ledger;
      local = local_beginning step opened pe;
      matches = subst (Matches no_ledger) (sym is) (matches_new run.post seat.seats);
    }

-- a PE that lets letters have bodies of another length
pub keeps_longest : {C : Type 0} (step : Step C) (opened : List C) (count : ℕ) (run : Beginning C) (pe : PeView C) (seat : SeatView Parcel) (longest : ℕ)
    → IsSeated step opened count run pe seat → IsSeated step opened count run (record pe { longest = longest }) seat
keeps_longest step opened count run pe seat longest w =
    record {
      own = w.own;
      share = w.share;
      served = w.served;
      start = w.start;
      started = w.started;
      ledger = w.ledger;
      local = record {
        same_me = w.local.same_me;
        letters = record { conserved = w.local.letters.conserved; counted = w.local.letters.counted; numbered = w.local.letters.numbered };
        lives = w.local.lives;
        sent = w.local.sent;
      };
      matches = w.matches;
    }
