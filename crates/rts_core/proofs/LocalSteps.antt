-- What each call of a PE is: a step of it, with the parcels that it receives and gives away and with what it sends.
use Rattle.std.proofs.Common.{◌≡◌, ℕ, List, [], ◌∷◌, Option, Some, None, Bool, true, false, sum_by, arith, refl, sym, subst}
use Rattle.std.specs.Prelude.{Result, Ok, Err, drop, ◌==◌, if◌then◌else◌}
use Rattle.std.specs.Option.{option_map_or, option_to_list}
use Rattle.std.proofs.lemmas.List.Sums.{sum_by-append}
use Rattle.chares.specs.declared.carried.Carried.TheVariants.{Letter, Element}
use Rattle.chares.specs.declared.entry.Entry.TheVariants.{Letter as OfLetter, Resumption}
use Rattle.chares.specs.declared.trace_entry.TraceEntry.{TraceEntry}
use Rattle.chares.specs.declared.trace_entry.TraceEntry.TheVariants as Trace
use Rattle.chares.specs.Elements.{ElementView, PackedView}
use Rattle.chares.specs.Letters.{LetterView}
use Rattle.chares.specs.Steps.{Step}
use Rattle.pup_pack.specs.declared.error.PupError.{PupError}
use Rattle.pe_state.specs.Pes.{PeView, Parcel, Item, Acting, front_parcel, received, looked, gave_up, handed_back, noted, departed, resumed, resume_entries, executed, on_letter, passing, shelving, forwarding, installed, installing, on_element, on_parcel, acting_on, acting, pe_after}
use Rattle.pe_state.specs.Rooms.{found, sends_in}
use Rattle.pe_state.specs.declared.acted.Acted.TheVariants.{Installed as IsInstalled}
use Rattle.rts_core.specs.Calls.{Call, Place, Receive, HandBack, Look, Send, NoteDone, Act, Depart, Resume, Refused, MayCall, IsRunning, came_in, gone_in, sent_on, sent_acting, sent_in, after_call}
use Rattle.rts_core.specs.Places.{Life}
use Rattle.rts_core.proofs.Weights.{Weight, of_item}
use Rattle.rts_core.proofs.Moves.{Work, work_sends, Moved, quiet, received_moved, looked_moved, gave_up_moved, handed_back_moved, noted_moved}
use Rattle.rts_core.proofs.HandlerSteps.{departed_moved, resumed_moved}
use Rattle.rts_core.proofs.Acts.{Acts, shelving_moved, forwarding_moved, executed_moved, installed_moved}

-- a step of a PE to another state, in which it receives, gives away and sends this
pub record IsStep {C : Type 0} (step : Step C) (pe pe' : PeView C) (came gone : List Parcel) (sends : List (ℕ × List ℕ)) : Type 0 where
  pub reports : List TraceEntry
  pub work : Option (Work C)
  pub moved : Moved step pe pe' reports work came gone
  pub sent : work_sends step pe.n work ≡ sends

none_in_front : (g : Weight) (k : Life → ℕ) (outbox : List Item) → front_parcel outbox ≡ None → sum_by (of_item g k) (drop 1 outbox) ≡ sum_by (of_item g k) outbox
none_in_front g k [] h = refl
none_in_front g k (x ∷ xs) h = cc

module _ {C : Type 0} (step : Step C) where
  -- a step that runs no handler
  still : (pe pe' : PeView C) (rs : List TraceEntry) (came gone : List Parcel) → Moved step pe pe' rs None came gone → IsStep step pe pe' came gone []
  still pe pe' rs came gone m = record { reports = rs; work = None; moved = m; sent = refl }

  pub same_step : (pe : PeView C) → IsStep step pe pe [] [] []
  same_step pe = still pe pe [] [] [] (quiet step pe pe [] [] [] (λ g k. refl) refl refl refl refl refl)

  gave_up_step : (pe : PeView C) (o : Option Parcel) → front_parcel pe.outbox ≡ o → IsStep step pe (gave_up pe) [] (option_to_list o) []
  gave_up_step pe (Some parcel) h = still pe (gave_up pe) [] [] (parcel ∷ []) (gave_up_moved step pe parcel h)
  gave_up_step pe None h =
      still pe (gave_up pe) [] [] []
      (quiet step pe (gave_up pe) [] [] [] (λ g k. omega (arith, none_in_front g k pe.outbox h)) refl refl refl refl refl)

module _ {C : Type 0} (step : Step C) (pack : C → List ℕ) (pe : PeView C) where
  resumed_step : (e round : ℕ) (o : Option (ElementView C)) → found e pe.room ≡ o
      → IsStep step pe (resumed step pack pe e round) [] [] (sends_in step pack pe.room e pe.n (Resumption round))
  resumed_step e round (Some el) h =
      record {
        reports = resume_entries step pack pe e round;
        work = Some (el, Resumption round);
        moved = resumed_moved step pack pe e round el h;
        sent = rw h refl;
      }
  resumed_step e round None h =
      let none : sends_in step pack pe.room e pe.n (Resumption round) ≡ [] = rw h refl in
      let quiet_so : Moved step pe (resumed step pack pe e round) [] None [] [] =
      quiet step pe (resumed step pack pe e round) [] [] [] (λ g k. rw h (omega (arith, sum_by-append (of_item g k) pe.outbox []))) refl refl refl refl (rw h (omega arith)) in
      subst (λ (v : List (ℕ × List ℕ)). IsStep step pe (resumed step pack pe e round) [] [] v) (sym none) (still step pe (resumed step pack pe e round) [] [] [] quiet_so)

  -- ---- Act, case by case

  abbrev pub ActStep : List (ℕ × List ℕ) → Acting C → Type 0
  ActStep sends a = IsStep step pe a.pe [] [] sends

  act_step : (a : Acting C) (sends : List (ℕ × List ℕ)) (acts : Acts step pe a) → work_sends step pe.n acts.0 ≡ sends → ActStep sends a
  act_step a sends acts is = record { reports = a.trace; work = acts.0; moved = acts.1; sent = is }

  passing_step : (x : Item) (l : LetterView) (look : Option ℕ) (a : Acting C) → pe.hand ≡ Some x → x.parcel ≡ Letter l → passing pe l look ≡ Some a → ActStep [] a
  unfolding forwarding_moved shelving_moved
  passing_step x l None a h p e = cc
  passing_step x l (Some q) a h p e =
      let s : (if q == pe.me then shelving pe l else forwarding pe l q) ≡ a = cc in
      subst (ActStep []) s (by (q == pe.me))
    where
      by : (t : Bool) → ActStep [] (if t then shelving pe l else forwarding pe l q)
      by true = act_step (shelving pe l) [] (shelving_moved step pack pe x l h p) refl
      by false = act_step (forwarding pe l q) [] (forwarding_moved step pack pe x l q h p) refl

  letter_step : (x : Item) (l : LetterView) (look : Option ℕ) (o : Option (ElementView C)) (a : Acting C)
      → pe.hand ≡ Some x → x.parcel ≡ Letter l → found l.to pe.room ≡ o → on_letter step pack pe l look o ≡ Some a → ActStep (sends_in step pack pe.room l.to pe.n (OfLetter l)) a
  unfolding executed_moved
  letter_step x l look None a h p f e =
      let none : sends_in step pack pe.room l.to pe.n (OfLetter l) ≡ [] = rw f refl in
      subst (λ (v : List (ℕ × List ℕ)). ActStep v a) (sym none) (passing_step x l look a h p e)
  letter_step x l look (Some el) a h p f e = by el.progress.started e
    where
      by : (t : Bool) → (if t then Some (executed step pack pe l) else None) ≡ Some a → ActStep (sends_in step pack pe.room l.to pe.n (OfLetter l)) a
      by true s =
          let t : executed step pack pe l ≡ a = cc in
          subst (ActStep (sends_in step pack pe.room l.to pe.n (OfLetter l))) t
          (act_step (executed step pack pe l) (sends_in step pack pe.room l.to pe.n (OfLetter l)) (executed_moved step pack pe x l el h p f) (rw f refl))
      by false s = cc

  module _ (unpack : List ℕ → Result (C × ℕ) PupError) where
    installing_step : (x : Item) (p : PackedView) (u : Result (C × ℕ) PupError) (a : Acting C)
        → pe.hand ≡ Some x → x.parcel ≡ Element p → found p.index pe.room ≡ None → installing step pack unpack pe p u ≡ Some a → ActStep [] a
    unfolding installed_moved
    installing_step x p (Err z) a h is f e = cc
    installing_step x p (Ok y) a h is f e =
        let t : record { acted = IsInstalled; pe = installed pe p y.0; trace = Trace.Installed p.index ∷ [] } ≡ a = cc in
        subst (ActStep []) t (act_step (record { acted = IsInstalled; pe = installed pe p y.0; trace = Trace.Installed p.index ∷ [] }) []
        (installed_moved step pack pe x p y.0 h is f) refl)

    element_step : (x : Item) (p : PackedView) (o : Option (ElementView C)) (a : Acting C)
        → pe.hand ≡ Some x → x.parcel ≡ Element p → found p.index pe.room ≡ o → on_element step pack unpack pe p o ≡ Some a → ActStep [] a
    element_step x p (Some el) a h is f e = cc
    element_step x p None a h is f e = installing_step x p (unpack p.bytes) a h is f e

    parcel_step : (x : Item) (parcel : Parcel) (a : Acting C)
        → pe.hand ≡ Some x → x.parcel ≡ parcel → on_parcel step pack unpack pe parcel x.address ≡ Some a → ActStep (sent_on step pack pe parcel) a
    parcel_step x (Letter l) a h is e = letter_step x l x.address (found l.to pe.room) a h is refl e
    parcel_step x (Element p) a h is e = element_step x p (found p.index pe.room) a h is refl e

    hand_step : (o : Option Item) (a : Acting C) → pe.hand ≡ o → acting_on step pack unpack pe o ≡ Some a → ActStep (option_map_or (λ x. sent_on step pack pe x.parcel) o []) a
    hand_step None a h e = cc
    hand_step (Some x) a h e = parcel_step x x.parcel a h refl e

    acting_step : (o : Option (Acting C)) → acting step pack unpack pe ≡ o → IsStep step pe (pe_after pe o) [] [] (sent_acting step pack pe o)
    acting_step (Some a) e = hand_step pe.hand a refl e
    acting_step None e = same_step step pe

    -- any call except the placing of a chare
    pub call_step : (call : Call C) → MayCall pe call → IsRunning call
        → IsStep step pe (after_call step pack unpack pe call) (came_in call) (gone_in pe call) (sent_in step pack unpack pe call)
    call_step (Place e chare) may running = absurd running
    call_step (Receive parcel) may running = still step pe (received pe parcel) [] (parcel ∷ []) [] (received_moved step pe parcel may)
    call_step (HandBack parcel) may running = still step pe (handed_back pe parcel) [] (parcel ∷ []) [] (handed_back_moved step pe parcel)
    call_step (Look q) may running = still step pe (looked pe q) [] [] [] (looked_moved step pe q)
    call_step Send may running = gave_up_step step pe (front_parcel pe.outbox) refl
    call_step NoteDone may running = still step pe (noted pe) [] [] [] (noted_moved step pe [] refl refl)
    call_step Act may running = acting_step (acting step pack unpack pe) refl
    call_step (Depart e q) may running = still step pe (departed pack pe e q) (Trace.Departed e ∷ []) [] [] (departed_moved step pack pe e q)
    call_step (Resume e round) may running = resumed_step e round (found e pe.room) refl
    call_step Refused may running = same_step step pe
