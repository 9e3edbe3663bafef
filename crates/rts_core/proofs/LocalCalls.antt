-- The letters of one PE are balanced after any calls, one after another.
use Rattle.std.proofs.Common.{◌≡◌, ℕ, ◌+◌, List, [], ◌∷◌, None, arith, refl, ◌∙◌, ap, subst}
use Rattle.std.specs.Prelude.{Result}
use Rattle.chares.specs.Elements.{ElementView, opening_element}
use Rattle.chares.specs.Letters.{LetterView}
use Rattle.chares.specs.Posting.{letter_to}
use Rattle.chares.specs.Steps.{Step}
use Rattle.pup_pack.specs.declared.error.PupError.{PupError}
use Rattle.pe_state.specs.Pes.{PeView, Parcel, new_pe, placed}
use Rattle.pe_state.specs.Rooms.{found, joined}
use Rattle.rts_core.specs.Calls.{Call, Place, Receive, HandBack, Look, Send, NoteDone, Act, Depart, Resume, Refused, posted_as, MayCall, IsRunning, came_in, gone_in, sent_in, after_call, with_call, MayMake, after_calls, with_calls}
use Rattle.rts_core.specs.Ledgers.{Ledger, no_ledger, entered_in, all_letters_at, letters_weigh, AddsUp}
use Rattle.rts_core.proofs.Weights.{of_element, of_room, sum_joined}
use Rattle.rts_core.proofs.Moves.{numbered, work_sends}
use Rattle.rts_core.proofs.Listings.{no_life, no_letter}
use Rattle.rts_core.proofs.LocalBalance.{in_journal, pe_all, balance_moved}
use Rattle.rts_core.proofs.LocalSteps.{IsStep, same_step, call_step}

pub posted_numbered : (me k : ℕ) (sends : List (ℕ × List ℕ)) → numbered me k sends ≡ posted_as me k sends
posted_numbered me k [] = refl
posted_numbered me k (send ∷ sends) = ap (λ (v : List LetterView). letter_to me k send.0 send.1 ∷ v) (posted_numbered me (k + 1) sends)

-- a PE that has done nothing since it began has an empty ledger
pub nothing_yet : {C : Type 0} (pe : PeView C) → AddsUp pe pe no_ledger
nothing_yet pe = record {
  conserved = λ g. let a = letters_weigh g (all_letters_at pe) in omega arith;
  counted = omega arith;
  numbered = refl;
}

-- what a step posts
pub step_posts : {C : Type 0} (step : Step C) (pe pe' : PeView C) (came gone : List Parcel) (sends : List (ℕ × List ℕ)) (s : IsStep step pe pe' came gone sends)
    → numbered pe.me pe.count (work_sends step pe.n s.work) ≡ posted_as pe.me pe.count sends
step_posts step pe pe' came gone sends s = posted_numbered pe.me pe.count (work_sends step pe.n s.work) ∙ ap (posted_as pe.me pe.count) s.sent

module _ {C : Type 0} (step : Step C) (start : PeView C) (ledger : Ledger) where
  pub balance_step : (pe pe' : PeView C) (came gone : List Parcel) (sends : List (ℕ × List ℕ)) → IsStep step pe pe' came gone sends → AddsUp start pe ledger
      → AddsUp start pe' (entered_in ledger came gone (posted_as pe.me pe.count sends))
  balance_step pe pe' came gone sends s b =
      subst (λ (v : List LetterView). AddsUp start pe' (entered_in ledger came gone v)) (step_posts step pe pe' came gone sends s)
      (balance_moved step start pe pe' s.reports s.work came gone ledger s.moved b)

  -- an element that has done nothing brings no letters
  balance_placed : (pe : PeView C) (e : ℕ) (chare : C) → found e pe.room ≡ None → AddsUp start pe ledger → AddsUp start (placed pe e chare) (entered_in ledger [] [] [])
  balance_placed pe e chare lacks b =
      let same : AddsUp start pe (entered_in ledger [] [] []) = balance_step pe pe [] [] [] (same_step step pe) b in
      record {
        conserved = λ g.
            let el : ElementView C = opening_element e chare in
            let a = pe_all g pe in
            let f = pe_all g (placed pe e chare) in
            let r : of_room g no_life (joined e el pe.room) ≡ of_room g no_life pe.room + 0 = sum_joined (of_element g no_life) pe.room e el lacks in
            let s : of_room no_letter (in_journal g) (joined e el pe.room) ≡ of_room no_letter (in_journal g) pe.room + 0 = sum_joined
            (of_element no_letter (in_journal g)) pe.room e el lacks in
            let z = same.conserved g in
            omega (arith, a, f, r, s, z);
        counted = same.counted;
        numbered = same.numbered;
      }

  module _ (pack : C → List ℕ) (unpack : List ℕ → Result (C × ℕ) PupError) where
    running_call : (pe : PeView C) (call : Call C) → MayCall pe call → IsRunning call → AddsUp start pe ledger
        → AddsUp start (after_call step pack unpack pe call) (with_call step pack unpack ledger pe call)
    running_call pe call may running b = balance_step pe (after_call step pack unpack pe call) (came_in call) (gone_in pe call)
        (sent_in step pack unpack pe call) (call_step step pack pe unpack call may running) b

    -- any call
    pub kept_call : (pe : PeView C) (call : Call C) → MayCall pe call → AddsUp start pe ledger
        → AddsUp start (after_call step pack unpack pe call) (with_call step pack unpack ledger pe call)
    kept_call pe (Place e chare) may b = balance_placed pe e chare may b
    kept_call pe (Receive parcel) may b = running_call pe (Receive parcel) may tt b
    kept_call pe (HandBack parcel) may b = running_call pe (HandBack parcel) may tt b
    kept_call pe (Look q) may b = running_call pe (Look q) may tt b
    kept_call pe Send may b = running_call pe Send may tt b
    kept_call pe NoteDone may b = running_call pe NoteDone may tt b
    kept_call pe Act may b = running_call pe Act may tt b
    kept_call pe (Depart e q) may b = running_call pe (Depart e q) may tt b
    kept_call pe (Resume e round) may b = running_call pe (Resume e round) may tt b
    kept_call pe Refused may b = running_call pe Refused may tt b

module _ {C : Type 0} (step : Step C) (pack : C → List ℕ) (unpack : List ℕ → Result (C × ℕ) PupError) where
  pub kept_calls : (start : PeView C) (ledger : Ledger) (pe : PeView C) (calls : List (Call C)) → MayMake step pack unpack pe calls → AddsUp start pe ledger
      → AddsUp start (after_calls step pack unpack pe calls) (with_calls step pack unpack ledger pe calls)
  kept_calls start ledger pe [] may b = b
  kept_calls start ledger pe (call ∷ calls) (may, more) b =
      kept_calls start (with_call step pack unpack ledger pe call) (after_call step pack unpack pe call) calls more (kept_call step start ledger pack unpack pe call may b)

  pub all_calls : (me n : ℕ) (calls : List (Call C)) → MayMake step pack unpack (new_pe me n) calls
      → AddsUp (new_pe me n) (after_calls step pack unpack (new_pe me n) calls) (with_calls step pack unpack no_ledger (new_pe me n) calls)
  all_calls me n calls may = kept_calls (new_pe me n) no_ledger (new_pe me n) calls may (nothing_yet (new_pe me n))
