-- The calls of one PE, one after another in any order, and its ledger after them: what it has received, given away and
-- posted. A call that is refused changes nothing.
use Rattle.std.specs.Prelude.{◌≡◌, ℕ, ◌+◌, List, [], ◌∷◌, Option, None, Some, Result}
use Rattle.std.specs.Option.{option_map_or, option_to_list}
use Rattle.chares.specs.declared.carried.Carried.TheVariants.{Letter, Element}
use Rattle.chares.specs.declared.entry.Entry.TheVariants.{Letter as OfLetter, Resumption}
use Rattle.chares.specs.Letters.{LetterView}
use Rattle.chares.specs.Posting.{letter_to}
use Rattle.chares.specs.Steps.{Step}
use Rattle.pup_pack.specs.declared.error.PupError.{PupError}
use Rattle.pe_state.specs.Pes.{PeView, Parcel, Acting, new_pe, front_parcel, placed, received, looked, gave_up, handed_back, noted, departed, resumed, acting, pe_after}
use Rattle.pe_state.specs.Histories.{HasHistories}
use Rattle.pe_state.specs.Rooms.{found, sends_in, IsKeyed}
use Rattle.rts_core.specs.Ledgers.{Ledger, no_ledger, entered_in, AddsUp, IsLocalAccount}

-- a call of a PE: a chare is placed as an element; a parcel is received, or handed back; an element is looked up; the
-- front of the outbox is sent; a note is done; the PE acts; an element departs to a PE, or is resumed after a round; or
-- any of these is refused
pub data Call (C : Type 0) : Type 0 where
  Place : ℕ → C → Call C
  Receive : Parcel → Call C
  HandBack : Parcel → Call C
  Look : ℕ → Call C
  Send : Call C
  NoteDone : Call C
  Act : Call C
  Depart : ℕ → ℕ → Call C
  Resume : ℕ → ℕ → Call C
  Refused : Call C

-- the letters of these sends, numbered upwards from k
abbrev pub posted_as : ℕ → ℕ → List (ℕ × List ℕ) → List LetterView
posted_as me k [] = []
posted_as me k (send ∷ sends) = letter_to me k send.0 send.1 ∷ posted_as me (k + 1) sends

-- no element is placed where there is one with its index already, and no parcel is received into a hand that holds one;
-- whatever else a call requires, the account does not need
abbrev pub MayCall : {C : Type 0} → PeView C → Call C → Type 0
MayCall pe (Place e chare) = found e pe.room ≡ None
MayCall pe (Receive parcel) = pe.hand ≡ None
MayCall pe call = Unit {0}

-- a call other than the placing of a chare, with which a run opens
abbrev pub IsRunning : {C : Type 0} → Call C → Type 0
IsRunning (Place e chare) = ⊥
IsRunning call = Unit {0}

-- the parcels that a PE receives in a call, and those that it gives away
abbrev pub came_in : {C : Type 0} → Call C → List Parcel
came_in (Receive parcel) = parcel ∷ []
came_in (HandBack parcel) = parcel ∷ []
came_in call = []

abbrev pub gone_in : {C : Type 0} → PeView C → Call C → List Parcel
gone_in pe Send = option_to_list (front_parcel pe.outbox)
gone_in pe call = []

module _ {C : Type 0} (step : Step C) (pack : C → List ℕ) where
  -- what is sent where a parcel is acted on: what the element of a letter sends where it is on the PE, and otherwise
  -- nothing
  abbrev pub sent_on : PeView C → Parcel → List (ℕ × List ℕ)
  sent_on pe (Letter l) = sends_in step pack pe.room l.to pe.n (OfLetter l)
  sent_on pe (Element p) = []

  abbrev pub sent_acting : PeView C → Option (Acting C) → List (ℕ × List ℕ)
  sent_acting pe None = []
  sent_acting pe (Some a) = option_map_or (λ x. sent_on pe x.parcel) pe.hand []

module _ {C : Type 0} (step : Step C) (pack : C → List ℕ) (unpack : List ℕ → Result (C × ℕ) PupError) where
  -- the PE after a call
  abbrev pub after_call : PeView C → Call C → PeView C
  after_call pe (Place e chare) = placed pe e chare
  after_call pe (Receive parcel) = received pe parcel
  after_call pe (HandBack parcel) = handed_back pe parcel
  after_call pe (Look q) = looked pe q
  after_call pe Send = gave_up pe
  after_call pe NoteDone = noted pe
  after_call pe Act = pe_after pe (acting step pack unpack pe)
  after_call pe (Depart e q) = departed pack pe e q
  after_call pe (Resume e round) = resumed step pack pe e round
  after_call pe Refused = pe

  -- what is sent in a call
  abbrev pub sent_in : PeView C → Call C → List (ℕ × List ℕ)
  sent_in pe Act = sent_acting step pack pe (acting step pack unpack pe)
  sent_in pe (Resume e round) = sends_in step pack pe.room e pe.n (Resumption round)
  sent_in pe call = []

  -- a ledger with one more call
  abbrev pub with_call : Ledger → PeView C → Call C → Ledger
  with_call ledger pe call = entered_in ledger (came_in call) (gone_in pe call) (posted_as pe.me pe.count (sent_in pe call))

  -- some calls may be made, one after another
  abbrev pub MayMake : PeView C → List (Call C) → Type 0
  MayMake pe [] = Unit {0}
  MayMake pe (call ∷ calls) = MayCall pe call × MayMake (after_call pe call) calls

  -- the PE after them, and its ledger
  abbrev pub after_calls : PeView C → List (Call C) → PeView C
  after_calls pe [] = pe
  after_calls pe (call ∷ calls) = after_calls (after_call pe call) calls

  abbrev pub with_calls : Ledger → PeView C → List (Call C) → Ledger
  with_calls ledger pe [] = ledger
  with_calls ledger pe (call ∷ calls) = with_calls (with_call ledger pe call) (after_call pe call) calls

  -- after these calls, from an empty PE on, what the PE has adds up with its ledger
  abbrev pub AddsUpAfter : ℕ → ℕ → List (Call C) → Type 0
  AddsUpAfter me n calls = AddsUp (new_pe me n) (after_calls (new_pe me n) calls) (with_calls no_ledger (new_pe me n) calls)

  -- one more call keeps that
  abbrev pub KeepsAddingUp : PeView C → PeView C → Ledger → Call C → Type 0
  KeepsAddingUp start pe ledger call = MayCall pe call → AddsUp start pe ledger → AddsUp start (after_call pe call) (with_call ledger pe call)

  -- one more call, other than the placing of a chare, keeps the local account of a PE whose elements are what their
  -- journals say
  abbrev pub KeepsLocalAccount : (C → Type 0) → List C → PeView C → PeView C → Ledger → Call C → Type 0
  KeepsLocalAccount fits opened start pe ledger call =
      MayCall pe call → IsRunning call → HasHistories step fits pack opened pe → IsKeyed pe.room
      → IsLocalAccount step opened start pe ledger → IsLocalAccount step opened start (after_call pe call) (with_call ledger pe call)
