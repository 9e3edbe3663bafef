-- What one step of a PE keeps: what it holds, received and posted weighs what it holds after it, gave away and executed,
-- by any weight of letters and elements.
use Rattle.std.proofs.Common.{◌≡◌, ℕ, ◌+◌, List, [], ◌∷◌, ◌++◌, length, Option, Some, None, sum_by, arith, refl, ap}
use Rattle.std.specs.Prelude.{All, IfSome, drop}
use Rattle.std.specs.Option.{option_map}
use Rattle.std.proofs.lemmas.List.Sums.{sum_by-cons}
use Rattle.chares.specs.declared.trace_entry.TraceEntry.{TraceEntry}
use Rattle.chares.specs.Elements.{ElementView}
use Rattle.chares.specs.Letters.{LetterView, Done, input_of}
use Rattle.chares.specs.Posting.{letter_to}
use Rattle.chares.specs.Steps.{Step}
use Rattle.pe_state.specs.Pes.{PeView, Parcel, Item, front_parcel, front_at, received, looked, looked_in, hand_wants, gave_up, handed_back, noted}
use Rattle.pe_state.specs.Rooms.{found}
use Rattle.rts_core.specs.Places.{Life, life_of, letters_of_entry}
use Rattle.rts_core.specs.Accounts.{Said, posts, executions}
use Rattle.rts_core.proofs.Weights.{Weight, weigh, of_parcel, of_item, of_hand, of_pe, of_queue}

-- what a handler handles: an element, and the entry for it
abbrev pub Work : Type 0 → Type 0
Work C = ElementView C × Done

-- the letters that are posted with these sends
abbrev pub numbered : ℕ → ℕ → List (ℕ × List ℕ) → List LetterView
numbered me count [] = []
numbered me count (s ∷ ss) = letter_to me count s.0 s.1 ∷ numbered me (count + 1) ss

abbrev pub work_letters : {C : Type 0} → Option (Work C) → List LetterView
work_letters None = []
work_letters (Some x) = letters_of_entry x.1

abbrev pub before : {C : Type 0} → (Life → ℕ) → Option (Work C) → ℕ
before k None = 0
before k (Some x) = k (life_of x.0)

abbrev pub after : {C : Type 0} → (Life → ℕ) → Option (Work C) → ℕ
after k None = 0
after k (Some x) = k (x.0.index, x.0.journal ++ x.1 ∷ [])

abbrev pub work_sends : {C : Type 0} → Step C → ℕ → Option (Work C) → List (ℕ × List ℕ)
work_sends step n None = []
work_sends step n (Some x) = (step x.0.chare x.0.index n (input_of x.1)).sends

abbrev pub posted : {C : Type 0} → Step C → PeView C → Option (Work C) → List LetterView
posted step pe work = numbered pe.me pe.count (work_sends step pe.n work)

-- a step of a PE to another state, with these trace entries, that runs this handler, receives these parcels and gives
-- these away
pub record Moved {C : Type 0} (step : Step C) (pe pe' : PeView C) (rs : List TraceEntry) (work : Option (Work C)) (came gone : List Parcel) : Type 0 where
  pub weighs : (g : Weight) (k : Life → ℕ)
      → of_pe g k pe' + (sum_by (weigh g) (work_letters work) + (before k work + of_queue g k gone)) ≡ of_pe g k
      pe + (sum_by (weigh g) (posted step pe work) + (after k work + of_queue g k came))
  pub stood : IfSome work (λ x. (e : ℕ) × (found e pe.room ≡ Some x.0) × All (λ l. l.to ≡ e) (letters_of_entry x.1))
  pub tells_posts : (r : Said → ℕ) → sum_by r (posts rs) ≡ sum_by (λ l. r (l.id, l.to)) (posted step pe work)
  pub tells_executions : (r : Said → ℕ) → sum_by r (executions rs) ≡ sum_by (λ l. r (l.id, l.to)) (work_letters work)
  pub same_me : pe'.me ≡ pe.me
  pub same_n : pe'.n ≡ pe.n
  pub counted : pe'.count ≡ pe.count + length (work_sends step pe.n work)

-- ---- steps that run no handler

pub quiet : {C : Type 0} (step : Step C) (pe pe' : PeView C) (rs : List TraceEntry) (came gone : List Parcel)
    → ((g : Weight) (k : Life → ℕ) → of_pe g k pe' + of_queue g k gone ≡ of_pe g k pe + of_queue g k came)
    → posts rs ≡ [] → executions rs ≡ [] → pe'.me ≡ pe.me → pe'.n ≡ pe.n → pe'.count ≡ pe.count
    → Moved step pe pe' rs None came gone
quiet step pe pe' rs came gone w p x me n count =
    record {
      weighs = λ g k. let a = w g k in omega (arith, a);
      stood = tt;
      tells_posts = λ r. rw p refl;
      tells_executions = λ r. rw x refl;
      same_me = me;
      same_n = n;
      counted = omega (arith, count);
    }

pub received_moved : {C : Type 0} (step : Step C) (pe : PeView C) (parcel : Parcel) → pe.hand ≡ None → Moved step pe (received pe parcel) [] None (parcel ∷ []) []
received_moved step pe parcel h =
    quiet step pe (received pe parcel) [] (parcel ∷ []) []
    (λ g k. rw h (omega (arith, sum_by-cons (of_parcel g k) parcel [])))
    refl refl refl refl refl

pub noted_moved : {C : Type 0} (step : Step C) (pe : PeView C) (rs : List TraceEntry) → posts rs ≡ [] → executions rs ≡ [] → Moved step pe (noted pe) rs None [] []
noted_moved step pe rs p x = quiet step pe (noted pe) rs [] [] (λ g k. refl) p x refl refl refl

pub hand_at : (g : Weight) (k : Life → ℕ) (q : ℕ) (hand : Option Item) → of_hand g k (option_map (λ x. record { parcel = x.parcel; address = Some q }) hand) ≡ of_hand g k hand
hand_at g k q None = refl
hand_at g k q (Some x) = refl

pub box_at : (g : Weight) (k : Life → ℕ) (q : ℕ) (outbox : List Item) → sum_by (of_item g k) (front_at q outbox) ≡ sum_by (of_item g k) outbox
box_at g k q [] = refl
box_at g k q (x ∷ xs) = refl

pub looked_in_moved : {C : Type 0} (step : Step C) (pe : PeView C) (q : ℕ) (o : Option ℕ) → Moved step pe (looked_in pe q o) [] None [] []
looked_in_moved step pe q (Some e) = quiet step pe (looked_in pe q (Some e)) [] [] [] (λ g k. omega (arith, hand_at g k q pe.hand)) refl refl refl refl refl
looked_in_moved step pe q None = quiet step pe (looked_in pe q None) [] [] [] (λ g k. omega (arith, box_at g k q pe.outbox)) refl refl refl refl refl

pub looked_moved : {C : Type 0} (step : Step C) (pe : PeView C) (q : ℕ) → Moved step pe (looked pe q) [] None [] []
looked_moved step pe q = looked_in_moved step pe q (hand_wants pe)

pub box_front : (g : Weight) (k : Life → ℕ) (parcel : Parcel) (outbox : List Item) → front_parcel outbox ≡ Some parcel
    → sum_by (of_item g k) (drop 1 outbox) + of_parcel g k parcel ≡ sum_by (of_item g k) outbox
box_front g k parcel [] h = cc
box_front g k parcel (x ∷ xs) h =
    let e : x.parcel ≡ parcel = cc in
    let a : of_parcel g k x.parcel ≡ of_parcel g k parcel = ap (of_parcel g k) e in
    let b : sum_by (of_item g k) (x ∷ xs) ≡ of_parcel g k x.parcel + sum_by (of_item g k) xs = sum_by-cons (of_item g k) x xs in
    omega (arith, a, b)

pub gave_up_moved : {C : Type 0} (step : Step C) (pe : PeView C) (parcel : Parcel) → front_parcel pe.outbox ≡ Some parcel → Moved step pe (gave_up pe) [] None [] (parcel ∷ [])
gave_up_moved step pe parcel h =
    quiet step pe (gave_up pe) [] [] (parcel ∷ [])
    (λ g k. omega (arith, box_front g k parcel pe.outbox h, sum_by-cons (of_parcel g k) parcel []))
    refl refl refl refl refl

pub handed_back_moved : {C : Type 0} (step : Step C) (pe : PeView C) (parcel : Parcel) → Moved step pe (handed_back pe parcel) [] None (parcel ∷ []) []
handed_back_moved step pe parcel =
    quiet step pe (handed_back pe parcel) [] (parcel ∷ []) []
    (λ g k.
    let b : sum_by (of_item g k) (record { parcel = parcel; address = pe.kept } ∷ pe.outbox) ≡ of_parcel g k parcel + sum_by (of_item g k)
    pe.outbox = sum_by-cons (of_item g k) (record { parcel = parcel; address = pe.kept }) pe.outbox in
    omega (arith, b, sum_by-cons (of_parcel g k) parcel []))
    refl refl refl refl refl
