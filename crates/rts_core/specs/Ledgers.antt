-- The local account of one PE, over all calls since it began: what it has received and given away, and what it has posted.
use Rattle.std.specs.Prelude.{◌≡◌, ℕ, ◌+◌, List, [], ◌∷◌, ◌++◌, length, map, sum_by, All}
use Rattle.std.specs.List.{flat_map, range_with_len}
use Rattle.chares.specs.Letters.{LetterView, Done}
use Rattle.chares.specs.Steps.{Step}
use Rattle.pe_state.specs.Pes.{PeView, Parcel}
use Rattle.rts_core.specs.Accounts.{message}
use Rattle.rts_core.specs.Places.{Life, letters_in, lives_in, letters_at, lives_at, letters_of_entry, letters_of_life, sends_of}

-- the parcels that a PE has received, those that it has given away, and the letters that it has posted
pub record Ledger : Type 0 where
  pub came : List Parcel
  pub gone : List Parcel
  pub posted : List LetterView

-- the ledger of a PE that has done nothing since it began
abbrev pub no_ledger : Ledger
no_ledger = record { came = []; gone = []; posted = [] }

-- with what one more call has received, given away and posted
abbrev pub entered_in : Ledger → List Parcel → List Parcel → List LetterView → Ledger
entered_in ledger came gone new = record { came = ledger.came ++ came; gone = ledger.gone ++ gone; posted = ledger.posted ++ new }

-- the letters of a parcel: the letter itself, or those in the journal of the element
abbrev pub all_letters_in : Parcel → List LetterView
all_letters_in parcel = letters_in parcel ++ flat_map letters_of_life (lives_in parcel)

-- the letters of a PE: those in its places and those in the journals of its elements
abbrev pub all_letters_at : {C : Type 0} → PeView C → List LetterView
all_letters_at pe = letters_at pe ++ flat_map letters_of_life (lives_at pe)

-- the sum of a weight of the number, the element and the body of each of these letters
abbrev pub letters_weigh : (ℕ × ℕ → ℕ → List ℕ → ℕ) → List LetterView → ℕ
letters_weigh weight letters = sum_by (λ l. weight l.id l.to l.body) letters

-- The letters that a PE began with, and those that it has posted and received since, are those that it has given away, holds and
-- has in journals: by any weight, the sums agree. And the numbers posted go on from the count that it began with, in order.
pub record AddsUp {C : Type 0} (start pe : PeView C) (ledger : Ledger) : Type 0 where
  pub conserved : (weight : ℕ × ℕ → ℕ → List ℕ → ℕ) → letters_weigh weight (all_letters_at pe) + letters_weigh weight
      (flat_map all_letters_in ledger.gone) ≡ letters_weigh weight (all_letters_at start) + letters_weigh weight
      (flat_map all_letters_in ledger.came) + letters_weigh weight ledger.posted
  pub counted : pe.count ≡ start.count + length ledger.posted
  pub numbered : map (λ l. l.id) ledger.posted ≡ map (λ k. (pe.me, k)) (range_with_len start.count (length ledger.posted))

-- A weight of elements that no handler changes: an element weighs the same after one more entry, whether that is a
-- resumption or a letter that was posted to it. Any weight by the index alone is one, and so is the number of letters of
-- others that it has executed.
abbrev pub IsSteady : (Life → ℕ) → Type 0
IsSteady weight = (e : ℕ) (journal : List Done) (done : Done) → All (λ l. l.to ≡ e) (letters_of_entry done) → weight (e, journal ++ done ∷ []) ≡ weight (e, journal)

-- The whole local account of a PE that began as `start`. Its letters add up. The elements that it had and received are
-- those that it has and has given away, by any weight that no handler changes. And what its elements have sent, and those
-- that it gave away, is what it has posted and what the elements that it began with and received had sent before, with target
-- and body.
pub record IsLocalAccount {C : Type 0} (step : Step C) (opened : List C) (start pe : PeView C) (ledger : Ledger) : Type 0 where
  pub same_me : pe.me ≡ start.me
  pub letters : AddsUp start pe ledger
  pub lives : (weight : Life → ℕ) → IsSteady weight → sum_by weight (lives_at pe) + sum_by weight (flat_map lives_in ledger.gone) ≡ sum_by
      weight (lives_at start) + sum_by weight (flat_map lives_in ledger.came)
  pub sent : (weight : ℕ × List ℕ → ℕ) → sum_by weight (flat_map (sends_of step opened) (lives_at pe)) + sum_by weight
      (flat_map (sends_of step opened) (flat_map lives_in ledger.gone)) ≡ sum_by weight
      (flat_map (sends_of step opened) (lives_at start)) + sum_by (λ l. weight (message l)) ledger.posted + sum_by weight
      (flat_map (sends_of step opened) (flat_map lives_in ledger.came))

-- a PE on which nothing has happened: it has posted no letter and holds none, and its elements have executed and sent nothing
pub record IsUnused {C : Type 0} (step : Step C) (opened : List C) (pe : PeView C) : Type 0 where
  pub no_posts : pe.count ≡ 0
  pub no_letters : (weight : ℕ × ℕ → ℕ → List ℕ → ℕ) → letters_weigh weight (all_letters_at pe) ≡ 0
  pub no_sends : (weight : ℕ × List ℕ → ℕ) → sum_by weight (flat_map (sends_of step opened) (lives_at pe)) ≡ 0
