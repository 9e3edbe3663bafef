-- What is known of the first PEs of a run once their workers have ended and their seats are joined into one: the sums of
-- their local accounts.
use Rattle.std.specs.Prelude.{◌≡◌, ℕ, ◌+◌, ◌-◌, ◌≤◌, List, length, map, sum_by, slice_get, All}
use Rattle.std.specs.List.{flat_map, range_with_len}
use Rattle.std.specs.Option.{option_map_or}
use Rattle.chares.specs.Letters.{LetterView}
use Rattle.chares.specs.Steps.{Step}
use Rattle.pe_state.specs.Pes.{PeView, Parcel}
use Rattle.pe_queues.specs.Seats.{SeatView}
use Rattle.rts_core.specs.Accounts.{message}
use Rattle.pe_state.specs.Histories.{HasHistories}
use Rattle.rts_core.specs.Ledgers.{Ledger, IsSteady, all_letters_in, all_letters_at}
use Rattle.rts_core.specs.Places.{Life, lives_in, lives_at, sends_of}
use Rattle.pe_worker.specs.Seated.{Beginning, Matches}

-- a letter by its number, its element and its body
abbrev pub weigh : (ℕ × ℕ → ℕ → List ℕ → ℕ) → LetterView → ℕ
weigh weight l = weight l.id l.to l.body

-- the numbers of the letters that a PE has posted
abbrev pub numbers_of : {C : Type 0} → PeView C → List (ℕ × ℕ)
numbers_of pe = map (λ k. (pe.me, k)) (range_with_len 0 pe.count)

-- what the letters of a PE weigh, its elements, and what these have sent
abbrev pub letters_of : {C : Type 0} → (ℕ × ℕ → ℕ → List ℕ → ℕ) → PeView C → ℕ
letters_of weight pe = sum_by (weigh weight) (all_letters_at pe)

abbrev pub lives_of : {C : Type 0} → (Life → ℕ) → PeView C → ℕ
lives_of weight pe = sum_by weight (lives_at pe)

abbrev pub sends_by : {C : Type 0} → Step C → List C → (ℕ × List ℕ → ℕ) → PeView C → ℕ
sends_by step opened weight pe = sum_by weight (flat_map (sends_of step opened) (lives_at pe))

-- what the PE with this number weighed as the run began
abbrev pub at_start : {C : Type 0} → (PeView C → ℕ) → List (PeView C) → ℕ → ℕ
at_start weight starts q = option_map_or weight (slice_get starts q) 0

-- how many letters the PE with this number had posted as the run began
abbrev pub count_before : {C : Type 0} → List (PeView C) → ℕ → ℕ
count_before starts q = at_start (λ pe. pe.count) starts q

-- each PE has posted as many letters as at the start, or more
abbrev pub CountOn : {C : Type 0} → List (PeView C) → List (PeView C) → Type 0
CountOn starts ends = (q : ℕ) → count_before starts q ≤ count_before ends q

-- the numbers of the letters that a PE has posted since the run began
abbrev pub numbers_since : {C : Type 0} → List (PeView C) → PeView C → List (ℕ × ℕ)
numbers_since starts pe = map (λ k. (pe.me, k)) (range_with_len (count_before starts pe.me) (pe.count - count_before starts pe.me))

-- how many seats the PE with this number has
abbrev pub share_at : List ℕ → ℕ → ℕ
share_at shares q = option_map_or (λ n. n) (slice_get shares q) 0

-- the first PEs of a run, in order, and the seat that their seats were joined to
pub record AreGathered {C : Type 0} (step : Step C) (fits : C → Type 0) (pack : C → List ℕ) (opened : List C) (run : Beginning C)
    (ends : List (PeView C)) (seat : SeatView Parcel) : Type 0 where
  pub own : seat.post ≡ run.post
  pub share : seat.seats ≡ sum_by (λ pe. share_at run.shares pe.me) ends
  pub histories : All (HasHistories step fits pack opened) ends
  pub in_order : map (λ pe. pe.me) ends ≡ range_with_len 0 (length ends)
  pub ledger : Ledger
  pub letters : (weight : ℕ × ℕ → ℕ → List ℕ → ℕ) → sum_by (letters_of weight) ends + sum_by (weigh weight)
      (flat_map all_letters_in ledger.gone) ≡ sum_by (λ pe. at_start (letters_of weight) run.starts pe.me) ends + sum_by (weigh weight)
      (flat_map all_letters_in ledger.came) + sum_by (weigh weight) ledger.posted
  pub grown : All (λ pe. count_before run.starts pe.me ≤ pe.count) ends
  pub numbered : map (λ l. l.id) ledger.posted ≡ flat_map (numbers_since run.starts) ends
  pub lives : (weight : Life → ℕ) → IsSteady weight → sum_by (lives_of weight) ends + sum_by weight (flat_map lives_in ledger.gone) ≡ sum_by
      (λ pe. at_start (lives_of weight) run.starts pe.me) ends + sum_by weight (flat_map lives_in ledger.came)
  pub sent : (weight : ℕ × List ℕ → ℕ) → sum_by (sends_by step opened weight) ends + sum_by weight
      (flat_map (sends_of step opened) (flat_map lives_in ledger.gone)) ≡ sum_by
      (λ pe. at_start (sends_by step opened weight) run.starts pe.me) ends + sum_by (λ l. weight (message l)) ledger.posted + sum_by weight
      (flat_map (sends_of step opened) (flat_map lives_in ledger.came))
  pub matches : Matches ledger seat

-- such PEs, as contracts see them, with the capacity that was reserved for all
pub record GatheredView (C : Type 0) : Type 0 where
  pub ends : List (PeView C)
  pub seat : SeatView Parcel
  pub room : ℕ
