-- What ties a PE of a run to the seat through which its parcels come and go, so that what is known of all seats in the
-- end, that what was put is what was taken and what is left, is known of what the PEs have given away and received.
use Rattle.std.specs.Prelude.{◌≡◌, ℕ, ◌+◌, List, length, sum_by, slice_get, Some}
use Rattle.chares.specs.Steps.{Step}
use Rattle.pe_state.specs.Pes.{PeView, Parcel}
use Rattle.pe_queues.specs.Seats.{PostView, SeatView, pes}
use Rattle.rts_core.specs.Ledgers.{Ledger, IsLocalAccount}

-- the sum of a weight over the lists of a list
abbrev pub sum_each : {X : Type 0} → (X → ℕ) → List (List X) → ℕ
sum_each weight lists = sum_by (λ xs. sum_by weight xs) lists

-- What a PE has received was taken through its seat, and what it has given away was put through it, except for what came
-- back at once: however parcels are weighed, what came in and what was put weigh what went out and what was taken.
pub record Matches (ledger : Ledger) (seat : SeatView Parcel) : Type 0 where
  pub all_puts : length seat.puts ≡ pes seat.post
  pub all_takes : length seat.takes ≡ pes seat.post
  pub matched : (weight : Parcel → ℕ) → sum_by weight ledger.came + sum_each weight seat.puts ≡ sum_by weight ledger.gone + sum_each weight seat.takes

-- how a run begins: its queues, its PEs as they begin, and how many seats each PE has
pub record Beginning (C : Type 0) : Type 0 where
  pub post : PostView
  pub starts : List (PeView C)
  pub shares : List ℕ

-- A PE of a run of this many PEs, with its seat. It began as its opening says, and its whole local account is one of what
-- went through the seat.
pub record IsSeated {C : Type 0} (step : Step C) (opened : List C) (count : ℕ) (run : Beginning C) (pe : PeView C) (seat : SeatView Parcel) : Type 0 where
  pub own : seat.post ≡ run.post
  pub share : slice_get run.shares pe.me ≡ Some seat.seats
  pub served : pes run.post ≡ count
  pub start : PeView C
  pub started : slice_get run.starts pe.me ≡ Some start
  pub ledger : Ledger
  pub local : IsLocalAccount step opened start pe ledger
  pub matches : Matches ledger seat

-- such a PE with its seat, as contracts see it
pub record SeatedView (C : Type 0) : Type 0 where
  pub pe : PeView C
  pub seat : SeatView Parcel
