-- What a run begins with.
use Rattle.std.specs.Prelude.{◌≡◌, ℕ, List, [], length, map, sum_by, All}
use Rattle.std.specs.List.{range_with_len}
use Rattle.sync_board.specs.Boards.{BoardState, Kept}
use Rattle.barrier.specs.Rounds.{BeginWith}
use Rattle.sync_board.specs.declared.strategy.Strategy.{Strategy}
use Rattle.chare_index.specs.declared.limits.TheConstants.Limits.{SEATS}
use Rattle.lb_database.specs.Measuring.{elements}
use Rattle.pe_queues.specs.Seats.{new_seat, pes, PostView, SeatView}
use Rattle.pe_queues.specs.Whereabouts.{Whereabouts}
use Rattle.chares.specs.Steps.{Step}
use Rattle.pe_state.specs.Pes.{Parcel}
use Rattle.pe_worker.specs.Seated.{Beginning}
use Rattle.run_account.specs.RunAccounts.{IsRunAccount, left_world}

-- A run of these chares on this many PEs begins so, whether it opens or is carried on: with PEs in order whose account holds, an empty
-- queue for each of them, and all seats shared out among them.
pub record IsBeginning {C : Type 0} (step : Step C) (count : ℕ) (chares : List C) (run : Beginning C) : Type 0 where
  pub account : IsRunAccount step chares (left_world run.starts [])
  pub in_order : map (λ pe. pe.me) run.starts ≡ range_with_len 0 (length run.starts)
  pub counted : length run.starts ≡ count
  pub served : pes run.post ≡ count
  pub shared : length run.shares ≡ count
  pub all_seats : sum_by (λ n. n) run.shares ≡ SEATS

-- The words are those of such a run, and the board is one of its chares and PEs, on which its strategy decides, and whose first rounds
-- are those that were decided earlier.
pub record AreOfRun {A : Type 0} (count elements_count : ℕ) (strategy : Strategy) (earlier : List (Kept A)) (words : Whereabouts) (board : BoardState A) : Type 0 where
  pub word_pes : words.pes ≡ count
  pub word_elements : words.elements ≡ elements_count
  pub elements : elements board.database ≡ elements_count
  pub on_pes : board.pes ≡ count
  pub by_strategy : board.strategy ≡ strategy
  pub earlier_first : BeginWith earlier board.rounds

-- through each of these seats nothing has gone
abbrev pub AreNewSeats : PostView → List (SeatView Parcel) → Type 0
AreNewSeats post seats = All (λ s. s ≡ new_seat post s.seats) seats
