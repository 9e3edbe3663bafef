-- The world of a run: its PEs, a queue before each PE, a location word for each element, and the board. Source: the
-- Charm++ manual on chare arrays and load balancing; that there is one location word for each element, and one board, is
-- this project's choice.
use Rattle.std.specs.Prelude.{◌≡◌, ℕ, ◌+◌, ◌*◌, ◌/◌, ◌<◌, ◌≤◌, List, [], ◌∷◌, length, map, replicate, slice_get, slice_set, All, Option, None, Some}
use Rattle.std.specs.List.{range_with_len}
use Rattle.chare_index.specs.declared.limits.TheConstants.Limits.{ELEMENTS, PES}
use Rattle.sync_board.specs.Boards.{BoardState, new_board}
use Rattle.lb_database.specs.Measuring.{elements}
use Rattle.pe_state.specs.Pes.{PeView, Parcel, new_pe, placed}
use Rattle.sync_board.specs.declared.strategy.Strategy.{Strategy}

-- the PEs, the parcels in the queue of each, front first, the PE on which each element is looked for, and the board
pub record WorldView (C A : Type 0) : Type 0 where
  pub pes : List (PeView C)
  pub queues : List (List Parcel)
  pub words : List ℕ
  pub board : BoardState A

-- the PE on which element e of n opens
abbrev pub home : ℕ → ℕ → ℕ → ℕ
home e n pes = e * pes / n

-- with this chare placed on PE q as element e
abbrev pub placed_on : {C : Type 0} → List (PeView C) → ℕ → ℕ → C → Option (PeView C) → List (PeView C)
placed_on pes q e chare None = pes
placed_on pes q e chare (Some pe) = slice_set pes q (placed pe e chare)

-- each of these chares, the first as element e of n, is placed on its home
abbrev pub all_placed : {C : Type 0} → ℕ → List (PeView C) → ℕ → List C → List (PeView C)
all_placed n pes e [] = pes
all_placed n pes e (chare ∷ chares) =
    let q = home e n (length pes) in
    all_placed n (placed_on pes q e chare (slice_get pes q)) (e + 1) chares

-- the PEs as a run opens: each element is on its home, not started
abbrev pub opening_pes : {C : Type 0} → ℕ → List C → List (PeView C)
opening_pes pes chares = all_placed (length chares) (map (λ q. new_pe q (length chares)) (range_with_len 0 pes)) 0 chares

-- the location words as a run of n elements opens: of each element its home
abbrev pub opening_words : ℕ → ℕ → List ℕ
opening_words n pes = map (λ e. home e n pes) (range_with_len 0 n)

-- the opening world: each element is on its home, which is its location word, all else is empty, and rounds are decided by
-- this strategy
abbrev pub opening_world : {C A : Type 0} → ℕ → List C → Strategy → WorldView C A
opening_world pes chares strategy =
    record {
      pes = opening_pes pes chares;
      queues = replicate pes [];
      words = opening_words (length chares) pes;
      board = new_board (length chares) pes strategy;
    }

-- What holds of every world of a run that opened with n elements on this number of PEs: there are as many PEs, queues and
-- words as that, each location word is a PE, and PEs and board are of the same elements.
pub record IsWorld {C A : Type 0} (n pes : ℕ) (w : WorldView C A) : Type 0 where
  pub some_pe : 1 ≤ pes
  pub few_pes : pes ≤ PES
  pub few : n ≤ ELEMENTS
  pub pes_counted : length w.pes ≡ pes
  pub queues_counted : length w.queues ≡ pes
  pub words_counted : length w.words ≡ n
  pub words_name : All (λ q. q < pes) w.words
  pub board_counted : elements w.board.database ≡ n
  pub board_pes : w.board.pes ≡ pes
