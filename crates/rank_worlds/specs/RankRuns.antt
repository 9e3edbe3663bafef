-- Runs of ranks where the board has each note at once: calls of the handles of all ranks, one after another, and between them decisions of
-- the board.
use Rattle.std.specs.Prelude.{◌≡◌, ℕ, List, [], ◌∷◌, ◌++◌, map, replicate}
use Rattle.std.specs.List.{range_with_len}
use Rattle.sync_board.specs.Boards.{new_board}
use Rattle.sync_board.specs.declared.strategy.Strategy.{Strategy}
use Rattle.foreign_chare.specs.Scripts.{Stamp}
use Rattle.rank_calls.specs.Runs.{Run, opened}
use Rattle.rank_calls.specs.declared.request.Reply.{Reply}
use Rattle.rank_calls.specs.declared.request.Request.{Request}
use Rattle.rank_worlds.specs.Worlds.{IsAnswered}
use Rattle.rts_core.specs.Events.{After, IsDecision}
use Rattle.rts_core.specs.Worlds.{WorldView, opening_words}

-- a step of a run of ranks: a rank, with its copy of the location words then, asks its handle this and is answered so; or the board
-- decides its round
pub data RankStep : Type 0 where
  Asks : List ℕ → ℕ → Request → Reply → RankStep
  Decides : RankStep

-- the world of all ranks as their handles open: nothing is under way, and the board, which decides by this strategy, is new
abbrev pub opening_ranks : {A : Type 0} → Run → Strategy → WorldView Stamp A
opening_ranks run strategy =
    record {
      pes = map (λ me. opened run.pes run.n me) (range_with_len 0 run.pes);
      queues = replicate run.pes [];
      words = opening_words run.n run.pes;
      board = new_board run.n run.pes strategy;
    }

-- The board decides its round, for which every element has reported.
pub record IsRoundDecided {A : Type 0} (w : WorldView Stamp A) (next : After Stamp A) : Type 0 where
  pub decides : IsDecision w.board next.0.board next.1
  pub leads : next.0 ≡ record w { board = next.0.board }

module _ {A : Type 0} (run : Run) where
  -- a list of such steps reaches one world from another, with the trace: the trace entries of its steps, in order
  abbrev pub ReachesByRanks : WorldView Stamp A → List RankStep → After Stamp A → Type 0
  ReachesByRanks w [] last = last ≡ (w, [])
  ReachesByRanks w (Asks words p request reply ∷ steps) last =
      (first : After Stamp A) × (rest : After Stamp A) × IsAnswered run words p request reply w first × ReachesByRanks first.0 steps rest × (last ≡ (rest.0, first.1 ++ rest.1))
  ReachesByRanks w (Decides ∷ steps) last =
      (first : After Stamp A) × (rest : After Stamp A) × IsRoundDecided w first × ReachesByRanks first.0 steps rest × (last ≡ (rest.0, first.1 ++ rest.1))
