-- What is read of a round that was decided.
use Rattle.std.specs.Prelude.{◌≡◌, ℕ, ◌+◌, ◌<◌, List, map, take, drop, Some}
use Rattle.sync_board.specs.Boards.{IsKeptIn, kept_of, place_in}
use Rattle.lb_database.specs.Measuring.{elements}
use Rattle.lb_strategy.specs.declared.decision.Decision.{Decision}
use Rattle.lb_snapshot.specs.Measured.{Taken}
use Rattle.std_heap.specs.declared.Global.{Global}
use Rattle.board_handle.specs.Owning.{BoardView}

-- These are the cuts and the names of the decision that is kept of a round, which is right, its greatest load of a block and the
-- bytes that it moves. The lists may be longer.
pub record AreBlocks (b : BoardView) (round bottleneck moved : ℕ) (cuts names : List ℕ) : Type 0 where
  pub decision : Decision Global
  pub kept : IsKeptIn b round decision
  pub bottleneck_is : bottleneck ≡ decision.division.bottleneck
  pub moved_is : moved ≡ decision.moved
  pub cuts_are : take (b.pes + 1) cuts ≡ decision.division.cuts
  pub names_are : take b.pes names ≡ decision.naming

-- what lies behind the cuts and the names is as it was
abbrev pub IsBehindBlocks : BoardView → List ℕ → List ℕ → List ℕ → List ℕ → Type 0
IsBehindBlocks b cuts cuts_after names names_after = (drop (b.pes + 1) cuts_after ≡ drop (b.pes + 1) cuts) × (drop b.pes names_after ≡ drop b.pes names)

-- this is the place of an element of the array in the decision of a round, and a PE of the board
pub record IsPlace (b : BoardView) (round i pe : ℕ) : Type 0 where
  pub known : i < elements b.database
  pub place : place_in b round i ≡ Some pe
  pub below : pe < b.pes

-- These are the load, the packed bytes and the place that each element reported for a round. The lists may be longer.
pub record AreReported (b : BoardView) (round : ℕ) (loads bytes places : List ℕ) : Type 0 where
  pub snapshot : Taken
  pub decision : Decision Global
  pub kept : kept_of b.rounds round ≡ Some (snapshot, decision)
  pub loads_are : take (elements b.database) loads ≡ snapshot.loads
  pub bytes_are : take (elements b.database) bytes ≡ map (λ size. size.0) snapshot.sizes
  pub places_are : take (elements b.database) places ≡ map (λ size. size.1) snapshot.sizes
