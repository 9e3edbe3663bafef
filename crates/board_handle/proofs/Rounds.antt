-- What is kept of the rounds of a board.
use Rattle.std.proofs.Common.{◌≡◌, ℕ, zero, suc, ◌+◌, ◌<◌, length, None, Some, IfSome, subst, arith}
use Rattle.std.proofs.lemmas.Option.{slice_get_past}
use Rattle.chare_index.specs.declared.limits.TheConstants.Limits.{ROUND}
use Rattle.sync_board.specs.Boards.{IsBoard, IsDecided, IsKeptIn, Kept, kept_of}
use Rattle.lb_database.specs.Measuring.{IsMeasured, elements}
use Rattle.lb_strategy.specs.declared.decision.Decision.{Decision}
use Rattle.std_heap.specs.declared.Global.{Global}
use Rattle.board_handle.specs.Owning.{BoardView}

-- none is past the last one
pub not_past : (b : BoardView) (round : ℕ) → IsBoard b → IsMeasured b.database → ROUND < round → kept_of b.rounds round ≡ None
not_past b zero board measured past = absurd (omega (arith, past))
not_past b (suc r) board measured past = slice_get_past b.rounds r (omega (arith, past, board.numbered, measured.numbered))

-- a decision has one cut more than PEs, and a name for each
pub cut_count : (b : BoardView) (round : ℕ) (d : Decision Global) → IsKeptIn b round d → length d.division.cuts ≡ b.pes + 1
cut_count b round d kept = kept.decided.placed.blocks.counted

pub name_count : (b : BoardView) (round : ℕ) (d : Decision Global) → IsKeptIn b round d → length d.naming ≡ b.pes
name_count b round d kept = kept.decided.placed.naming.counted

-- a snapshot is of all elements
pub load_count : (b : BoardView) (round : ℕ) (kept : Kept Global) → IsBoard b → kept_of b.rounds round ≡ Some kept → length kept.0.loads ≡ elements b.database
load_count b round kept board is =
    (subst (λ k. IfSome k (IsDecided (elements b.database) b.pes b.strategy round)) is (board.decided round)).of_all
