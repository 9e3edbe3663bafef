-- The rounds of a board, by the number of its elements and of its PEs, and its strategy.
use Rattle.std.proofs.Common.{◌≡◌, ℕ, subst}
use Rattle.sync_board.specs.Boards.{AreDecided, BoardState, IsBoard}
use Rattle.sync_board.specs.declared.strategy.Strategy.{Strategy}
use Rattle.lb_database.specs.Measuring.{elements}

pub decided_on : {A : Type 0} (b : BoardState A) (n pes : ℕ) (strategy : Strategy) → elements b.database ≡ n → b.pes ≡ pes → b.strategy ≡ strategy
    → IsBoard b → AreDecided n pes strategy b.rounds
decided_on b n pes strategy counted on by board =
    subst (λ (v : ℕ). AreDecided v pes strategy b.rounds) counted
    (subst (λ (v : ℕ). AreDecided (elements b.database) v strategy b.rounds) on
    (subst (λ (v : Strategy). AreDecided (elements b.database) b.pes v b.rounds) by board.decided))
