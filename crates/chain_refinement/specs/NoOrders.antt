-- Elements by which the PEs have no order.
use Rattle.std.specs.Prelude.{ℕ, List}
use Rattle.lb_certificates.specs.Naming.{IsNaming}
use Rattle.chain_refinement.specs.Orders.{StandInOrder}

-- in no order of this number of PEs are the elements of each consecutive
abbrev pub HasNoOrder : List (ℕ × ℕ) → ℕ → Type 0
HasNoOrder sizes pes = (names present : List ℕ) → IsNaming pes names → ¬ (StandInOrder sizes names present)
