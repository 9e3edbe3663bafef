-- A chain that lies on ranks in their order: rank b has the elements from one present cut to the next, and block b of a new
-- division is to go to rank b. Which cuts within a limit move the fewest bytes: AreFewest and AreNearest of chain_refinement.
use Rattle.std.specs.Prelude.{ℕ, List, length, map, slice_index}
use Rattle.std.specs.List.{range_with_len}
use Rattle.lb_certificates.specs.Naming.{block_of}
use Rattle.chain_refinement.specs.Refinement.{AreFewest, AreNearest}

-- the ranks in their order, each the name of its block
abbrev pub in_order : ℕ → List ℕ
in_order ranks = range_with_len 0 ranks

-- for each element its bytes and the rank that it is on
abbrev pub sizes_on : List ℕ → List ℕ → List (ℕ × ℕ)
sizes_on bytes present =
    map (λ i. (slice_index bytes i, block_of present i)) (range_with_len 0 (length bytes))

-- of all cuts within the limit, these move the fewest bytes where block b goes to rank b
abbrev pub AreFewestInOrder : List ℕ → List ℕ → List ℕ → ℕ → ℕ → List ℕ → Type 0
AreFewestInOrder loads bytes present ranks limit cuts =
    AreFewest loads (sizes_on bytes present) (in_order ranks) limit cuts

-- and of several such lists they are the nearest to the present cuts, chosen from the end of the chain
abbrev pub AreNearestInOrder : List ℕ → List ℕ → List ℕ → ℕ → ℕ → List ℕ → Type 0
AreNearestInOrder loads bytes present ranks limit cuts =
    AreNearest loads (sizes_on bytes present) (in_order ranks) present limit cuts
