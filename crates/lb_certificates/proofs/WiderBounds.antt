-- What is within one bound of blocks is within each greater one.
use Rattle.std.proofs.Common.{ℕ, ◌≤◌, List, ℤ, arith}
use Rattle.lb_certificates.specs.Naming.{AreBlocksWithin, IsNamedWithin}

pub wider_blocks : (most more : ℕ) (sizes : List (ℕ × ℕ)) (cuts : List ℕ) → most ≤ more → AreBlocksWithin most sizes cuts → AreBlocksWithin more sizes cuts
wider_blocks most more sizes cuts wider h =
    record { some_block = h.some_block; few_blocks = omega (arith, wider, h.few_blocks); divides = h.divides }

pub wider_named : (most more : ℕ) (sizes : List (ℕ × ℕ)) (cuts names : List ℕ) (u v : List ℤ) → most ≤ more
    → IsNamedWithin most sizes cuts names u v → IsNamedWithin more sizes cuts names u v
wider_named most more sizes cuts names u v wider h =
    record { blocks = wider_blocks most more sizes cuts wider h.blocks; naming = h.naming; proved = h.proved }
