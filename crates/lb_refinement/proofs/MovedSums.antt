-- The bytes that names move, added up element by element.
use Rattle.std.proofs.Common.{◌≡◌, ℕ, ◌+◌, ◌<◌, List, length, slice_index, slice_index_or, arith, add-one}
use Rattle.lb_certificates.specs.Naming.{block_of, blocks_between, moved_bytes, total, AreBlocks}
use Rattle.lb_certificates.proofs.BlockSums.{block_of_is}
use Rattle.chain_refinement.proofs.Orders.{block_around}

-- the bytes of the elements below n that names move
abbrev pub moved_below : List (ℕ × ℕ) → List ℕ → List ℕ → ℕ → ℕ
moved_below sizes cuts names n =
    total n (λ i. moved_bytes (slice_index_or sizes i (0, 0)) (slice_index names (block_of cuts i)))

pub moved_more : (sizes : List (ℕ × ℕ)) (cuts names : List ℕ) (i : ℕ)
    → moved_below sizes cuts names (i + 1) ≡ moved_below sizes cuts names i + moved_bytes (slice_index_or sizes i (0, 0)) (slice_index names (block_of cuts i))
moved_more sizes cuts names i = rw add-one (omega arith)

-- an element is in one of the blocks
pub has_block : (sizes : List (ℕ × ℕ)) (cuts : List ℕ) (i : ℕ) → AreBlocks sizes cuts → i < length sizes → block_of cuts i < blocks_between cuts
has_block sizes cuts i blocks inside =
    let around = block_around cuts (blocks_between cuts) i (omega (arith, blocks.divides.starts)) (omega (arith, blocks.divides.ends, inside)) in
    omega (arith, block_of_is (length sizes) (blocks_between cuts) cuts around.0 i blocks.divides around.1 around.2 around.3, around.1)
