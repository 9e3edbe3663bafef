-- A block that joins the tree of the search, and its row of costs.
use Rattle.std.proofs.Common.{◌≡◌, ℕ, ◌+◌, ◌^◌, ◌<◌, ◌≤◌, List, Some, None, length, slice_index, slice_index_or, arith, sym, subst}
use Rattle.block_assignment.specs.Table.{cost_at}
use Rattle.block_assignment.specs.Search.{State, IsSized, IsMatched, IsTree, IsNearest, IsRelaxed}
use Rattle.block_assignment.proofs.Sums.{cost_within}
use Rattle.block_assignment.proofs.Prices.{discount_small, distance_small}
use Rattle.block_assignment.proofs.Trees.{Joins}

-- the list is the row of costs of block b
pub record IsRow (s : State) (b : ℕ) (row : List ℕ) : Type 0 where
  pub inside : b < s.table.blocks
  pub counted : length row ≡ s.table.blocks
  pub costs : (p : ℕ) → p < s.table.blocks → slice_index row p ≡ cost_at s.table b p

-- the price is no more than the cost plus the discount
pub row_low : (s : State) (b price : ℕ) (row : List ℕ) → IsMatched s → IsRow s b row → price ≡ slice_index s.price b → (p : ℕ)
    → p < length row → price ≤ slice_index row p + slice_index s.discount p
row_low s b price row matched is_row read p inside =
    omega (arith, read, is_row.costs p (omega (arith, inside, is_row.counted)), matched.low b p is_row.inside (omega (arith, inside, is_row.counted)))

-- its costs are small
pub row_small : (s : State) (b : ℕ) (row : List ℕ) → IsSized s → IsMatched s → s.named < s.table.blocks → IsRow s b row → (p : ℕ)
    → p < length row → slice_index row p + slice_index s.discount p ≤ 2 ^ 49
row_small s b row sized matched unnamed is_row p inside =
    let within : p < s.table.blocks = omega (arith, inside, is_row.counted) in
    omega (arith, is_row.costs p within, cost_within s.table b p sized.is_table is_row.inside within, discount_small s sized.is_table matched unnamed p within)

-- the PEs as they are once the row was gone through
pub relaxed_by_row : (s : State) (far : ℕ) (rank : List ℕ) (b : ℕ) (row old_distance distance from : List ℕ) → IsRow s b row
    → ((p : ℕ) → p < length row → slice_index rank p ≡ 0
    → IsRelaxed far (slice_index row p) (slice_index s.price b) (slice_index s.discount p) b (slice_index old_distance p)
    (slice_index s.from p) (slice_index distance p) (slice_index from p)) → (p : ℕ) → p < s.table.blocks → slice_index rank p ≡ 0
    → IsRelaxed far (cost_at s.table b p) (slice_index s.price b) (slice_index s.discount p) b (slice_index old_distance p)
    (slice_index s.from p) (slice_index distance p) (slice_index from p)
relaxed_by_row s far rank b row old_distance distance from is_row relaxed p inside not_yet =
    subst (λ cost. IsRelaxed far cost (slice_index s.price b) (slice_index s.discount p) b (slice_index old_distance p)
    (slice_index s.from p) (slice_index distance p) (slice_index from p)) (is_row.costs p inside)
    (relaxed p (omega (arith, inside, is_row.counted)) not_yet)

-- the block of the nearest PE is ready to join the tree
pub record IsReady (next : ℕ) (s : State) (b pe : ℕ) : Type 0 where
  pub sized : IsSized s
  pub matched : IsMatched s
  pub tree : IsTree next s
  pub joins : Joins s b pe
  pub block : b < s.table.blocks
  pub block_in_price : b < length s.price
  pub pe_in_rank : pe < length s.rank
  pub pe_in_distance : pe < length s.distance

pub ready : (next : ℕ) (s old : State) (b pe : ℕ) → s ≡ old → IsSized old → IsMatched old → IsTree next old → old.named < old.table.blocks
    → IsNearest old.rank old.distance old.table.blocks pe → slice_index_or old.holders pe None ≡ Some b → IsReady next s b pe
ready next s old b pe same sized matched tree unnamed near held =
    let block : b < old.table.blocks = omega (arith, (matched.held pe b near.inside held).0, unnamed) in
    subst (λ z. IsReady next z b pe) (sym same) (record {
      sized = sized;
      matched = matched;
      tree = tree;
      joins = record { inside = unnamed; nearest = near; held = held };
      block = block;
      block_in_price = omega (arith, block, sized.price_length);
      pe_in_rank = omega (arith, near.inside, sized.rank_length);
      pe_in_distance = omega (arith, near.inside, sized.distance_length);
    })

-- and is near
pub ready_near : (next : ℕ) (s : State) (b pe far : ℕ) → IsReady next s b pe → far ≡ slice_index s.distance pe → far ≤ 2 ^ 49
ready_near next s b pe far r read =
    omega (arith, read, distance_small next s r.sized.is_table r.matched r.tree r.joins.inside pe r.joins.nearest.inside)

-- the next block is ready to be the root of a tree
pub record IsNext (s : State) : Type 0 where
  pub sized : IsSized s
  pub matched : IsMatched s
  pub unnamed : s.named < s.table.blocks
  pub in_price : s.named < length s.price

pub next_ready : (s old : State) → s ≡ old → IsSized old → IsMatched old → old.named < old.table.blocks → IsNext s
next_ready s old same sized matched unnamed =
    subst (λ z. IsNext z) (sym same) (record { sized = sized; matched = matched; unnamed = unnamed; in_price = omega (arith, unnamed, sized.price_length) })
