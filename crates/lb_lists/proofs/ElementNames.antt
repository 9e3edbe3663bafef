-- Names of blocks by the matrix of their costs, for elements that are plain lists.
use Rattle.std.proofs.Common.{◌≡◌, ◌∙◌, ℕ, suc, ◌+◌, ◌*◌, ◌/◌, ◌%◌, ◌<◌, ◌≤◌, inl, inr, List, [], ◌∷◌, length, slice_index, ℤ, ◌+ℤ◌, ◌≤ℤ◌, pos, arith, ap, sym, subst}
use Rattle.std.proofs.lemmas.Bool.{cases_lt}
use Rattle.std.proofs.Math.Nat.{mod-add-div, mod-lt, mul-pos, div-lt_iff_lt-mul}
use Rattle.std.specs.List.{zip}
use Rattle.lb_certificates.specs.Certificate.{IsCertified}
use Rattle.lb_certificates.specs.Chain.{IsDivision}
use Rattle.lb_certificates.specs.Naming.{block_cost, blocks_between, bytes_moved, naming_cost, price_at, IsFirstCheapest, IsLeastNaming, IsNaming, Proves}
use Rattle.lb_certificates.specs.declared.division.Division.{Division}
use Rattle.lb_certificates.proofs.BlockSums.{moved_is_cost}
use Rattle.lb_certificates.proofs.LeastNamings.{least_by}
use Rattle.lb_certificates.proofs.Totals.{total_same}
use Rattle.block_assignment.specs.Lists.{AreBlocksOf}
use Rattle.block_assignment.specs.Table.{Table, AreWithin, IsMatrix, IsTableOf, cost_at, greatest}
use Rattle.block_assignment.proofs.Prices.{cost_bounded}
use Rattle.lb_strategy.specs.Decisions.{ArePricesBounded, IsGreatestCost}
use Rattle.lb_lists.specs.Claims.{IsNamedRun}
use Rattle.lb_lists.specs.Runs.{IsAsked, Listed}
use Rattle.lb_lists.proofs.Zipped.{zip_length}

-- the certified division of a run divides its elements into blocks within the limits
pub blocks_from_certified : {A : Type 0} (run : Listed) (pes : ℕ) (d : Division A) → IsAsked run pes → IsCertified run.loads pes d → AreBlocksOf run.bytes run.places d.cuts
blocks_from_certified run pes d asked certified =
    let counted : length d.cuts ≡ pes + 1 = certified.divides.counted in
    let divides : IsDivision 0 (length run.bytes) pes d.cuts = subst (λ n. IsDivision 0 n pes d.cuts) (sym asked.is_run.sized) certified.divides in
    record {
      divided = record {
        paired = asked.is_run.stood ∙ sym asked.is_run.sized;
        some_block = omega (arith, counted, asked.some_pe);
        few_blocks = omega (arith, counted, asked.few_pes);
        divides = subst (λ n. IsDivision 0 (length run.bytes) n d.cuts) (omega (arith, counted)) divides;
      };
      small = asked.is_run.small;
    }

-- such blocks divide the elements, with their places
pub zipped_division : (bytes places cuts : List ℕ) → AreBlocksOf bytes places cuts → IsDivision 0 (length (zip bytes places)) (blocks_between cuts) cuts
zipped_division bytes places cuts blocks =
    subst (λ n. IsDivision 0 n (blocks_between cuts) cuts) (sym (zip_length bytes places blocks.divided.paired)) blocks.divided.divides

-- the cost of a naming by the matrix of its blocks is the number of bytes that it moves
moved_by_matrix : (sizes : List (ℕ × ℕ)) (cuts names : List ℕ) (t : Table) → IsDivision 0 (length sizes) (blocks_between cuts) cuts
    → IsTableOf sizes cuts t → IsNaming t.blocks names → naming_cost t.blocks (cost_at t) names ≡ bytes_moved sizes cuts names
moved_by_matrix sizes cuts names t division matrix naming =
    let by_block : naming_cost t.blocks (cost_at t) names ≡ naming_cost t.blocks (block_cost sizes cuts) names = total_same t.blocks
    (λ b. cost_at t b (slice_index names b)) (λ b. block_cost sizes cuts b (slice_index names b))
    (λ b inside. matrix.exact b (slice_index names b) inside (naming.below b inside)) in
    by_block ∙ ap (λ n. naming_cost n (block_cost sizes cuts) names) matrix.counted ∙ sym (moved_is_cost sizes cuts names (blocks_between cuts) division)

pub bytes_by_cost : (sizes : List (ℕ × ℕ)) (cuts names : List ℕ) (moved : ℕ) (t : Table) → IsDivision 0 (length sizes) (blocks_between cuts) cuts
    → IsTableOf sizes cuts t → IsNaming t.blocks names → moved ≡ naming_cost t.blocks (cost_at t) names → moved ≡ bytes_moved sizes cuts names
bytes_by_cost sizes cuts names moved t division matrix naming cost =
    cost ∙ moved_by_matrix sizes cuts names t division matrix naming

-- the least naming by the matrix is the least naming of the blocks
pub least_by_matrix : (sizes : List (ℕ × ℕ)) (cuts names : List ℕ) (t : Table) → IsDivision 0 (length sizes) (blocks_between cuts) cuts
    → IsTableOf sizes cuts t → IsFirstCheapest t.blocks (naming_cost t.blocks (cost_at t)) names
    → IsLeastNaming sizes cuts (blocks_between cuts) names
least_by_matrix sizes cuts names t division matrix least =
    let there : IsFirstCheapest t.blocks (bytes_moved sizes cuts) names = least_by t.blocks (bytes_moved sizes cuts)
    (naming_cost t.blocks (cost_at t)) names (λ others naming. moved_by_matrix sizes cuts others t division matrix naming) least in
    subst (λ n. IsFirstCheapest n (bytes_moved sizes cuts) names) matrix.counted there

-- prices that prove a naming by the matrix prove what it moves
proved_by_matrix : (sizes : List (ℕ × ℕ)) (cuts names : List ℕ) (u v : List ℤ) (t : Table) → IsDivision 0 (length sizes) (blocks_between cuts) cuts
    → IsTableOf sizes cuts t → IsNaming t.blocks names → Proves t.blocks (cost_at t) (naming_cost t.blocks (cost_at t) names) u v
    → Proves (blocks_between cuts) (block_cost sizes cuts) (bytes_moved sizes cuts names) u v
proved_by_matrix sizes cuts names u v t division matrix naming proved =
    let counted : t.blocks ≡ blocks_between cuts = matrix.counted in
    record {
      block_prices = proved.block_prices ∙ counted;
      pe_prices = proved.pe_prices ∙ counted;
      low = λ b p block pe. subst (λ cost. (price_at u b +ℤ price_at v p) ≤ℤ pos cost)
          (matrix.exact b p (omega (arith, block, counted)) (omega (arith, pe, counted)))
          (proved.low b p (omega (arith, block, counted)) (omega (arith, pe, counted)));
      adds_up = proved.adds_up ∙ ap pos (moved_by_matrix sizes cuts names t division matrix naming);
    }

-- a naming of the blocks, priced by their matrix
pub named_by_matrix : (bytes places cuts names : List ℕ) (u v : List ℤ) (t : Table) → AreBlocksOf bytes places cuts
    → IsTableOf (zip bytes places) cuts t → IsNaming t.blocks names → Proves t.blocks (cost_at t) (naming_cost t.blocks (cost_at t) names) u v
    → IsNamedRun (zip bytes places) cuts names u v
named_by_matrix bytes places cuts names u v t blocks matrix naming proved =
    let division = zipped_division bytes places cuts blocks in
    record {
      blocks = record {
        some_block = omega (arith, blocks.divided.some_block);
        few_blocks = omega (arith, blocks.divided.few_blocks);
        divides = division;
      };
      naming = subst (λ n. IsNaming n names) matrix.counted naming;
      proved = proved_by_matrix (zip bytes places) cuts names u v t division matrix naming proved;
    }

-- the greatest of some costs is one of them
greatest_at : (costs : List ℕ) → 0 < length costs → (i : ℕ) × (i < length costs) × (slice_index costs i ≡ greatest costs)
greatest_at [] some = absurd (omega (arith, some))
greatest_at (c ∷ []) some = (0, omega arith, omega arith)
greatest_at (c ∷ d ∷ costs) some = elim (cases_lt c (greatest (d ∷ costs))) [
  | inl less ↦
      let later = greatest_at (d ∷ costs) (omega arith) in
      (suc later.0, omega (arith, later.1), later.2 ∙ omega (arith, less))
  | inr least ↦ (0, omega arith, omega (arith, least))
]

-- the entry at a place of the matrix is the cost of a block on a PE
entry : (t : Table) (i : ℕ) → 0 < t.blocks → cost_at t (i / t.blocks) (i % t.blocks) ≡ slice_index t.costs i
entry t i some = ap (slice_index t.costs) (omega (arith, mod-add-div i t.blocks))

-- the greatest entry is the greatest cost
greatest_cost : (sizes : List (ℕ × ℕ)) (cuts : List ℕ) (t : Table) → IsMatrix t → IsTableOf sizes cuts t → IsGreatestCost t.blocks (block_cost sizes cuts) (greatest t.costs)
greatest_cost sizes cuts t matrix exact =
    let some : 0 < t.blocks = omega (arith, matrix.some_block) in
    let entries : 0 < t.blocks * t.blocks = mul-pos some some in
    let at = greatest_at t.costs (omega (arith, matrix.square, entries)) in
    let block : at.0 / t.blocks < t.blocks = (div-lt_iff_lt-mul some).1 (omega (arith, at.1, matrix.square)) in
    let pe : at.0 % t.blocks < t.blocks = mod-lt at.0 some in
    record {
      block = at.0 / t.blocks;
      pe = at.0 % t.blocks;
      block_inside = block;
      pe_inside = pe;
      reached = sym (exact.exact (at.0 / t.blocks) (at.0 % t.blocks) block pe) ∙ entry t at.0 some ∙ at.2;
      greatest = λ b p inside below. subst (λ cost. cost ≤ greatest t.costs) (exact.exact b p inside below) (cost_bounded t b p matrix inside below);
    }

-- prices that the matrix bounds are bounded by the costs of the blocks
pub bounded_by_matrix : (sizes : List (ℕ × ℕ)) (cuts : List ℕ) (u v : List ℤ) (t : Table) → IsMatrix t → IsTableOf sizes cuts t
    → AreWithin (greatest t.costs) u v → ArePricesBounded sizes cuts u v
bounded_by_matrix sizes cuts u v t matrix exact within =
    record {
      most = greatest t.costs;
      is_greatest = subst (λ n. IsGreatestCost n (block_cost sizes cuts) (greatest t.costs)) exact.counted (greatest_cost sizes cuts t matrix exact);
      within = within;
    }
