-- What a right decision implies.
use Rattle.std.proofs.Common.{◌≡◌, ℕ, ◌<◌, ◌≤◌, inl, inr, true, false, ltb, nat_lt, List, length, slice_index, ℤ, ◌+ℤ◌, ◌≤ℤ◌, pos, arith, ap, subst, sym, ◌∙◌}
use Rattle.std.specs.List.{position_or_len}
use Rattle.std.proofs.lemmas.Bool.{cases_lt, lt-ltb, le-ltb}
use Rattle.std.proofs.lemmas.List.Sums.{fails_before_first, passes_at_first}
use Rattle.lb_certificates.specs.Certificate.{IsCertified}
use Rattle.lb_certificates.specs.Chain.{IsDivision, IsLeastDivision}
use Rattle.lb_certificates.specs.declared.division.Division.{Division}
use Rattle.chare_index.specs.declared.limits.TheConstants.Limits.{PES}
use Rattle.lb_certificates.specs.Naming.{block_cost, block_of, blocks_between, bytes_moved, naming_cost, AreBlocks, price_at, IsCheapest, IsFirstCheapest, IsLeastNaming, IsNamed, IsNaming, Proves}
use Rattle.lb_certificates.proofs.BlockSums.{cheapest_from_named, moved_is_cost}
use Rattle.lb_certificates.proofs.LeastDivisions.{least_from_certified}
use Rattle.lb_certificates.proofs.LeastNamings.{least_by}
use Rattle.lb_certificates.proofs.Totals.{total_same}
use Rattle.block_assignment.specs.Table.{Table, cost_at, IsTableOf}
use Rattle.lb_strategy.specs.declared.decision.Decision.{Decision}
use Rattle.lb_strategy.specs.Moves.{HasPlace}
use Rattle.lb_strategy.specs.Decisions.{IsNamedRight, IsRight}

pub least_from_right : {A : Type 0} (loads : List ℕ) (sizes : List (ℕ × ℕ)) (p : ℕ) (d : Decision A) → IsRight loads sizes p d
    → IsLeastDivision loads p d.division.bottleneck d.division.cuts
least_from_right loads sizes p d right = least_from_certified loads p d.division right.division

pub cheapest_from_right : {A : Type 0} (loads : List ℕ) (sizes : List (ℕ × ℕ)) (p : ℕ) (d : Decision A) → IsRight loads sizes p d → IsCheapest sizes d.division.cuts p d.naming
cheapest_from_right loads sizes p d right =
    let counted : blocks_between d.division.cuts ≡ p = omega (arith, right.division.divides.counted) in
    subst (λ n. IsCheapest sizes d.division.cuts n d.naming) counted (cheapest_from_named sizes d.division.cuts d.naming d.prices.u d.prices.v right.named)

pub named_from_right : {A : Type 0} (loads : List ℕ) (sizes : List (ℕ × ℕ)) (p : ℕ) (d : Decision A) → IsRight loads sizes p d → IsNamedRight sizes d
named_from_right loads sizes p d right = right.named

-- an element of a division is in one of its blocks
block_inside : (n blocks : ℕ) (cuts : List ℕ) (i : ℕ) → IsDivision 0 n blocks cuts → i < n → block_of cuts i < blocks
block_inside n blocks cuts i division inside =
    let above : ltb i (slice_index cuts blocks) ≡ true = lt-ltb i (slice_index cuts blocks) (omega (arith, inside, division.ends)) in
    let not_first : ltb i (slice_index cuts 0) ≡ false = le-ltb i (slice_index cuts 0) (omega (arith, division.starts)) in
    elim (cases_lt blocks (position_or_len (λ cut. nat_lt i cut) cuts)) [
      | inl past ↦ let below : ltb i (slice_index cuts blocks) ≡ false = fails_before_first (λ cut. nat_lt i cut) cuts blocks 0 past in cc
      | inr within ↦ elim (cases_lt 0 (position_or_len (λ cut. nat_lt i cut) cuts)) [
        | inl some ↦ omega arith
        | inr none ↦
            let at_first : position_or_len (λ cut. nat_lt i cut) cuts ≡ 0 = omega arith in
            let short : position_or_len (λ cut. nat_lt i cut) cuts < length cuts = omega (arith, at_first, division.counted) in
            let passes : ltb i (slice_index cuts (position_or_len (λ cut. nat_lt i cut) cuts)) ≡ true = passes_at_first (λ cut. nat_lt i cut) cuts 0 short in
            let passes_first : ltb i (slice_index cuts 0) ≡ true = subst (λ k. ltb i (slice_index cuts k) ≡ true) at_first passes in
            cc
      ]
    ]

-- an element of named blocks has a place
pub place_from_named : (sizes : List (ℕ × ℕ)) (cuts names : List ℕ) (u v : List ℤ) → IsNamed sizes cuts names u v → (i : ℕ) → i < length sizes → HasPlace cuts names i
place_from_named sizes cuts names u v named i inside =
    let division : IsDivision 0 (length sizes) (blocks_between cuts) cuts = named.blocks.divides in
    let block : block_of cuts i < blocks_between cuts = block_inside (length sizes) (blocks_between cuts) cuts i division inside in
    record {
      starts = division.starts;
      ordered = division.ordered;
      inside = omega (arith, inside, division.ends);
      named = omega (arith, block, named.naming.counted);
      pe = omega (arith, named.naming.below (block_of cuts i) block, named.blocks.few_blocks);
    }

pub place_from_right : {A : Type 0} (loads : List ℕ) (sizes : List (ℕ × ℕ)) (p : ℕ) (d : Decision A) → IsRight loads sizes p d → (i : ℕ)
    → i < length sizes → HasPlace d.division.cuts d.naming i
place_from_right loads sizes p d right i inside =
    place_from_named sizes d.division.cuts d.naming d.prices.u d.prices.v right.named i inside

-- a certified division of the loads divides the elements
pub blocks_from_certified : {A : Type 0} (loads : List ℕ) (sizes : List (ℕ × ℕ)) (p : ℕ) (d : Division A) → IsCertified loads p d
    → length loads ≡ length sizes → 1 ≤ p → p ≤ PES → AreBlocks sizes d.cuts
blocks_from_certified loads sizes p d certified counted some few =
    let blocks : p ≡ blocks_between d.cuts = omega (arith, certified.divides.counted) in
    let divides : IsDivision 0 (length sizes) p d.cuts = subst (λ n. IsDivision 0 n p d.cuts) counted certified.divides in
    record {
      some_block = omega (arith, blocks, some);
      few_blocks = omega (arith, blocks, few);
      divides = subst (λ n. IsDivision 0 (length sizes) n d.cuts) blocks divides;
    }

-- the cost of a naming by the table of its blocks is the number of bytes that it moves
pub moved_by_table : (sizes : List (ℕ × ℕ)) (cuts names : List ℕ) (t : Table) → AreBlocks sizes cuts → IsTableOf sizes cuts t
    → IsNaming t.blocks names → naming_cost t.blocks (cost_at t) names ≡ bytes_moved sizes cuts names
moved_by_table sizes cuts names t blocks table naming =
    let by_block : naming_cost t.blocks (cost_at t) names ≡ naming_cost t.blocks (block_cost sizes cuts) names = total_same t.blocks
    (λ b. cost_at t b (slice_index names b)) (λ b. block_cost sizes cuts b (slice_index names b))
    (λ b inside. table.exact b (slice_index names b) inside (naming.below b inside)) in
    by_block ∙ ap (λ n. naming_cost n (block_cost sizes cuts) names) table.counted ∙ sym (moved_is_cost sizes cuts names (blocks_between cuts) blocks.divides)

-- the least naming by the table of the blocks is the least naming of the blocks
pub least_by_table : (sizes : List (ℕ × ℕ)) (cuts names : List ℕ) (p : ℕ) (t : Table) → blocks_between cuts ≡ p → AreBlocks sizes cuts
    → IsTableOf sizes cuts t → IsFirstCheapest t.blocks (naming_cost t.blocks (cost_at t)) names → IsLeastNaming sizes cuts p names
least_by_table sizes cuts names p t counted blocks table least =
    let there : IsFirstCheapest t.blocks (bytes_moved sizes cuts) names = least_by t.blocks (bytes_moved sizes cuts)
    (naming_cost t.blocks (cost_at t)) names (λ others naming. moved_by_table sizes cuts others t blocks table naming) least in
    subst (λ n. IsFirstCheapest n (bytes_moved sizes cuts) names) (table.counted ∙ counted) there

-- prices that prove a naming by the table of its blocks prove what it moves
proved_by_table : (sizes : List (ℕ × ℕ)) (cuts names : List ℕ) (u v : List ℤ) (t : Table) → AreBlocks sizes cuts → IsTableOf sizes cuts t
    → IsNaming t.blocks names → Proves t.blocks (cost_at t) (naming_cost t.blocks (cost_at t) names) u v
    → Proves (blocks_between cuts) (block_cost sizes cuts) (bytes_moved sizes cuts names) u v
proved_by_table sizes cuts names u v t blocks table naming proved =
    let counted : t.blocks ≡ blocks_between cuts = table.counted in
    record {
      block_prices = proved.block_prices ∙ counted;
      pe_prices = proved.pe_prices ∙ counted;
      low = λ b p block pe. subst (λ cost. (price_at u b +ℤ price_at v p) ≤ℤ pos cost)
          (table.exact b p (omega (arith, block, counted)) (omega (arith, pe, counted)))
          (proved.low b p (omega (arith, block, counted)) (omega (arith, pe, counted)));
      adds_up = proved.adds_up ∙ ap pos (moved_by_table sizes cuts names t blocks table naming);
    }

-- a naming of the blocks, priced by their table
pub named_by_table : (sizes : List (ℕ × ℕ)) (cuts names : List ℕ) (u v : List ℤ) (t : Table) → AreBlocks sizes cuts → IsTableOf sizes cuts t
    → IsNaming t.blocks names → Proves t.blocks (cost_at t) (naming_cost t.blocks (cost_at t) names) u v → IsNamed sizes cuts names u v
named_by_table sizes cuts names u v t blocks table naming proved =
    record {
      blocks = blocks;
      naming = subst (λ n. IsNaming n names) table.counted naming;
      proved = proved_by_table sizes cuts names u v t blocks table naming proved;
    }
