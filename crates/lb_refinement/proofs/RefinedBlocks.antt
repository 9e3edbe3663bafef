-- The blocks between the cuts of a refinement, and their names in its order.
use Rattle.std.proofs.Common.{◌≡◌, ℕ, List, length, arith, sym, subst}
use Rattle.lb_certificates.specs.Chain.{IsDivision}
use Rattle.lb_certificates.specs.Naming.{blocks_between, AreBlocks, IsNaming}
use Rattle.chain_refinement.specs.Refinement.{IsRefinement}
use Rattle.chain_refinement.specs.declared.refinement.Refinement.{Refinement}

module _ {A : Type 0} (loads : List ℕ) (sizes : List (ℕ × ℕ)) (pes : ℕ) (r : Refinement A) (right : IsRefinement loads sizes pes r) where
  divides : IsDivision 0 (length loads) pes r.cuts
  divides = subst (λ n. IsDivision 0 (length loads) n r.cuts) right.order.counted right.proved.within.divides

  counted : blocks_between r.cuts ≡ pes
  counted = omega (arith, divides.counted)

  pub refined_blocks : length loads ≡ length sizes → AreBlocks sizes r.cuts
  refined_blocks paired =
      record {
        some_block = omega (arith, counted, right.some_pe);
        few_blocks = omega (arith, counted, right.few_pes);
        divides = subst (λ n. IsDivision 0 (length sizes) n r.cuts) (sym counted) (subst (λ n. IsDivision 0 n pes r.cuts) paired divides);
      }

  pub ordered_naming : IsNaming (blocks_between r.cuts) r.order
  ordered_naming = subst (λ n. IsNaming n r.order) (sym counted) right.order
