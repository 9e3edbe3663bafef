use Rattle.std.proofs.Common.{◌≡◌, ℕ, Option, None, replicate, length, arith, refl, ap}
use Rattle.std.proofs.lemmas.List.{get_or-replicate, length-replicate}
use Rattle.std.proofs.lemmas.Grind.{common_steps}
use Rattle.block_assignment.specs.Search.{State, IsMatched, IsSmall}
use Rattle.block_assignment.proofs.search.Search.new.Goals as goal

-- where no block has a name and all prices are 0, nothing is left to show
matched_if_none : (s : State) (n : ℕ) → s.named ≡ 0 → s.holders ≡ replicate n None → s.price ≡ replicate n 0 → s.discount ≡ replicate n 0 → IsMatched s
matched_if_none s n none holders price discount = grind (arith, common_steps)

-- prices that are all 0 are small
small_if_none : (s : State) (n : ℕ) → s.price ≡ replicate n 0 → s.discount ≡ replicate n 0 → n ≡ s.table.blocks → IsSmall s
small_if_none s n price discount all =
    record {
      price = λ b inside. (rw price (omega (arith, get_or-replicate {A = ℕ} n b 0 0 (omega (arith, inside, all)))));
      discount = λ p inside. (rw discount (omega (arith, get_or-replicate {A = ℕ} n p 0 0 (omega (arith, inside, all)))));
    }

pub returns-clause-sized : goal.returns-clause-sized
returns-clause-sized g c =
    let all = c.blocks-blocks.ensures.value in
    record {
      is_table = c.blocks-blocks.ensures.within_limits;
      names_length = omega (arith, all, c.in_ok-names.ensures.names);
      holders_length = omega (arith, all, ap length c.in_ok-names.ensures.holders, length-replicate {A = Option ℕ} c.blocks-blocks.result None);
      price_length = omega (arith, all, ap length c.in_ok-price.ensures.price, length-replicate {A = ℕ} c.blocks-blocks.result 0);
      discount_length = omega (arith, all, ap length c.in_ok-price.ensures.discount, length-replicate {A = ℕ} c.blocks-blocks.result 0);
      rank_length = omega (arith, all, c.in_ok-rank.ensures.rank);
      distance_length = omega (arith, all, c.in_ok-rank.ensures.distance);
      from_length = omega (arith, all, c.in_ok-rank.ensures.from);
    }

pub returns-clause-matched : goal.returns-clause-matched
returns-clause-matched g c = matched_if_none _ _ refl c.in_ok-names.ensures.holders c.in_ok-price.ensures.price c.in_ok-price.ensures.discount

pub returns-clause-small : goal.returns-clause-small
returns-clause-small g c = small_if_none _ _ c.in_ok-price.ensures.price c.in_ok-price.ensures.discount c.blocks-blocks.ensures.value
