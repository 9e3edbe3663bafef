-- Prices and discounts as the dual values of a naming.
use Rattle.std.proofs.Common.{◌≡◌, ℕ, suc, zero, ◌<◌, ◌≤◌, List, length, take, slice_index, arith, subst, add-one, refl, ℤ, pos, neg_ℤ, ◌+ℤ◌}
use Rattle.std.proofs.lemmas.Int.{ints}
use Rattle.std.proofs.lemmas.List.{take_all}
use Rattle.std.proofs.lemmas.List.Sums.{fold_more}
use Rattle.lb_certificates.specs.Naming.{total, Proves, naming_cost, price_at, price_sum}
use Rattle.block_assignment.specs.Search.{IsTight}
use Rattle.block_assignment.proofs.Tight.{prices_in_all}

-- prices above or below 0 by these amounts
plus_sum : (prices : List ℤ) (amounts : List ℕ) (n : ℕ) → n ≤ length prices
    → ((k : ℕ) → k < n → price_at prices k ≡ pos (slice_index amounts k)) → price_sum (take n prices) ≡ pos (total n (λ k. slice_index amounts k))
plus_sum prices amounts zero few same = refl
plus_sum prices amounts (suc n) few same =
    let more : price_sum (take (suc n) prices) ≡ price_sum (take n prices) +ℤ price_at prices n = subst
    (λ k. price_sum (take k prices) ≡ price_sum (take n prices) +ℤ price_at prices n) (add-one n) (fold_more ◌+ℤ◌ (pos 0) prices n (pos 0) (omega arith)) in
    omega (arith, ints, more, same n (omega arith), plus_sum prices amounts n (omega arith) (λ k inside. same k (omega arith)))

minus_sum : (prices : List ℤ) (amounts : List ℕ) (n : ℕ) → n ≤ length prices
    → ((k : ℕ) → k < n → price_at prices k ≡ neg_ℤ (pos (slice_index amounts k)))
    → price_sum (take n prices) ≡ neg_ℤ (pos (total n (λ k. slice_index amounts k)))
minus_sum prices amounts zero few same = refl
minus_sum prices amounts (suc n) few same =
    let more : price_sum (take (suc n) prices) ≡ price_sum (take n prices) +ℤ price_at prices n = subst
    (λ k. price_sum (take k prices) ≡ price_sum (take n prices) +ℤ price_at prices n) (add-one n) (fold_more ◌+ℤ◌ (pos 0) prices n (pos 0) (omega arith)) in
    omega (arith, ints, more, same n (omega arith), minus_sum prices amounts n (omega arith) (λ k inside. same k (omega arith)))

-- the prices, and the discounts with the sign changed, prove the naming
pub found : (blocks : ℕ) (cost : ℕ → ℕ → ℕ) (price discount names : List ℕ) (u v : List ℤ) → IsTight blocks cost price discount names
    → length u ≡ blocks → length v ≡ blocks → ((b : ℕ) → b < blocks → price_at u b ≡ pos (slice_index price b))
    → ((p : ℕ) → p < blocks → price_at v p ≡ neg_ℤ (pos (slice_index discount p))) → Proves blocks cost (naming_cost blocks cost names) u v
found blocks cost price discount names u v tight u_length v_length u_is v_is =
    record {
      block_prices = u_length;
      pe_prices = v_length;
      low = λ b p block pe. omega (arith, ints, u_is b block, v_is p pe, tight.low b p block pe);
      adds_up = omega (arith, ints, all_prices, all_discounts, prices_in_all blocks cost price discount names tight);
    }
  where
    all_prices : price_sum u ≡ pos (total blocks (λ b. slice_index price b))
    all_prices = subst (λ xs. price_sum xs ≡ pos (total blocks (λ b. slice_index price b))) (take_all blocks u (omega (arith, u_length)))
        (plus_sum u price blocks (omega (arith, u_length)) u_is)

    all_discounts : price_sum v ≡ neg_ℤ (pos (total blocks (λ p. slice_index discount p)))
    all_discounts = subst (λ xs. price_sum xs ≡ neg_ℤ (pos (total blocks (λ p. slice_index discount p))))
        (take_all blocks v (omega (arith, v_length))) (minus_sum v discount blocks (omega (arith, v_length)) v_is)
