-- Lengths of sums and products, where a length over the limit is reported as one more than the limit.
use Rattle.std.proofs.Common.{◌≡◌, ℕ, zero, suc, ◌+◌, ◌*◌, ◌<◌, ◌≤◌, ◌⊎◌, inl, inr, List, length, flat_map, All, arith, refl, sym, ap, subst, ◌∙◌}
use Rattle.std.proofs.Math.Nat.{suc-mul, zero-mul}
use Rattle.std.proofs.lemmas.Bool.{cases_lt}
use Rattle.chare_index.specs.declared.limits.TheConstants.Limits.{STATE_BYTES}
use Rattle.pup_pack.specs.Lists.{pack_list}
use Rattle.pup_pack.specs.ListTrips.{count_more}
use Rattle.pup_pack.specs.FixedLens.{IsFixed, items_fixed}

-- what is reported of this length
pub record IsTold (len told : ℕ) : Type 0 where
  pub few : len ≤ STATE_BYTES → told ≡ len
  pub many : STATE_BYTES < len → told ≡ STATE_BYTES + 1

few_product : (count each told : ℕ) → IsTold each told → count * each ≤ STATE_BYTES → count * told ≡ count * each
few_product zero each told is few = rw (zero-mul told, zero-mul each) refl
few_product (suc c) each told is few =
    let one : each ≤ STATE_BYTES = omega (arith, few, suc-mul c each) in
    rw (is.few one) refl

many_product : (count each told : ℕ) → IsTold each told → (STATE_BYTES < each) ⊎ (each ≤ STATE_BYTES) → STATE_BYTES < count * each → STATE_BYTES < count * told
many_product zero each told is or many = absurd (omega (arith, many, zero-mul each))
many_product (suc c) each told is (inl over) many = omega (arith, suc-mul c told, is.many over)
many_product (suc c) each told is (inr one) many = rw (is.few one) many

-- of count parts of this length
pub product_told : (count each told all : ℕ) → IsTold each told → IsTold (count * told) all → IsTold (count * each) all
product_told count each told all one whole =
    record {
      few = λ few. let same = few_product count each told one few in whole.few (omega (arith, same, few)) ∙ same;
      many = λ many. whole.many (many_product count each told one (cases_lt STATE_BYTES each) many);
    }

many_sum : (first len told : ℕ) → IsTold len told → (STATE_BYTES < len) ⊎ (len ≤ STATE_BYTES) → STATE_BYTES < first + len → STATE_BYTES < first + told
many_sum first len told is (inl over) many = omega (arith, is.many over)
many_sum first len told is (inr few) many = rw (is.few few) many

-- of a part beside one of this length
pub sum_told : (first len told both : ℕ) → IsTold len told → IsTold (first + told) both → IsTold (first + len) both
sum_told first len told both one whole =
    record {
      few = λ few. let same : told ≡ len = one.few (omega (arith, few)) in whole.few (omega (arith, same, few)) ∙ (omega (arith, same));
      many = λ many. whole.many (many_sum first len told one (cases_lt STATE_BYTES len) many);
    }

-- of a list of items that each pack into n bytes, after the four bytes of their number
pub list_told : {T : Type 0} (fits : T → Type 0) (pack : T → List ℕ) (n : ℕ) → IsFixed fits pack n → (xs : List T) → All fits xs
    → (count one all whole : ℕ) → count ≡ length xs → IsTold n one → IsTold (count * one) all → IsTold (4 + all) whole → IsTold (length (pack_list pack xs)) whole
list_told fits pack n law xs fit count one all whole same is_one is_all is_whole =
    let each : count * n ≡ length (flat_map pack xs) = ap (λ k. k * n) same ∙ sym (items_fixed fits pack n law xs fit) in
    let len : 4 + count * n ≡ length (pack_list pack xs) = ap (λ m. 4 + m) each ∙ count_more (length (flat_map pack xs)) in
    subst (λ m. IsTold m whole) len (sum_told 4 (count * n) all whole (product_told count n one all is_one is_all) is_whole)
