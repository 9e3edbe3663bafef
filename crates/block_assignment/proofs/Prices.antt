-- How great prices and distances are.
use Rattle.std.proofs.Common.{◌≡◌, ℕ, ◌+◌, ◌*◌, ◌^◌, ◌<◌, ◌≤◌, inl, inr, List, [], ◌∷◌, All, length, slice_index, arith, ap, subst, refl, ℤ, pos, neg_ℤ}
use Rattle.std.proofs.lemmas.Int.{ints}
use Rattle.std.proofs.lemmas.List.{get_or_default}
use Rattle.std.proofs.lemmas.List.Elements.{All-head, All-tail}
use Rattle.std.proofs.lemmas.List.Recursion.{max_bounds}
use Rattle.std.proofs.lemmas.Nat.{mul-add-lt}
use Rattle.lb_certificates.specs.Naming.{price_at}
use Rattle.block_assignment.specs.declared.limits.TheConstants.MatrixLimits.{BYTES}
use Rattle.block_assignment.specs.Table.{Table, IsMatrix, cost_at, greatest, AreWithin}
use Rattle.block_assignment.specs.Search.{State, IsMatched, IsSmall, IsTree}
use Rattle.block_assignment.proofs.Coverings.{held_or_free, some_free}
use Rattle.block_assignment.proofs.Sums.{cost_within}

-- each cost is at most the greatest
pub cost_bounded : (t : Table) (b p : ℕ) → IsMatrix t → b < t.blocks → p < t.blocks → cost_at t b p ≤ greatest t.costs
cost_bounded t b p h block pe =
    max_bounds greatest (λ cost. cost) refl (λ x xs. refl) t.costs (b * t.blocks + p) 0 (omega (arith, h.square, mul-add-lt b t.blocks p t.blocks block pe))

-- while a PE has no discount, no price is above the greatest cost
pub price_bounded : (s : State) (free : ℕ) → IsMatrix s.table → IsMatched s → free < s.table.blocks → slice_index s.discount free ≡ 0
    → (b : ℕ) → b < s.table.blocks → slice_index s.price b ≤ greatest s.table.costs
price_bounded s free table matched inside none b block =
    omega (arith, matched.low b free block inside, none, cost_bounded s.table b free table block inside)

-- and then no discount is
pub discount_bounded : (s : State) → s.named ≤ s.table.blocks
    → ((b : ℕ) → b < s.table.blocks → slice_index s.price b ≤ greatest s.table.costs) → IsMatched s → (p : ℕ) → p < s.table.blocks
    → slice_index s.discount p ≤ greatest s.table.costs
discount_bounded s few price matched p inside =
    elim (held_or_free s.named s.names p) [
      | inl held ↦
          let tight : slice_index s.price held.0 ≡ cost_at s.table held.0 p + slice_index s.discount p = subst
          (λ q. slice_index s.price held.0 ≡ cost_at s.table held.0 q + slice_index s.discount q) held.2 (matched.tight held.0 held.1) in
          omega (arith, tight, price held.0 (omega (arith, held.1)))
      | inr free ↦ omega (arith, matched.free p inside free)
    ]

-- while a PE is free, prices are small
pub small_from_matched : (s : State) → IsMatrix s.table → IsMatched s → s.named < s.table.blocks → IsSmall s
small_from_matched s table matched fewer =
    let free = some_free s.named s.table.blocks s.names fewer in
    let price : (b : ℕ) → b < s.table.blocks → slice_index s.price b ≤ greatest s.table.costs = price_bounded s free.0 table matched free.1 (matched.free free.0 free.1 free.2) in
    record {
      price = price;
      discount = discount_bounded s (omega arith) price matched;
    }

-- and far below 2^64
pub greatest_small : (costs : List ℕ) (n : ℕ) → All (λ cost. cost ≤ n) costs → greatest costs ≤ n
greatest_small [] n small = omega arith
greatest_small (cost ∷ costs) n small = omega (arith, All-head (λ c. c ≤ n) cost costs small, greatest_small costs n (All-tail (λ c. c ≤ n) cost costs small))

pub prices_small : (s : State) → IsMatrix s.table → IsMatched s → s.named < s.table.blocks → (b : ℕ) → b < s.table.blocks → slice_index s.price b ≤ BYTES
prices_small s table matched fewer b inside =
    let free = some_free s.named s.table.blocks s.names fewer in
    omega (arith, matched.low b free.0 inside free.1, matched.free free.0 free.1 free.2, cost_within s.table b free.0 table inside free.1)

pub discount_small : (s : State) → IsMatrix s.table → IsMatched s → s.named < s.table.blocks → (p : ℕ) → p < s.table.blocks → slice_index s.discount p ≤ BYTES
discount_small s table matched fewer p inside =
    elim (held_or_free s.named s.names p) [
      | inl held ↦
          let tight : slice_index s.price held.0 ≡ cost_at s.table held.0 p + slice_index s.discount p = subst
          (λ q. slice_index s.price held.0 ≡ cost_at s.table held.0 q + slice_index s.discount q) held.2 (matched.tight held.0 held.1) in
          omega (arith, tight, prices_small s table matched fewer held.0 (omega (arith, held.1)))
      | inr free ↦ omega (arith, matched.free p inside free)
    ]

-- how far a PE is from the root
pub distance_small : (next : ℕ) (s : State) → IsMatrix s.table → IsMatched s → IsTree next s → s.named < s.table.blocks → (p : ℕ)
    → p < s.table.blocks → slice_index s.distance p ≤ 2 ^ 48
distance_small next s table matched tree fewer p inside =
    omega (arith, tree.least s.named 0 p (inl (refl, refl)) inside, cost_within s.table s.named p table fewer inside, discount_small s table matched fewer p inside)

-- prices made of them are within the same bound
pub prices_within : (n bound : ℕ) (u v : List ℤ) (price discount : List ℕ) → length u ≡ n → length v ≡ n
    → ((b : ℕ) → b < n → price_at u b ≡ pos (slice_index price b)) → ((p : ℕ) → p < n → price_at v p ≡ neg_ℤ (pos (slice_index discount p)))
    → ((b : ℕ) → b < n → slice_index price b ≤ bound) → ((p : ℕ) → p < n → slice_index discount p ≤ bound) → AreWithin bound u v
prices_within n bound u v price discount u_length v_length u_is v_is price_most discount_most =
    record {
      block_prices = λ b d inside.
          let within : b < n = omega (arith, inside, u_length) in
          let same = get_or_default u b (pos 0) d inside in
          (omega (arith, ints, same, u_is b within, price_most b within), omega (arith, ints, same, u_is b within, price_most b within));
      pe_prices = λ p d inside.
          let within : p < n = omega (arith, inside, v_length) in
          let same = get_or_default v p (pos 0) d inside in
          (omega (arith, ints, same, v_is p within, discount_most p within), omega (arith, ints, same, v_is p within, discount_most p within));
    }

pub small_kept : (s s' : State) → s'.table ≡ s.table → s'.price ≡ s.price → s'.discount ≡ s.discount → IsSmall s → IsSmall s'
small_kept s s' table price discount small =
    record {
      price = λ b inside. omega (
        arith,
        ap (λ xs. slice_index xs b) price,
        ap (λ (t : Table). greatest t.costs) table,
        small.price b (omega (arith, inside, ap (λ (t : Table). t.blocks) table)),
      );
      discount = λ p inside. omega (
        arith,
        ap (λ xs. slice_index xs p) discount,
        ap (λ (t : Table). greatest t.costs) table,
        small.discount p (omega (arith, inside, ap (λ (t : Table). t.blocks) table)),
      );
    }
