-- The greatest of a list is within a limit exactly where each number is.
use Rattle.std.proofs.Common.{ℕ, ◌-◌, ◌<◌, ◌≤◌, List, All, ◌↔◌, IsTrue, nat_le, nat_lt, arith}
use Rattle.std.proofs.lemmas.Bool.{leb-true, le-leb, ltb-true, lt-ltb}
use Rattle.std.proofs.lemmas.List.Elements.{All-weaker}

pub within_limit : (xs : List ℕ) (most limit : ℕ) → All (λ x. x ≤ most) xs → ((other : ℕ) → All (λ x. x ≤ other) xs → most ≤ other)
    → IsTrue (nat_le most limit) ↔ All (λ x. x ≤ limit) xs
within_limit xs most limit bounds least = (
  λ small. All-weaker (λ x. x ≤ most) (λ x. x ≤ limit) (λ x inside. omega (arith, inside, leb-true most limit small)) xs bounds,
  λ all. le-leb most limit (least limit all),
)

pub below_limit : (xs : List ℕ) (most limit : ℕ) → 0 < limit → All (λ x. x ≤ most) xs → ((other : ℕ) → All (λ x. x ≤ other) xs → most ≤ other)
    → IsTrue (nat_lt most limit) ↔ All (λ x. x < limit) xs
below_limit xs most limit some bounds least = (
  λ small. All-weaker (λ x. x ≤ most) (λ x. x < limit) (λ x inside. omega (arith, inside, ltb-true most limit small)) xs bounds,
  λ all. lt-ltb most limit (omega (arith, some, least (limit - 1) (All-weaker (λ x. x < limit) (λ x. x ≤ limit - 1) (λ x inside. omega (arith, inside)) xs all))),
)
