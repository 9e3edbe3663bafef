-- The bits of loads, joined by "or", are within the limit of a load exactly where each load is.
use Rattle.std.proofs.Common.{ℕ, ◌+◌, ◌<◌, ◌≤◌, List, length, take, get_or, All, ◌↔◌, bit_or, IsTrue, nat_le, arith, subst, sym, ◌∙◌}
use Rattle.std.proofs.lemmas.Nat.{le_or_l, le_or_r, or_lt}
use Rattle.std.proofs.lemmas.Bool.{leb-true, le-leb}
use Rattle.std.proofs.lemmas.List.{get_or-take, length-take, take_all}
use Rattle.std.proofs.lemmas.List.Elements.{All-more, All-get_or, All-from_get_or}
use Rattle.chare_index.specs.declared.limits.TheConstants.Limits.{LOAD}

abbrev fits : ℕ → Type 0
fits load = load ≤ LOAD

both_fit : (a b : ℕ) → a ≤ LOAD → b ≤ LOAD → bit_or a b ≤ LOAD
both_fit a b first second = omega (arith, or_lt 47 a b (omega (arith, first)) (omega (arith, second)))

within : (loads : List ℕ) (i k : ℕ) → i < length loads → k ≤ i → k < length (take (i + 1) loads)
within loads i k inside before = omega (arith, length-take (i + 1) loads)

fewer : (loads : List ℕ) (i : ℕ) → i < length loads → All fits (take (i + 1) loads) → All fits (take i loads)
fewer loads i inside all =
    All-from_get_or fits (take i loads) 0 (λ k lt.
    let before : k < i = omega (arith, lt, length-take i loads, inside) in
    subst fits (get_or-take (i + 1) loads k 0 (omega (arith, before)) ∙ sym (get_or-take i loads k 0 before))
    (All-get_or fits (take (i + 1) loads) k 0 (within loads i k inside (omega (arith, before))) all))

last : (loads : List ℕ) (i : ℕ) → i < length loads → All fits (take (i + 1) loads) → fits (get_or loads i 0)
last loads i inside all =
    subst fits (get_or-take (i + 1) loads i 0 (omega arith))
    (All-get_or fits (take (i + 1) loads) i 0 (within loads i i inside (omega arith)) all)

more : (loads : List ℕ) (i bits : ℕ) → i < length loads → (bits ≤ LOAD) ↔ All fits (take i loads)
    → bit_or bits (get_or loads i 0) ≤ LOAD → All fits (take (i + 1) loads)
more loads i bits inside kept small =
    All-more fits loads i 0 inside (kept.0 (omega (arith, small, le_or_l bits (get_or loads i 0))))
    (omega (arith, small, le_or_r bits (get_or loads i 0)))

-- the bits of one more load
pub next_joins : (loads : List ℕ) (i bits : ℕ) → i < length loads → (bits ≤ LOAD) ↔ All fits (take i loads)
    → (bit_or bits (get_or loads i 0) ≤ LOAD) ↔ All fits (take (i + 1) loads)
next_joins loads i bits inside kept = (
  λ small. more loads i bits inside kept small,
  λ all. both_fit bits (get_or loads i 0) (kept.1 (fewer loads i inside all)) (last loads i inside all),
)

-- the bits of all loads
pub all_joined : (loads : List ℕ) (i bits : ℕ) → length loads ≤ i → (bits ≤ LOAD) ↔ All fits (take i loads) → IsTrue (nat_le bits LOAD) ↔ All fits loads
all_joined loads i bits over kept =
    let whole = take_all i loads over in (
      λ small. subst (All fits) whole (kept.0 (leb-true bits LOAD small)),
      λ all. le-leb bits LOAD (kept.1 (subst (All fits) (sym whole) all)),
    )
