-- The arithmetic of a standard deviation.
use Rattle.std.proofs.Common.{◌≡◌, ◌≢◌, ℕ, zero, suc, ◌+◌, ◌*◌, ◌/◌, ◌^◌, ◌<◌, ◌≤◌, inl, inr, arith, ap, refl, subst, sym, ◌∙◌}
use Rattle.std.specs.Prelude.{nat_le, if◌then◌else◌}
use Rattle.std.proofs.lemmas.Bool.{cases_lt, ne_eqb}
use Rattle.std.proofs.lemmas.Bool.Decides.{nat_tests}
use Rattle.std.proofs.Math.Nat.{div-le_of_le-mul, mul-le-mul, mul-le-mul_left}
use Rattle.chare_index.specs.declared.limits.TheConstants.Limits.{PES}
use Rattle.lb_certificates.specs.Naming.{total}
use Rattle.load_report.specs.Figures.{billion, deviation_of, root, squares_of}

-- a number is the root of n where its square is at most n and the next one's is above
abbrev passes : ℕ → ℕ → ℕ
passes n k = if nat_le ((k + 1) * (k + 1)) n then 1 else 0

pass : (n k : ℕ) → (k + 1) * (k + 1) ≤ n → passes n k ≡ 1
pass n k low = grind (arith, nat_tests)

fail : (n k : ℕ) → n < (k + 1) * (k + 1) → passes n k ≡ 0
fail n k high = grind (arith, nat_tests)

passed : (n m r : ℕ) → r * r ≤ n → m ≤ r → total m (passes n) ≡ m
passed n zero r low inside = refl
passed n (suc m) r low inside =
    omega (arith, passed n m r low (omega arith), pass n m (omega (arith, mul-le-mul {n₁ = m + 1} {m₁ = m + 1} {n₂ = r} {m₂ = r} (omega arith) (omega arith))))

counted : (n m r : ℕ) → r * r ≤ n → n < (r + 1) * (r + 1) → r ≤ m → total m (passes n) ≡ r
counted n zero r low high inside = omega arith
counted n (suc m) r low high inside =
    elim (cases_lt m r) [
      | inl below ↦ passed n (suc m) r low (omega arith) ∙ omega arith
      | inr above ↦ omega (
        arith,
        counted n m r low high above,
        fail n m (omega (arith, mul-le-mul {n₁ = r + 1} {m₁ = r + 1} {n₂ = m + 1} {m₂ = m + 1} (omega arith) (omega arith))),
      )
    ]

at_most_square : (r : ℕ) → r ≤ r * r
at_most_square zero = omega arith
at_most_square (suc k) = omega (arith, mul-le-mul_left {m = 1} {n = suc k} (suc k) (omega arith))

pub root_is : (n r : ℕ) → r * r ≤ n → n < (r + 1) * (r + 1) → root n ≡ r
unfolding root
root_is n r low high = counted n n r low high (omega (arith, at_most_square r))

-- a load that is part of a sum is at most the average times the number of PEs
pub billionths_small : (pes load sum : ℕ) → pes ≤ PES → load ≤ sum → (2 * (1000000000 * (load * pes)) + sum) / (2 * sum) ≤ 2 ^ 40
billionths_small pes load sum few part =
    div-le_of_le-mul (2 * sum) (omega (arith, mul-le-mul {n₁ = load} {m₁ = pes} {n₂ = sum} {m₂ = 256} part few))

pub square_small : (n : ℕ) → n ≤ 2 ^ 40 → n * n ≤ 2 ^ 100
square_small n small = omega (arith, mul-le-mul {n₁ = n} {m₁ = n} {n₂ = 2 ^ 40} {m₂ = 2 ^ 40} small small)

-- half of the root of four times the square, rounded up
pub deviation_is : (pes sum : ℕ) (loads : ℕ → ℕ) (squares wide r : ℕ) → pes ≢ 0 → squares ≡ squares_of pes sum loads → wide ≡ pes
    → r * r ≤ 4 * squares / (wide * (billion * 1000)) → 4 * squares / (wide * (billion * 1000)) < (r + 1) * (r + 1) → (r + 1) / 2 ≡ deviation_of pes sum loads
unfolding deviation_of
deviation_is pes sum loads squares wide r some is same low high =
    let here : root (4 * squares / (wide * (billion * 1000))) ≡ r = root_is (4 * squares / (wide * (billion * 1000))) r low high in
    let there : root (4 * squares_of pes sum loads / (pes * (billion * 1000))) ≡ r =
    subst (λ w. root (4 * squares_of pes sum loads / (w * (billion * 1000))) ≡ r) same (subst (λ s. root (4 * s / (wide * (billion * 1000))) ≡ r) is here) in
    rw (ne_eqb pes 0 some) (ap (λ k. (k + 1) / 2) (sym there))

pub no_deviation : (pes sum : ℕ) (loads : ℕ → ℕ) → pes ≡ 0 → 0 ≡ deviation_of pes sum loads
unfolding deviation_of
no_deviation pes sum loads none = rw none refl
