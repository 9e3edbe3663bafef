-- Times in ticks against exact times.
use Rattle.std.specs.Int.{◌∣◌}
use Rattle.std.proofs.Common.{◌≡◌, ℕ, suc, zero, ◌+◌, ◌-◌, ◌*◌, ◌/◌, ◌^◌, ◌<◌, ◌≤◌, max, min, inl, inr, arith, add-one, ap, subst}
use Rattle.std.proofs.lemmas.Bool.{cases_lt}
use Rattle.std.proofs.lemmas.Nat.{le-div, mul-le}
use Rattle.std.proofs.lemmas.Nat.Gcd.{mod-eq-zero_of_dvd}
use Rattle.std.proofs.Math.Nat.{div-add-mod, div-le_self, div-mul-le_self, mul-le-mul_left, mul-le-mul_right, le_of_mul-le-mul_right}
use Rattle.speed_certificates.specs.declared.limits.TheConstants.SpeedLimits.{SPEED}
use Rattle.speed_certificates.specs.Speeds.{Pes, ArePes, count, speed_of}
use Rattle.speed_partition.specs.Ticks.{AreApart, IsLimit, IsNeeded, IsScale}

-- the limit of a PE, by one division
pub limit_is : (background speed ticks scale : ℕ) → 1 ≤ scale → background * scale ≤ ticks * speed
    → IsLimit background speed ticks scale (min (ticks * speed / scale - background) (2 ^ 64 - 1))
limit_is background speed ticks scale some idle =
    record {
      within = λ units light. omega (
        arith,
        idle_fits,
        div-mul-le_self (ticks * speed) scale,
        mul-le-mul_right scale (whole units (omega (arith, light))),
      );
      greatest = λ units small by. omega (arith, small, le-div (background + units) (ticks * speed) scale some by);
    }
  where
    idle_fits : background ≤ ticks * speed / scale
    idle_fits = le-div background (ticks * speed) scale some idle

    whole : (units : ℕ) → units ≤ ticks * speed / scale - background → background + units ≤ ticks * speed / scale
    whole units light = omega (arith, light, idle_fits)

-- where one end is past a tick and another by the next tick, the other is not after the one
pub same_tick : (w₁ s₁ w₂ s₂ k scale : ℕ) → 1 ≤ s₂ → AreApart scale s₁ s₂ → k * s₁ < w₁ * scale → w₂ * scale ≤ (k + 1) * s₂ → w₂ * s₁ ≤ w₁ * s₂
same_tick w₁ s₁ w₂ s₂ k scale some apart past by =
    elim (cases_lt (w₁ * s₂) (w₂ * s₁)) [
      | inl after ↦ absurd (omega (arith, some, apart w₁ w₂ after, mul-le-mul_right s₁ by, mul-le-mul_right s₂ past))
      | inr fine ↦ fine
    ]

-- Times n / v in the tick of their number: what is so by them and by that tick.
pub record IsInTick (n v ticks scale : ℕ) : Type 0 where
  pub some : 1 ≤ v
  pub some_tick : 1 ≤ scale
  pub needed : IsNeeded n v scale ticks

-- who ends by the tick ends by the time
pub by_time : (n v ticks scale work speed : ℕ) → IsInTick n v ticks scale → 1 ≤ speed → AreApart scale v speed → work * scale ≤ ticks * speed → work * v ≤ n * speed
by_time n v zero scale work speed h some apart by =
    let none : work ≡ 0 = none_left work scale h.some_tick (omega (arith, by)) in
    omega (arith, ap (λ w. w * v) none)
  where
    none_left : (a b : ℕ) → 1 ≤ b → a * b ≤ 0 → a ≡ 0
    none_left a b some small = omega (arith, some, small, mul-le-mul_left a some)
by_time n v (suc k) scale work speed h some apart by =
    same_tick n v work speed k scale some apart (h.needed.least k (omega arith)) (rw add-one by)

-- who ends by the time ends by the tick
pub by_ticks : (n v ticks scale work speed : ℕ) → IsInTick n v ticks scale → work * v ≤ n * speed → work * scale ≤ ticks * speed
by_ticks n v ticks scale work speed h by =
    le_of_mul-le-mul_right {m = work * scale} {n = ticks * speed} {k = v}
    (omega (arith, mul-le-mul_right scale by, mul-le-mul_right speed h.needed.by)) h.some

-- who ends past the tick before ends at the time or later
pub from_past : (n v k scale work speed : ℕ) → IsInTick n v (k + 1) scale → AreApart scale speed v → k * speed < work * scale → n * speed ≤ work * v
from_past n v k scale work speed h apart past =
    same_tick work speed n v k scale h.some apart past h.needed.by

-- who ends at the time or later ends past each tick before
pub past_from : (n v ticks scale work speed k : ℕ) → IsInTick n v ticks scale → 1 ≤ speed → n * speed ≤ work * v → k < ticks → k * speed < work * scale
past_from n v ticks scale work speed k h some from before =
    elim (cases_lt (k * speed) (work * scale)) [
      | inl past ↦ past
      | inr by ↦ absurd (omega (
        arith,
        some,
        mul-le-mul_right speed (h.needed.least k before),
        mul-le-mul_right scale from,
        mul-le-mul_right v by,
      ))
    ]

-- who ends by a time that is by a tick ends by that tick
pub by_sooner : (n v sooner scale work speed : ℕ) → 1 ≤ v → n * scale ≤ sooner * v → work * v ≤ n * speed → work * scale ≤ sooner * speed
by_sooner n v sooner scale work speed some by work_by =
    le_of_mul-le-mul_right {m = work * scale} {n = sooner * speed} {k = v} (omega (arith, mul-le-mul_right scale work_by, mul-le-mul_right speed by)) some

-- a number that a divisor divides, as a multiple of it
multiple : (g n : ℕ) → g ∣ n → n ≡ g * (n / g)
multiple g n divides = omega (arith, div-add-mod n g, mod-eq-zero_of_dvd g divides)

pub some_divisor : (g n : ℕ) → g ∣ n → 1 ≤ n → 1 ≤ g
some_divisor g n divides some =
    elim (cases_lt 0 g) [
      | inl positive ↦ positive
      | inr none ↦ absurd (omega (arith, some, multiple g n divides, mul-le-mul_right (n / g) none))
    ]

some_quotient : (g n : ℕ) → g ∣ n → 1 ≤ n → 1 ≤ n / g
some_quotient g n divides some =
    elim (cases_lt 0 (n / g)) [
      | inl positive ↦ positive
      | inr none ↦ absurd (omega (arith, some, multiple g n divides, mul-le-mul_left g none))
    ]

pub divides_max : (g m n : ℕ) → g ∣ m → g ∣ n → g ∣ max m n
divides_max g m n one other =
    elim (cases_lt m n) [
      | inl below ↦
          let e : n ≡ max m n = omega arith in
          subst (λ k. g ∣ k) e other
      | inr above ↦
          let e : m ≡ max m n = omega arith in
          subst (λ k. g ∣ k) e one
    ]

-- cross products of its multiples that differ do so by the divisor or more
cross_apart : (g one other a b : ℕ) → g ∣ one → g ∣ other → a * other < b * one → a * other + g ≤ b * one
cross_apart g one other a b divides divides_other before =
    let x = ap (λ n. b * n) (multiple g one divides) in
    let y = ap (λ n. a * n) (multiple g other divides_other) in
    elim (cases_lt (a * (other / g)) (b * (one / g))) [
      | inl less ↦ omega (arith, x, y, mul-le-mul_left g less)
      | inr not_less ↦ absurd (omega (arith, before, x, y, mul-le-mul_left g not_less))
    ]

square_small : (greatest : ℕ) → greatest ≤ SPEED → greatest * greatest ≤ 2 ^ 40
square_small greatest small = omega (arith, mul-le-mul_right greatest small, mul-le-mul_left SPEED small)

-- the ticks of a unit of time are few
pub scale_small : (greatest divisor : ℕ) → greatest ≤ SPEED → greatest * (greatest / divisor) ≤ 2 ^ 40
scale_small greatest divisor small =
    omega (arith, square_small greatest small, mul-le-mul_left greatest (div-le_self greatest divisor))

pub scale_from : (pes : Pes) (greatest divisor : ℕ) → ArePes pes → 1 ≤ greatest → greatest ≤ SPEED → ((p : ℕ) → p < count pes → speed_of pes p ≤ greatest)
    → divisor ∣ greatest → ((p : ℕ) → p < count pes → divisor ∣ speed_of pes p) → IsScale pes (greatest * (greatest / divisor))
scale_from pes greatest divisor are some small above divides each =
    record {
      are = are;
      some = omega (arith, mul-le (1) (1) greatest (greatest / divisor) some (some_quotient divisor greatest divides some));
      small = scale_small greatest divisor small;
      apart = λ p q one other a b before. omega (
        arith,
        mul-le-mul_right (greatest * (greatest / divisor)) (cross_apart divisor (speed_of pes p) (speed_of pes q) a b (each p one) (each q other) before),
        ap (λ n. greatest * n) (multiple divisor greatest divides),
        mul-le (speed_of pes p) (speed_of pes q) greatest greatest (above p one) (above q other),
      );
    }
