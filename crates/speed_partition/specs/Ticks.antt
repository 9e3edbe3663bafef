-- Time counted in ticks, of which a unit of time has a whole number. It is this project's way to search for a fraction.
use Rattle.std.specs.Prelude.{◌≡◌, ℕ, ◌+◌, ◌*◌, ◌^◌, ◌<◌, ◌≤◌, sum, take}
use Rattle.speed_certificates.specs.Speeds.{Pes, ArePes, count, speed_of, background_of, EndsBy}
use Rattle.speed_partition.specs.declared.opening.PeTotals.{PeTotals}

-- of the times work / speed at these two speeds, each two that are different are at least a tick apart
abbrev pub AreApart : ℕ → ℕ → ℕ → Type 0
AreApart scale one other =
    (a b : ℕ) → a * other < b * one → a * other * scale + one * other ≤ b * one * scale

-- so many ticks are a unit of time: few enough for 64 bits, and enough to tell any two end times of these PEs apart
pub record IsScale (pes : Pes) (scale : ℕ) : Type 0 where
  pub are : ArePes pes
  pub some : 1 ≤ scale
  pub small : scale ≤ 2 ^ 40
  pub apart : (p q : ℕ) → p < count pes → q < count pes → AreApart scale (speed_of pes p) (speed_of pes q)

-- the least number of ticks that are not before the time work / speed
pub record IsNeeded (work speed scale ticks : ℕ) : Type 0 where
  pub by : work * scale ≤ ticks * speed
  pub least : (sooner : ℕ) → sooner < ticks → sooner * speed < work * scale

-- of the loads of 64 bits, the greatest with which a PE of this speed and background ends by so many ticks
pub record IsLimit (background speed ticks scale limit : ℕ) : Type 0 where
  pub within : (units : ℕ) → units ≤ limit → (background + units) * scale ≤ ticks * speed
  pub greatest : (units : ℕ) → units < 2 ^ 64 → (background + units) * scale ≤ ticks * speed → units ≤ limit

-- what the first k PEs are together
pub record ArePeTotals (pes : Pes) (scale k : ℕ) (totals : PeTotals) : Type 0 where
  pub background_is : totals.background ≡ sum (take k pes.background)
  pub speed_is : totals.speed ≡ sum (take k pes.speeds)
  pub slowest : (p : ℕ) → p < k → totals.slowest ≤ speed_of pes p
  pub idle_by : (p : ℕ) → p < k → EndsBy pes totals.idle scale p (background_of pes p)
  pub idle_least : (ticks : ℕ) → ((p : ℕ) → p < k → EndsBy pes ticks scale p (background_of pes p)) → totals.idle ≤ ticks
