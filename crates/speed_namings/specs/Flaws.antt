-- What can be wrong with names of blocks on PEs that differ, and which flaw of several is reported.
use Rattle.std.specs.Prelude.{◌≡◌, ◌≢◌, ◌⊎◌, ℕ, ◌+◌, ◌*◌, ◌<◌, ◌≤◌, List, length, slice_index, ℤ, pos, ◌+ℤ◌, ◌<ℤ◌, ◌≤ℤ◌}
use Rattle.lb_certificates.specs.Flaws.{IsBefore, Repeats}
use Rattle.lb_certificates.specs.Naming.{naming_cost, price_at, price_sum}
use Rattle.block_assignment.specs.Table.{Table, cost_at}
use Rattle.speed_certificates.specs.declared.time.EndTime.{EndTime}
use Rattle.speed_certificates.specs.Speeds.{Pes, count, speed_of, background_of}
use Rattle.speed_namings.specs.declared.flaw.NamesFlaw.{NamesFlaw}
use Rattle.speed_namings.specs.declared.flaw.NamesFlaw.TheVariants.{NameCount, NameRange, NameTwice, NameLate, PriceCount, PriceHigh, PriceGap}
use Rattle.speed_namings.specs.Timely.{MayRun}

-- the pair is not allowed: with block b, PE p ends after the time
abbrev pub IsLate : List ℕ → Pes → EndTime → ℕ → ℕ → Type 0
IsLate loads pes t b p = t.work * speed_of pes p < (background_of pes p + slice_index loads b) * t.speed

-- a flaw of names or prices that applies, whatever else is wrong
abbrev pub HasNamesFlaw : Table → List ℕ → Pes → EndTime → List ℕ → List ℤ → List ℤ → NamesFlaw → Type 0
HasNamesFlaw costs loads pes t names u v NameCount = length names ≢ count pes
HasNamesFlaw costs loads pes t names u v NameRange = (b : ℕ) × (b < length names) × (count pes ≤ slice_index names b)
HasNamesFlaw costs loads pes t names u v NameTwice = Repeats names
HasNamesFlaw costs loads pes t names u v (NameLate b) = (b < count pes) × IsLate loads pes t b (slice_index names b)
HasNamesFlaw costs loads pes t names u v PriceCount = (length u ≢ count pes) ⊎ (length v ≢ count pes)
HasNamesFlaw costs loads pes t names u v (PriceHigh b p) =
    (b < count pes) × (p < count pes) × MayRun loads pes t b p × (pos (cost_at costs b p) <ℤ (price_at u b +ℤ price_at v p))
HasNamesFlaw costs loads pes t names u v PriceGap = price_sum u +ℤ price_sum v ≢ pos (naming_cost (count pes) (cost_at costs) names)

-- the flaw's number in the order in which flaws are reported
abbrev pub names_number : NamesFlaw → ℕ
names_number NameCount = 1
names_number NameRange = 2
names_number NameTwice = 3
names_number (NameLate b) = 4
names_number PriceCount = 5
names_number (PriceHigh b p) = 6
names_number PriceGap = 7

-- the block, or the block and the PE, that the flaw names
abbrev pub names_place : NamesFlaw → ℕ × ℕ
names_place (NameLate b) = (b, 0)
names_place (PriceHigh b p) = (b, p)
names_place _ = (0, 0)

-- the flaw that is reported: of those that apply, the one of the least number and, of these, of the least place
pub record IsFirst (applies : NamesFlaw → Type 0) (flaw : NamesFlaw) : Type 0 where
  pub applies_itself : applies flaw
  pub no_lower_number : (other : NamesFlaw) → names_number other < names_number flaw → ¬ (applies other)
  pub no_lower_place : (other : NamesFlaw) → names_number other ≡ names_number flaw → IsBefore (names_place other) (names_place flaw) → ¬ (applies other)

-- the first block with which its PE ends after the time
pub record IsFirstLate (loads : List ℕ) (pes : Pes) (t : EndTime) (names : List ℕ) (b : ℕ) : Type 0 where
  pub inside : b < count pes
  pub late : IsLate loads pes t b (slice_index names b)
  pub earlier : (k : ℕ) → k < b → MayRun loads pes t k (slice_index names k)

-- the first allowed pair, by block and then by PE, whose prices add up to more than its cost
pub record IsFirstHigh (costs : Table) (loads : List ℕ) (pes : Pes) (t : EndTime) (u v : List ℤ) (pair : ℕ × ℕ) : Type 0 where
  pub block : pair.0 < count pes
  pub pe : pair.1 < count pes
  pub runs : MayRun loads pes t pair.0 pair.1
  pub high : pos (cost_at costs pair.0 pair.1) <ℤ (price_at u pair.0 +ℤ price_at v pair.1)
  pub earlier : (b p : ℕ) → p < count pes → IsBefore (b, p) pair → MayRun loads pes t b p → (price_at u b +ℤ price_at v p) ≤ℤ pos (cost_at costs b p)
