-- What limits that were tried show of the least bottleneck, and where limits to try lie.
use Rattle.std.proofs.Common.{◌≡◌, ◌⊎◌, ℕ, ◌+◌, ◌-◌, ◌*◌, ◌/◌, ◌<◌, ◌≤◌, min, max, inl, inr, List, length, slice_index, arith, refl, sym, subst}
use Rattle.std.proofs.lemmas.Bool.{cases_lt}
use Rattle.std.proofs.lemmas.Nat.{div_below, le-div}
use Rattle.std.proofs.Math.Nat.{div-mul-le_self, mul-le-mul_left, mul-lt-mul_of_pos_left}
use Rattle.chain_partition.specs.Greedy.{CanFit}
use Rattle.chain_partition.specs.Search.{Enclose, StopBelow}
use Rattle.merged_chains.specs.Narrowing.{AreBetween, AreSpread, AreWalked, IsLowered, IsRaised}
use Rattle.merged_chains.proofs.WalkedParts.{walked_fits}

-- no limit yet
pub raised_none : (blocks low : ℕ) (limits closed : List ℕ) → IsRaised blocks 0 limits closed low low
raised_none blocks low limits closed =
    record { no_lower = omega arith; above = λ i inside full. absurd (omega arith); reached = inl refl }

pub lowered_none : (blocks high : ℕ) (limits closed : List ℕ) → IsLowered blocks 0 limits closed high high
lowered_none blocks high limits closed =
    record { no_higher = omega arith; within = λ i inside left. absurd (omega arith); reached = inl refl }

-- one more limit, within which all blocks were closed, or a block was left
pub raised_full : (blocks n low raised : ℕ) (limits closed : List ℕ) → IsRaised blocks n limits closed low raised
    → blocks ≤ slice_index closed n → IsRaised blocks (n + 1) limits closed low (max raised (slice_index limits n + 1))
raised_full blocks n low raised limits closed h full =
    record { no_lower = omega (arith, h.no_lower); above = above; reached = reached }
  where
    above : (i : ℕ) → i < n + 1 → blocks ≤ slice_index closed i → slice_index limits i < max raised (slice_index limits n + 1)
    above i inside closes =
        elim (cases_lt i n) [
          | inl earlier ↦ omega (arith, h.above i earlier closes)
          | inr latest ↦
              let e : n ≡ i = omega arith in
              subst (λ k. slice_index limits k < max raised (slice_index limits n + 1)) e (omega arith)
        ]

    reached : (max raised (slice_index limits n + 1) ≡ low) ⊎
        ((i : ℕ) × (i < n + 1) × (blocks ≤ slice_index closed i) × (max raised (slice_index limits n + 1) ≡ slice_index limits i + 1))
    reached =
        elim (cases_lt raised (slice_index limits n + 1)) [
          | inl greater ↦ inr (n, omega arith, full, omega arith)
          | inr less ↦ elim h.reached [
            | inl same ↦ inl (omega (arith, same))
            | inr found ↦ inr (found.0, omega (arith, found.1), found.2, omega (arith, found.3))
          ]
        ]

pub raised_left : (blocks n low raised : ℕ) (limits closed : List ℕ) → IsRaised blocks n limits closed low raised
    → slice_index closed n < blocks → IsRaised blocks (n + 1) limits closed low raised
raised_left blocks n low raised limits closed h left =
    record { no_lower = h.no_lower; above = above; reached = reached }
  where
    above : (i : ℕ) → i < n + 1 → blocks ≤ slice_index closed i → slice_index limits i < raised
    above i inside closes =
        elim (cases_lt i n) [
          | inl earlier ↦ h.above i earlier closes
          | inr latest ↦
              let e : i ≡ n = omega arith in
              absurd (omega (arith, left, subst (λ k. blocks ≤ slice_index closed k) e closes))
        ]

    reached : (raised ≡ low) ⊎ ((i : ℕ) × (i < n + 1) × (blocks ≤ slice_index closed i) × (raised ≡ slice_index limits i + 1))
    reached = elim h.reached [
      | inl same ↦ inl same
      | inr found ↦ inr (found.0, omega (arith, found.1), found.2, found.3)
    ]

pub lowered_left : (blocks n high lowered : ℕ) (limits closed : List ℕ) → IsLowered blocks n limits closed high lowered
    → slice_index closed n < blocks → IsLowered blocks (n + 1) limits closed high (min lowered (slice_index limits n))
lowered_left blocks n high lowered limits closed h left =
    record { no_higher = omega (arith, h.no_higher); within = within; reached = reached }
  where
    within : (i : ℕ) → i < n + 1 → slice_index closed i < blocks → min lowered (slice_index limits n) ≤ slice_index limits i
    within i inside leaves =
        elim (cases_lt i n) [
          | inl earlier ↦ omega (arith, h.within i earlier leaves)
          | inr latest ↦
              let e : n ≡ i = omega arith in
              subst (λ k. min lowered (slice_index limits n) ≤ slice_index limits k) e (omega arith)
        ]

    reached : (min lowered (slice_index limits n) ≡ high) ⊎ ((i : ℕ) × (i < n + 1) × (slice_index closed i < blocks) × (min lowered (slice_index limits n) ≡ slice_index limits i))
    reached =
        elim (cases_lt (slice_index limits n) lowered) [
          | inl less ↦ inr (n, omega arith, left, omega arith)
          | inr greater ↦ elim h.reached [
            | inl same ↦ inl (omega (arith, same))
            | inr found ↦ inr (found.0, omega (arith, found.1), found.2, omega (arith, found.3))
          ]
        ]

pub lowered_full : (blocks n high lowered : ℕ) (limits closed : List ℕ) → IsLowered blocks n limits closed high lowered
    → blocks ≤ slice_index closed n → IsLowered blocks (n + 1) limits closed high lowered
lowered_full blocks n high lowered limits closed h full =
    record { no_higher = h.no_higher; within = within; reached = reached }
  where
    within : (i : ℕ) → i < n + 1 → slice_index closed i < blocks → lowered ≤ slice_index limits i
    within i inside leaves =
        elim (cases_lt i n) [
          | inl earlier ↦ h.within i earlier leaves
          | inr latest ↦
              let e : i ≡ n = omega arith in
              absurd (omega (arith, full, subst (λ k. slice_index closed k < blocks) e leaves))
        ]

    reached : (lowered ≡ high) ⊎ ((i : ℕ) × (i < n + 1) × (slice_index closed i < blocks) × (lowered ≡ slice_index limits i))
    reached = elim h.reached [
      | inl same ↦ inl same
      | inr found ↦ inr (found.0, omega (arith, found.1), found.2, found.3)
    ]

-- no limit up to one that cannot hold all elements can
stops_within : (xs : List ℕ) (p limit : ℕ) → ¬ (CanFit xs p limit) → StopBelow xs p (limit + 1)
stops_within xs p limit stops lesser below fit =
    stops (fit.0, fit.1, omega (arith, fit.2))

-- walks to the end of the chain narrow bounds of its least bottleneck
pub narrowed_encloses : (xs : List ℕ) (p low high raised lowered : ℕ) (limits closed : List ℕ) → 1 ≤ p → AreWalked xs p limits closed
    → Enclose xs p low high → IsRaised p (length limits) limits closed low raised → IsLowered p (length limits) limits closed high lowered
    → Enclose xs p raised lowered
narrowed_encloses xs p low high raised lowered limits closed some walked h up down =
    record { stops = stops; fits = fits }
  where
    stops : StopBelow xs p raised
    stops = elim up.reached [
      | inl same ↦ subst (λ n. StopBelow xs p n) (sym same) h.stops
      | inr found ↦
          let walk = walked found.0 found.1 in
          let full : ¬ (CanFit xs p (slice_index limits found.0)) = λ fit. absurd (omega (arith, found.2, (walked_fits xs walk.1 p _ walk.2 some).0 fit)) in
          subst (λ n. StopBelow xs p n) (sym found.3) (stops_within xs p (slice_index limits found.0) full)
    ]

    fits : CanFit xs p lowered
    fits = elim down.reached [
      | inl same ↦ subst (λ n. CanFit xs p n) (sym same) h.fits
      | inr found ↦
          let walk = walked found.0 found.1 in
          subst (λ n. CanFit xs p n) (sym found.3) ((walked_fits xs walk.1 p _ walk.2 some).1 found.2)
    ]

-- the numbers of the groups up to one are at least one, and not all
pub some_behind : (numbers groups j : ℕ) → groups ≤ numbers → 0 < groups → 1 ≤ numbers * (j + 1) / groups
some_behind numbers groups j enough some =
    let first : 1 ≤ j + 1 = omega arith in
    le-div 1 (numbers * (j + 1)) groups some (omega (arith, enough, mul-le-mul_left numbers first))

not_all_behind : (numbers groups j : ℕ) → 0 < numbers → j + 1 < groups → numbers * (j + 1) / groups < numbers
not_all_behind numbers groups j some inside =
    div_below (numbers * (j + 1)) groups numbers (omega arith) (mul-lt-mul_of_pos_left inside some)

-- the next group has one more at least
more_behind : (numbers groups j : ℕ) → groups ≤ numbers → 0 < groups → numbers * (j + 1) / groups < numbers * (j + 1 + 1) / groups
more_behind numbers groups j enough some =
    let before : numbers * (j + 1) / groups * groups ≤ numbers * (j + 1) = div-mul-le_self (numbers * (j + 1)) groups in
    let more : numbers * (j + 1) / groups + 1 ≤ numbers * (j + 1 + 1) / groups = le-div (numbers * (j + 1) / groups + 1)
    (numbers * (j + 1 + 1)) groups some (omega (arith, enough, before)) in
    omega (arith, more)

-- limits that are spread lie between the bounds
pub spread_between : (low high : ℕ) (limits : List ℕ) → low ≤ high → length limits ≤ high - low → AreSpread low high limits → AreBetween low high limits
spread_between low high limits ordered few spread =
    record { from_low = from_low; below_high = below_high; ascending = ascending }
  where
    from_low : (j : ℕ) → j < length limits → low ≤ slice_index limits j
    from_low j inside = omega (arith, spread j inside)

    below_high : (j : ℕ) → j < length limits → slice_index limits j < high
    below_high j inside =
        omega (
          arith,
          spread j inside,
          not_all_behind (high - low + 1) (length limits + 1) j (omega arith) (omega arith),
          some_behind (high - low + 1) (length limits + 1) j (omega arith) (omega arith),
        )

    ascending : (j : ℕ) → j + 1 < length limits → slice_index limits j < slice_index limits (j + 1)
    ascending j inside =
        omega (
          arith,
          spread j (omega arith),
          spread (j + 1) inside,
          more_behind (high - low + 1) (length limits + 1) j (omega arith) (omega arith),
          some_behind (high - low + 1) (length limits + 1) j (omega arith) (omega arith),
        )
