-- Which flaw of a reordered division is the first, and that a right one has none.
use Rattle.std.proofs.Common.{◌≡◌, ◌≢◌, ◌⊎◌, inl, inr, ℕ, ◌+◌, ◌<◌, ◌≤◌, List, length, slice_index, arith, refl, subst, sym}
use Rattle.chare_index.specs.declared.limits.TheConstants.Limits.{PES}
use Rattle.lb_certificates.specs.declared.flaw.Flaw.{Flaw}
use Rattle.lb_certificates.specs.Certificate.{IsCertified, NoneAbove}
use Rattle.lb_certificates.specs.Chain.{IsDivision}
use Rattle.lb_certificates.specs.Flaws.{AreApart, flaw_number, flaw_place, HasFlaw, IsFirst, Repeats}
use Rattle.lb_certificates.specs.Naming.{bytes_moved}
use Rattle.lb_certificates.proofs.NoFlaws.{flawless}
use Rattle.chain_refinement.proofs.FlawNumbers.{division_flaw}
use Rattle.any_order.specs.declared.flaw.ReorderedFlaw.{ReorderedFlaw}
use Rattle.any_order.specs.declared.flaw.ReorderedFlaw.TheVariants.{Least, PeCount, NameCount, NameRange, NameTwice, CutCount, NoDivision, Heavy, RowCount, Start, Steep, Low}
use Rattle.any_order.specs.declared.reordered.Reordered.{Reordered}
use Rattle.any_order.specs.AnyOrder.{bound_at, IsPlan, IsReordered, reordered_limit}
use Rattle.any_order.specs.Flaws.{ComesFirst, HasReorderedFlaw, IsFirstReorderedFlaw, reordered_flaw_number, reordered_flaw_place}
use Rattle.any_order.specs.Internal.{AreOrdered, bounded_of, claim_at, IsFirstHeavy, IsFirstSteep, RisesBelow, RisesFrom, RisesUpTo}

-- both bounds have a row for each number of blocks, and begin at 0
pub record AreRows {A : Type 0} (pes : ℕ) (r : Reordered A) : Type 0 where
  pub any : length r.any ≡ pes + 1
  pub free : length r.free ≡ pes + 1

pub record AreStarted {A : Type 0} (r : Reordered A) : Type 0 where
  pub any : bound_at r.any 0 0 ≡ 0
  pub free : bound_at r.free 0 0 ≡ 0

-- all that is looked at before the flaws with number n is right
pub record AreRightBefore {A : Type 0} (loads : List ℕ) (sizes : List (ℕ × ℕ)) (pes : ℕ) (r : Reordered A) (n : ℕ) : Type 0 where
  pub least : IsCertified loads pes r.least
  pub some_pe : 20 < n → 0 < pes
  pub few_pes : 20 < n → pes ≤ PES
  pub named : 21 < n → length r.names ≡ pes
  pub below : 22 < n → (b : ℕ) → b < length r.names → slice_index r.names b < pes
  pub apart : 23 < n → AreApart r.names
  pub cut : 24 < n → length r.cuts ≡ pes + 1
  pub divides : 25 < n → IsDivision 0 (length loads) pes r.cuts
  pub light : 26 < n → NoneAbove loads pes (reordered_limit r) r.cuts
  pub rows : 27 < n → AreRows pes r
  pub started : 28 < n → AreStarted r
  pub risen : 29 < n → RisesUpTo (bounded_of loads sizes r) pes

-- so none of the flaws with a lower number applies
nothing_before : {A : Type 0} (loads : List ℕ) (sizes : List (ℕ × ℕ)) (pes : ℕ) (r : Reordered A) (n : ℕ) → AreRightBefore loads sizes pes r n
    → n ≤ 30 → (other : ReorderedFlaw) → reordered_flaw_number other < n → ¬ (HasReorderedFlaw loads sizes pes r other)
nothing_before loads sizes pes r n right few (Least flaw) h flawed = flawless loads pes r.least right.least flaw flawed
nothing_before loads sizes pes r n right few PeCount h (inl none) = absurd (omega (arith, none, right.some_pe h))
nothing_before loads sizes pes r n right few PeCount h (inr many) = absurd (omega (arith, many, right.few_pes h))
nothing_before loads sizes pes r n right few NameCount h flawed = flawed (right.named h)
nothing_before loads sizes pes r n right few NameRange h (b, inside, past) =
    absurd (omega (arith, past, right.below h b inside))
nothing_before loads sizes pes r n right few NameTwice h (i, j, before, inside, same) = right.apart h i j before inside same
nothing_before loads sizes pes r n right few CutCount h flawed = flawed (right.cut h)
nothing_before loads sizes pes r n right few NoDivision h flawed = flawed (right.divides h)
nothing_before loads sizes pes r n right few (Heavy b) h (inside, heavy) =
    absurd (omega (arith, heavy, right.light h b inside))
nothing_before loads sizes pes r n right few RowCount h (inl wrong) = wrong (right.rows h).any
nothing_before loads sizes pes r n right few RowCount h (inr wrong) = wrong (right.rows h).free
nothing_before loads sizes pes r n right few Start h (inl wrong) = wrong (right.started h).any
nothing_before loads sizes pes r n right few Start h (inr wrong) = wrong (right.started h).free
nothing_before loads sizes pes r n right few (Steep b y x) h (inside, flawed) =
    flawed.steep (right.risen h b inside y (omega (arith, flawed.onward, flawed.inside)) x flawed.onward (omega (arith, flawed.inside)) flawed.inside flawed.light flawed.corner)
nothing_before loads sizes pes r n right few Low h flawed = absurd (omega (arith, h, few))

-- a flaw that names no place is the first where none of a lower number applies
first_by_number : (applies : ReorderedFlaw → Type 0) (flaw : ReorderedFlaw) → reordered_flaw_place flaw ≡ (0, 0, 0) → applies flaw
    → ((other : ReorderedFlaw) → reordered_flaw_number other < reordered_flaw_number flaw → ¬ (applies other)) → IsFirstReorderedFlaw applies flaw
first_by_number applies flaw e flawed lower =
    record {
      applies_itself = flawed;
      no_lower_number = lower;
      no_lower_place = λ other same earlier found. not_before (reordered_flaw_place other) (subst (ComesFirst (reordered_flaw_place other)) e earlier);
    }
  where
    not_before : (place : ℕ × ℕ × ℕ) → ¬ (ComesFirst place (0, 0, 0))
    not_before place (inl lower) = absurd (omega (arith, lower))
    not_before place (inr (tied, inl lower)) = absurd (omega (arith, lower))
    not_before place (inr (tied, inr (level, lower))) = absurd (omega (arith, lower))

-- the first flaw of the division is the first of all
pub least_is_first : {A : Type 0} (loads : List ℕ) (sizes : List (ℕ × ℕ)) (pes : ℕ) (r : Reordered A) (flaw : Flaw)
    → IsFirst (HasFlaw loads pes r.least) flaw → IsFirstReorderedFlaw (HasReorderedFlaw loads sizes pes r) (Least flaw)
least_is_first {A} loads sizes pes r flaw first =
    record { applies_itself = first.applies_itself; no_lower_number = lower; no_lower_place = earlier }
  where
    lower : (other : ReorderedFlaw) → reordered_flaw_number other < flaw_number flaw → ¬ (HasReorderedFlaw loads sizes pes r other)
    lower (Least other) h flawed = first.no_lower_number other h flawed
    lower _ h flawed = absurd (omega (arith, h, division_flaw flaw))

    earlier : (other : ReorderedFlaw) → reordered_flaw_number other ≡ flaw_number flaw
        → ComesFirst (reordered_flaw_place other) ((flaw_place flaw).0, (flaw_place flaw).1, 0) → ¬ (HasReorderedFlaw loads sizes pes r other)
    earlier (Least other) same (inl lower) flawed = first.no_lower_place other same (inl lower) flawed
    earlier (Least other) same (inr (tied, inl lower)) flawed = first.no_lower_place other same (inr (tied, lower)) flawed
    earlier (Least other) same (inr (tied, inr (level, lower))) flawed = absurd (omega (arith, lower))
    earlier _ same before flawed = absurd (omega (arith, same, division_flaw flaw))

-- each flaw of the order is the first, where all that is looked at before it is right
pub pe_count_is_first : {A : Type 0} (loads : List ℕ) (sizes : List (ℕ × ℕ)) (pes : ℕ) (r : Reordered A) → IsCertified loads pes r.least
    → (pes ≡ 0) ⊎ (PES < pes) → IsFirstReorderedFlaw (HasReorderedFlaw loads sizes pes r) PeCount
pe_count_is_first loads sizes pes r least wrong =
    first_by_number (HasReorderedFlaw loads sizes pes r) PeCount refl wrong (nothing_before loads sizes pes r 20 (record {
      least = least;
      some_pe = λ h. absurd (omega (arith, h));
      few_pes = λ h. absurd (omega (arith, h));
      named = λ h. absurd (omega (arith, h));
      below = λ h. absurd (omega (arith, h));
      apart = λ h. absurd (omega (arith, h));
      cut = λ h. absurd (omega (arith, h));
      divides = λ h. absurd (omega (arith, h));
      light = λ h. absurd (omega (arith, h));
      rows = λ h. absurd (omega (arith, h));
      started = λ h. absurd (omega (arith, h));
      risen = λ h. absurd (omega (arith, h));
    }) (omega arith))

right_to_names : {A : Type 0} (loads : List ℕ) (sizes : List (ℕ × ℕ)) (pes : ℕ) (r : Reordered A) (n : ℕ) → n ≤ 23 → IsCertified loads pes r.least
    → 0 < pes → pes ≤ PES → (21 < n → length r.names ≡ pes) → (22 < n → (b : ℕ) → b < length r.names → slice_index r.names b < pes)
    → AreRightBefore loads sizes pes r n
right_to_names loads sizes pes r n few least some_pe few_pes named below =
    record {
      least = least;
      some_pe = λ _. some_pe;
      few_pes = λ _. few_pes;
      named = named;
      below = below;
      apart = λ h. absurd (omega (arith, h));
      cut = λ h. absurd (omega (arith, h));
      divides = λ h. absurd (omega (arith, h));
      light = λ h. absurd (omega (arith, h));
      rows = λ h. absurd (omega (arith, h));
      started = λ h. absurd (omega (arith, h));
      risen = λ h. absurd (omega (arith, h));
    }

pub name_count_is_first : {A : Type 0} (loads : List ℕ) (sizes : List (ℕ × ℕ)) (pes : ℕ) (r : Reordered A) → IsCertified loads pes r.least → 0 < pes
    → pes ≤ PES → length r.names ≢ pes → IsFirstReorderedFlaw (HasReorderedFlaw loads sizes pes r) NameCount
name_count_is_first loads sizes pes r least some few wrong =
    let right = right_to_names loads sizes pes r 21 (omega arith) least some few (λ h. absurd (omega (arith, h))) (λ h. absurd (omega (arith, h))) in
    first_by_number (HasReorderedFlaw loads sizes pes r) NameCount refl wrong (nothing_before loads sizes pes r 21 right (omega arith))

pub name_range_is_first : {A : Type 0} (loads : List ℕ) (sizes : List (ℕ × ℕ)) (pes : ℕ) (r : Reordered A) → IsCertified loads pes r.least → 0 < pes
    → pes ≤ PES → length r.names ≡ pes → (b : ℕ) × (b < length r.names) × (pes ≤ slice_index r.names b)
    → IsFirstReorderedFlaw (HasReorderedFlaw loads sizes pes r) NameRange
name_range_is_first loads sizes pes r least some few named wrong =
    let right = right_to_names loads sizes pes r 22 (omega arith) least some few (λ _. named) (λ h. absurd (omega (arith, h))) in
    first_by_number (HasReorderedFlaw loads sizes pes r) NameRange refl wrong (nothing_before loads sizes pes r 22 right (omega arith))

pub name_twice_is_first : {A : Type 0} (loads : List ℕ) (sizes : List (ℕ × ℕ)) (pes : ℕ) (r : Reordered A) → IsCertified loads pes r.least → 0 < pes
    → pes ≤ PES → length r.names ≡ pes → ((b : ℕ) → b < length r.names → slice_index r.names b < pes) → Repeats r.names
    → IsFirstReorderedFlaw (HasReorderedFlaw loads sizes pes r) NameTwice
name_twice_is_first loads sizes pes r least some few named below wrong =
    let right = right_to_names loads sizes pes r 23 (omega arith) least some few (λ _. named) (λ _. below) in
    first_by_number (HasReorderedFlaw loads sizes pes r) NameTwice refl wrong (nothing_before loads sizes pes r 23 right (omega arith))

right_to_cuts : {A : Type 0} (loads : List ℕ) (sizes : List (ℕ × ℕ)) (pes : ℕ) (r : Reordered A) (n : ℕ) → n ≤ 26 → IsCertified loads pes r.least
    → AreOrdered pes r.names → (24 < n → length r.cuts ≡ pes + 1) → (25 < n → IsDivision 0 (length loads) pes r.cuts)
    → AreRightBefore loads sizes pes r n
right_to_cuts loads sizes pes r n few least order cut divides =
    record {
      least = least;
      some_pe = λ _. order.some_pe;
      few_pes = λ _. order.few_pes;
      named = λ _. order.naming.counted;
      below = λ _ b inside. order.naming.below b (omega (arith, order.naming.counted));
      apart = λ _ i j before inside. order.naming.apart i j before (omega (arith, order.naming.counted));
      cut = cut;
      divides = divides;
      light = λ h. absurd (omega (arith, h));
      rows = λ h. absurd (omega (arith, h));
      started = λ h. absurd (omega (arith, h));
      risen = λ h. absurd (omega (arith, h));
    }

-- each flaw of the cuts
pub cut_count_is_first : {A : Type 0} (loads : List ℕ) (sizes : List (ℕ × ℕ)) (pes : ℕ) (r : Reordered A) → IsCertified loads pes r.least
    → AreOrdered pes r.names → length r.cuts ≢ pes + 1 → IsFirstReorderedFlaw (HasReorderedFlaw loads sizes pes r) CutCount
cut_count_is_first loads sizes pes r least order wrong =
    let right = right_to_cuts loads sizes pes r 24 (omega arith) least order (λ h. absurd (omega (arith, h))) (λ h. absurd (omega (arith, h))) in
    first_by_number (HasReorderedFlaw loads sizes pes r) CutCount refl wrong (nothing_before loads sizes pes r 24 right (omega arith))

pub no_division_is_first : {A : Type 0} (loads : List ℕ) (sizes : List (ℕ × ℕ)) (pes : ℕ) (r : Reordered A) → IsCertified loads pes r.least
    → AreOrdered pes r.names → length r.cuts ≡ pes + 1 → ¬ (IsDivision 0 (length loads) pes r.cuts)
    → IsFirstReorderedFlaw (HasReorderedFlaw loads sizes pes r) NoDivision
no_division_is_first loads sizes pes r least order cut wrong =
    let right = right_to_cuts loads sizes pes r 25 (omega arith) least order (λ _. cut) (λ h. absurd (omega (arith, h))) in
    first_by_number (HasReorderedFlaw loads sizes pes r) NoDivision refl wrong (nothing_before loads sizes pes r 25 right (omega arith))

pub heavy_is_first : {A : Type 0} (loads : List ℕ) (sizes : List (ℕ × ℕ)) (pes : ℕ) (r : Reordered A) (b : ℕ) → IsCertified loads pes r.least
    → AreOrdered pes r.names → IsDivision 0 (length loads) pes r.cuts → IsFirstHeavy loads pes (reordered_limit r) r.cuts b
    → IsFirstReorderedFlaw (HasReorderedFlaw loads sizes pes r) (Heavy b)
heavy_is_first {A} loads sizes pes r b least order divides first =
    let right = right_to_cuts loads sizes pes r 26 (omega arith) least order (λ _. divides.counted) (λ _. divides) in
    record {
      applies_itself = (first.inside, first.heavy);
      no_lower_number = nothing_before loads sizes pes r 26 right (omega arith);
      no_lower_place = earlier;
    }
  where
    earlier : (other : ReorderedFlaw) → reordered_flaw_number other ≡ 26 → ComesFirst (reordered_flaw_place other) (b, 0, 0) → ¬ (HasReorderedFlaw loads sizes pes r other)
    earlier (Heavy k) same (inl lower) flawed = absurd (omega (arith, flawed.1, first.earlier k lower))
    earlier (Heavy k) same (inr (tied, inl lower)) flawed = absurd (omega (arith, lower))
    earlier (Heavy k) same (inr (tied, inr (level, lower))) flawed = absurd (omega (arith, lower))
    earlier (Least flaw) same before flawed = absurd (omega (arith, same, division_flaw flaw))
    earlier _ same before flawed = absurd (omega (arith, same))

right_to_rows : {A : Type 0} (loads : List ℕ) (sizes : List (ℕ × ℕ)) (pes : ℕ) (r : Reordered A) (n : ℕ) → n ≤ 30 → IsCertified loads pes r.least
    → AreOrdered pes r.names → IsPlan loads pes (reordered_limit r) r.cuts r.names → (27 < n → AreRows pes r) → (28 < n → AreStarted r)
    → (29 < n → RisesUpTo (bounded_of loads sizes r) pes) → AreRightBefore loads sizes pes r n
right_to_rows loads sizes pes r n few least order plan rows started risen =
    record {
      least = least;
      some_pe = λ _. order.some_pe;
      few_pes = λ _. order.few_pes;
      named = λ _. order.naming.counted;
      below = λ _ b inside. order.naming.below b (omega (arith, order.naming.counted));
      apart = λ _ i j before inside. order.naming.apart i j before (omega (arith, order.naming.counted));
      cut = λ _. plan.divides.counted;
      divides = λ _. plan.divides;
      light = λ _. plan.within;
      rows = rows;
      started = started;
      risen = risen;
    }

-- each flaw of the bounds
pub row_count_is_first : {A : Type 0} (loads : List ℕ) (sizes : List (ℕ × ℕ)) (pes : ℕ) (r : Reordered A) → IsCertified loads pes r.least
    → AreOrdered pes r.names → IsPlan loads pes (reordered_limit r) r.cuts r.names → (length r.any ≢ pes + 1) ⊎ (length r.free ≢ pes + 1)
    → IsFirstReorderedFlaw (HasReorderedFlaw loads sizes pes r) RowCount
row_count_is_first loads sizes pes r least order plan wrong =
    let right = right_to_rows loads sizes pes r 27 (omega arith) least order plan (λ h. absurd (omega (arith, h)))
    (λ h. absurd (omega (arith, h))) (λ h. absurd (omega (arith, h))) in
    first_by_number (HasReorderedFlaw loads sizes pes r) RowCount refl wrong (nothing_before loads sizes pes r 27 right (omega arith))

pub start_is_first : {A : Type 0} (loads : List ℕ) (sizes : List (ℕ × ℕ)) (pes : ℕ) (r : Reordered A) → IsCertified loads pes r.least
    → AreOrdered pes r.names → IsPlan loads pes (reordered_limit r) r.cuts r.names → AreRows pes r
    → (bound_at r.any 0 0 ≢ 0) ⊎ (bound_at r.free 0 0 ≢ 0) → IsFirstReorderedFlaw (HasReorderedFlaw loads sizes pes r) Start
start_is_first loads sizes pes r least order plan rows wrong =
    let right = right_to_rows loads sizes pes r 28 (omega arith) least order plan (λ _. rows) (λ h. absurd (omega (arith, h))) (λ h. absurd (omega (arith, h))) in
    first_by_number (HasReorderedFlaw loads sizes pes r) Start refl wrong (nothing_before loads sizes pes r 28 right (omega arith))

pub steep_is_first : {A : Type 0} (loads : List ℕ) (sizes : List (ℕ × ℕ)) (pes : ℕ) (r : Reordered A) (b y x : ℕ) → IsCertified loads pes r.least
    → AreOrdered pes r.names → IsPlan loads pes (reordered_limit r) r.cuts r.names → AreRows pes r → AreStarted r
    → IsFirstSteep (bounded_of loads sizes r) pes (b, y, x) → IsFirstReorderedFlaw (HasReorderedFlaw loads sizes pes r) (Steep b y x)
steep_is_first {A} loads sizes pes r b y x least order plan rows started first =
    let right = right_to_rows loads sizes pes r 29 (omega arith) least order plan (λ _. rows) (λ _. started) (λ h. absurd (omega (arith, h))) in
    record {
      applies_itself = (first.inside, first.first.first.steep);
      no_lower_number = nothing_before loads sizes pes r 29 right (omega arith);
      no_lower_place = earlier;
    }
  where
    earlier : (other : ReorderedFlaw) → reordered_flaw_number other ≡ 29 → ComesFirst (reordered_flaw_place other) (b, y, x) → ¬ (HasReorderedFlaw loads sizes pes r other)
    earlier (Steep k from to) same (inl lower) (inside, flawed) =
        flawed.steep (first.earlier k lower from (omega (arith, flawed.onward, flawed.inside)) to flawed.onward
        (omega (arith, flawed.inside)) flawed.inside flawed.light flawed.corner)
    earlier (Steep k from to) same (inr (tied, inl lower)) (inside, flawed) =
        flawed.steep (subst (λ c. RisesBelow (claim_at (bounded_of loads sizes r) c) y) (sym tied) first.first.earlier from lower to
        flawed.onward (omega (arith, flawed.inside)) flawed.inside flawed.light flawed.corner)
    earlier (Steep k from to) same (inr (tied, inr (level, lower))) (inside, flawed) =
        flawed.steep (subst (λ c. RisesFrom (claim_at (bounded_of loads sizes r) c) from x) (sym tied)
        (subst (λ z. RisesFrom (claim_at (bounded_of loads sizes r) b) z x) (sym level) first.first.first.earlier) to flawed.onward
        lower flawed.inside flawed.light flawed.corner)
    earlier (Least flaw) same before flawed = absurd (omega (arith, same, division_flaw flaw))
    earlier _ same before flawed = absurd (omega (arith, same))

pub low_is_first : {A : Type 0} (loads : List ℕ) (sizes : List (ℕ × ℕ)) (pes : ℕ) (r : Reordered A) → IsCertified loads pes r.least
    → AreOrdered pes r.names → IsPlan loads pes (reordered_limit r) r.cuts r.names → AreRows pes r → AreStarted r
    → RisesUpTo (bounded_of loads sizes r) pes → bound_at r.any pes (length loads) < bytes_moved sizes r.cuts r.names
    → IsFirstReorderedFlaw (HasReorderedFlaw loads sizes pes r) Low
low_is_first loads sizes pes r least order plan rows started risen wrong =
    let right = right_to_rows loads sizes pes r 30 (omega arith) least order plan (λ _. rows) (λ _. started) (λ _. risen) in
    first_by_number (HasReorderedFlaw loads sizes pes r) Low refl wrong (nothing_before loads sizes pes r 30 right (omega arith))

-- a reordered division that is right has no flaw
pub right_is_flawless : {A : Type 0} (loads : List ℕ) (sizes : List (ℕ × ℕ)) (pes : ℕ) (r : Reordered A) → IsReordered loads sizes pes r
    → (flaw : ReorderedFlaw) → ¬ (HasReorderedFlaw loads sizes pes r flaw)
right_is_flawless {A} loads sizes pes r right flaw =
    none flaw
  where
    order : AreOrdered pes r.names
    order = record { some_pe = right.some_pe; few_pes = right.few_pes; naming = right.plan.naming }

    before : AreRightBefore loads sizes pes r 30
    before =
        right_to_rows loads sizes pes r 30 (omega arith) right.least order right.plan
        (λ _. record { any = right.any_counted; free = right.free_counted })
        (λ _. record { any = right.bounds.any_starts; free = right.bounds.free_starts })
        (λ _ b inside y _ x onward _ within light _. right.bounds.rises b inside y x onward within light)

    none : (flaw : ReorderedFlaw) → ¬ (HasReorderedFlaw loads sizes pes r flaw)
    none Low low = absurd (omega (arith, low, right.bounds.ends))
    none (Least flaw) flawed = nothing_before loads sizes pes r 30 before (omega arith) (Least flaw) (omega (arith, division_flaw flaw)) flawed
    none PeCount flawed = nothing_before loads sizes pes r 30 before (omega arith) PeCount (omega arith) flawed
    none NameCount flawed = nothing_before loads sizes pes r 30 before (omega arith) NameCount (omega arith) flawed
    none NameRange flawed = nothing_before loads sizes pes r 30 before (omega arith) NameRange (omega arith) flawed
    none NameTwice flawed = nothing_before loads sizes pes r 30 before (omega arith) NameTwice (omega arith) flawed
    none CutCount flawed = nothing_before loads sizes pes r 30 before (omega arith) CutCount (omega arith) flawed
    none NoDivision flawed = nothing_before loads sizes pes r 30 before (omega arith) NoDivision (omega arith) flawed
    none (Heavy b) flawed = nothing_before loads sizes pes r 30 before (omega arith) (Heavy b) (omega arith) flawed
    none RowCount flawed = nothing_before loads sizes pes r 30 before (omega arith) RowCount (omega arith) flawed
    none Start flawed = nothing_before loads sizes pes r 30 before (omega arith) Start (omega arith) flawed
    none (Steep b y x) flawed = nothing_before loads sizes pes r 30 before (omega arith) (Steep b y x) (omega arith) flawed
