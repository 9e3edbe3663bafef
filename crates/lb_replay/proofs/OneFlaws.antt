-- A decision has at most one first flaw, and a right one has none.
use Rattle.std.proofs.Common.{◌≡◌, ℕ, inl, inr, List, Err, refl, sym, ap, ◌∙◌}
use Rattle.std.specs.Prelude.{◌==◌, if◌then◌else◌}
use Rattle.std.proofs.lemmas.Bool.{cases_order}
use Rattle.lb_certificates.proofs.FirstNamingFlaws.{ok_where_named}
use Rattle.lb_certificates.proofs.NoFlaws.{ok_where_certified}
use Rattle.lb_certificates.specs.Certificate.{IsCertified}
use Rattle.lb_certificates.specs.Flaws.{IsBefore, IsFirst, flaw_number, flaw_place}
use Rattle.lb_certificates.specs.declared.flaw.Flaw.{Flaw}
use Rattle.lb_certificates.specs.declared.flaw.Flaw.TheVariants.{CutCount, CutStart, CutOrder, CutEnd, Heavy, FenceCount, FenceStart, FenceOrder, FenceEnd, FenceLight, ZeroFloor, NameCount, NameRange, NameTwice, PriceCount, PriceHigh, PriceGap, MovedWrong, MovesWrong}
use Rattle.lb_strategy.specs.Decisions.{IsDivisionFlaw, IsFirstFlaw, IsNamedRight, IsNamingFlaw, IsRight}
use Rattle.lb_strategy.specs.declared.decision.Decision.{Decision}

-- the flaw of a number and a place
flaw_at : ℕ → ℕ × ℕ → Flaw
flaw_at n place =
    if n == 1 then CutCount
    else if n == 2 then CutStart
    else if n == 3 then CutOrder
    else if n == 4 then CutEnd
    else if n == 5 then Heavy place.0
    else if n == 6 then FenceCount
    else if n == 7 then FenceStart
    else if n == 8 then FenceOrder
    else if n == 9 then FenceEnd
    else if n == 10 then FenceLight place.0
    else if n == 11 then ZeroFloor
    else if n == 12 then NameCount
    else if n == 13 then NameRange
    else if n == 14 then NameTwice
    else if n == 15 then PriceCount
    else if n == 16 then PriceHigh place.0 place.1
    else if n == 17 then PriceGap
    else if n == 18 then MovedWrong
    else MovesWrong

found_again : (flaw : Flaw) → flaw_at (flaw_number flaw) (flaw_place flaw) ≡ flaw
unfolding flaw_at
found_again CutCount = refl
found_again CutStart = refl
found_again CutOrder = refl
found_again CutEnd = refl
found_again (Heavy b) = refl
found_again FenceCount = refl
found_again FenceStart = refl
found_again FenceOrder = refl
found_again FenceEnd = refl
found_again (FenceLight i) = refl
found_again ZeroFloor = refl
found_again NameCount = refl
found_again NameRange = refl
found_again NameTwice = refl
found_again PriceCount = refl
found_again (PriceHigh b p) = refl
found_again PriceGap = refl
found_again MovedWrong = refl
found_again MovesWrong = refl

-- of two different places one comes before the other
same_place : (one other : ℕ × ℕ) → (IsBefore one other → ⊥) → (IsBefore other one → ⊥) → one ≡ other
same_place (a, b) (c, d) not_before not_after =
    elim (cases_order a c) [
      | inl same ↦ elim (cases_order b d) [
        | inl also ↦ ap (λ n. (n, b)) same ∙ ap (λ n. (c, n)) also
        | inr (inl less) ↦ absurd (not_before (inr (same, less)))
        | inr (inr more) ↦ absurd (not_after (inr (sym same, more)))
      ]
      | inr (inl less) ↦ absurd (not_before (inl less))
      | inr (inr more) ↦ absurd (not_after (inl more))
    ]

-- there is one first flaw
first_once : (applies : Flaw → Type 0) (one other : Flaw) → IsFirst applies one → IsFirst applies other → one ≡ other
first_once applies one other this that =
    elim (cases_order (flaw_number one) (flaw_number other)) [
      | inl same ↦
          let place : flaw_place one ≡ flaw_place other = same_place (flaw_place one) (flaw_place other)
          (λ before. that.no_lower_place one same before this.applies_itself) (λ before. this.no_lower_place other (sym same) before that.applies_itself) in
          sym (found_again one) ∙ ap (λ n. flaw_at n (flaw_place one)) same ∙ ap (flaw_at (flaw_number other)) place ∙ found_again other
      | inr (inl less) ↦ absurd (that.no_lower_number one less this.applies_itself)
      | inr (inr more) ↦ absurd (this.no_lower_number other more that.applies_itself)
    ]

module _ {A : Type 0} (loads : List ℕ) (sizes : List (ℕ × ℕ)) (blocks : ℕ) (d : Decision A) where
  -- a certified division has no flaw, and neither have names and prices that are right
  division_flawless : (flaw : Flaw) → IsCertified loads blocks d.division → IsDivisionFlaw loads blocks d flaw → ⊥
  division_flawless flaw certified first =
      let accepted = ok_where_certified {T = Unit {0}} loads blocks d.division (Err flaw) first certified in
      cc

  naming_flawless : (flaw : Flaw) → IsNamedRight sizes d → IsNamingFlaw loads sizes blocks d flaw → ⊥
  naming_flawless flaw named first =
      let accepted = ok_where_named {T = Unit {0}} sizes d.division.cuts d.naming d.prices.u d.prices.v (Err flaw) first.1 named in
      cc

  -- a decision that is right has no flaw
  pub right_flawless : (flaw : Flaw) → IsRight loads sizes blocks d → IsFirstFlaw loads sizes blocks d flaw → ⊥
  right_flawless flaw right (inl first) = division_flawless flaw right.division first
  right_flawless flaw right (inr (inl first)) = naming_flawless flaw right.named first
  right_flawless flaw right (inr (inr (inl moved))) = moved.3 right.moved
  right_flawless flaw right (inr (inr (inr moves))) = moves.4 right.moves

  -- a decision has one first flaw
  pub one_flaw : (one other : Flaw) → IsFirstFlaw loads sizes blocks d one → IsFirstFlaw loads sizes blocks d other → one ≡ other
  one_flaw one other (inl this) (inl that) = first_once _ one other this that
  one_flaw one other (inl this) (inr (inl that)) = absurd (division_flawless one that.0 this)
  one_flaw one other (inl this) (inr (inr (inl that))) = absurd (division_flawless one that.0 this)
  one_flaw one other (inl this) (inr (inr (inr that))) = absurd (division_flawless one that.0 this)
  one_flaw one other (inr (inl this)) (inl that) = absurd (division_flawless other this.0 that)
  one_flaw one other (inr (inl this)) (inr (inl that)) = first_once _ one other this.1 that.1
  one_flaw one other (inr (inl this)) (inr (inr (inl that))) = absurd (naming_flawless one that.1 this)
  one_flaw one other (inr (inl this)) (inr (inr (inr that))) = absurd (naming_flawless one that.1 this)
  one_flaw one other (inr (inr (inl this))) (inl that) = absurd (division_flawless other this.0 that)
  one_flaw one other (inr (inr (inl this))) (inr (inl that)) = absurd (naming_flawless other this.1 that)
  one_flaw one other (inr (inr (inl this))) (inr (inr (inl that))) = this.2 ∙ sym that.2
  one_flaw one other (inr (inr (inl this))) (inr (inr (inr that))) = absurd (this.3 that.3)
  one_flaw one other (inr (inr (inr this))) (inl that) = absurd (division_flawless other this.0 that)
  one_flaw one other (inr (inr (inr this))) (inr (inl that)) = absurd (naming_flawless other this.1 that)
  one_flaw one other (inr (inr (inr this))) (inr (inr (inl that))) = absurd (that.3 this.3)
  one_flaw one other (inr (inr (inr this))) (inr (inr (inr that))) = this.2 ∙ sym that.2
