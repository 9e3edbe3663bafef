-- The first flaw of a claim, from what the checkers of divisions and namings answer.
use Rattle.std.proofs.Common.{◌≡◌, ℕ, ◌≤◌, ℤ, List, inl, inr, arith, subst}
use Rattle.lb_certificates.specs.Certificate.{IsCertified}
use Rattle.lb_certificates.specs.Flaws.{HasFlaw, HasNamingFlawWithin, IsFirst}
use Rattle.lb_certificates.specs.Naming.{blocks_between}
use Rattle.lb_certificates.specs.declared.division.Division.{Division}
use Rattle.lb_certificates.specs.declared.flaw.Flaw.{Flaw}
use Rattle.lb_certificates.specs.declared.flaw.Flaw.TheVariants.{CutCount}
use Rattle.lb_lists.proofs.Claims.{certified_claimed, first_claimed}
use Rattle.lb_lists.specs.Claims.{claimed_division, division_of, Claimed, IsFirstFlaw}
use Rattle.lb_lists.specs.declared.limits.TheConstants.RunLimits.{PES}
use Rattle.lb_lists.specs.Runs.{sizes_of, Listed}

-- the loads and sizes of a run, and the parts of a claim on it
pub record ArePartsOf {A : Type 0} (run : Listed) (claim : Claimed) (loads : List ℕ) (sizes : List (ℕ × ℕ)) (d : Division A) (names : List ℕ) (u v : List ℤ) : Type 0 where
  pub loads_are : loads ≡ run.loads
  pub sizes_are : sizes ≡ sizes_of run
  pub division_is : d ≡ division_of claim.bottleneck claim.cuts claim.stops
  pub names_are : names ≡ claim.names
  pub block_prices_are : u ≡ claim.block_prices
  pub pe_prices_are : v ≡ claim.pe_prices

-- what holds of the parts holds of the claim
of_division : {A : Type 0} (run : Listed) (claim : Claimed) (loads : List ℕ) (sizes : List (ℕ × ℕ)) (d : Division A) (names : List ℕ) (u v : List ℤ)
    → (P : List ℕ → Division A → Type 0) → ArePartsOf run claim loads sizes d names u v → P loads d
    → P run.loads (division_of claim.bottleneck claim.cuts claim.stops)
of_division run claim loads sizes d names u v P parts holds =
    subst (P run.loads) parts.division_is (subst (λ l. P l d) parts.loads_are holds)

of_naming : {A : Type 0} (run : Listed) (claim : Claimed) (loads : List ℕ) (sizes : List (ℕ × ℕ)) (d : Division A) (names : List ℕ) (u v : List ℤ)
    → (P : List (ℕ × ℕ) → List ℕ → List ℕ → List ℤ → List ℤ → Type 0) → ArePartsOf run claim loads sizes d names u v → P sizes d.cuts names u v
    → P (sizes_of run) claim.cuts claim.names claim.block_prices claim.pe_prices
of_naming run claim loads sizes d names u v P parts holds =
    let with_sizes = subst (λ s. P s d.cuts names u v) parts.sizes_are holds in
    let with_cuts = subst (λ (e : Division _). P (sizes_of run) e.cuts names u v) parts.division_is with_sizes in
    let with_names = subst (λ n. P (sizes_of run) claim.cuts n u v) parts.names_are with_cuts in
    let with_blocks = subst (λ w. P (sizes_of run) claim.cuts claim.names w v) parts.block_prices_are with_names in
    subst (P (sizes_of run) claim.cuts claim.names claim.block_prices) parts.pe_prices_are with_blocks

certified : {A : Type 0} (run : Listed) (pes : ℕ) (claim : Claimed) (loads : List ℕ) (sizes : List (ℕ × ℕ)) (d : Division A) (names : List ℕ) (u v : List ℤ)
    → ArePartsOf run claim loads sizes d names u v → IsCertified loads pes d → IsCertified run.loads pes (claimed_division claim)
certified {A = A} run pes claim loads sizes d names u v parts holds =
    certified_claimed A run.loads pes claim.bottleneck claim.cuts claim.stops (of_division run claim loads sizes d names u v (λ l e. IsCertified l pes e) parts holds)

-- blocks within two bounds have the same flaws by both
same_flaws : (most more : ℕ) (sizes : List (ℕ × ℕ)) (cuts names : List ℕ) (u v : List ℤ) → blocks_between cuts ≤ most → (flaw : Flaw)
    → HasNamingFlawWithin most sizes cuts names u v flaw → HasNamingFlawWithin more sizes cuts names u v flaw
same_flaws most more sizes cuts names u v few CutCount (inl none) = inl none
same_flaws most more sizes cuts names u v few CutCount (inr many) = absurd (omega (arith, few, many))
same_flaws most more sizes cuts names u v few _ flawed = flawed

first_in_run : (most : ℕ) (sizes : List (ℕ × ℕ)) (cuts names : List ℕ) (u v : List ℤ) (flaw : Flaw) → blocks_between cuts ≤ most → most ≤ PES
    → IsFirst (HasNamingFlawWithin most sizes cuts names u v) flaw → IsFirst (HasNamingFlawWithin PES sizes cuts names u v) flaw
first_in_run most sizes cuts names u v flaw few wider first =
    let back = same_flaws PES most sizes cuts names u v (omega (arith, few, wider)) in
    record {
      applies_itself = same_flaws most PES sizes cuts names u v few flaw first.applies_itself;
      no_lower_number = λ other lower flawed. first.no_lower_number other lower (back other flawed);
      no_lower_place = λ other same before flawed. first.no_lower_place other same before (back other flawed);
    }

pub in_division : {A : Type 0} (run : Listed) (pes : ℕ) (claim : Claimed) (loads : List ℕ) (sizes : List (ℕ × ℕ)) (d : Division A) (names : List ℕ) (u v : List ℤ) (flaw : Flaw)
    → ArePartsOf run claim loads sizes d names u v → IsFirst (HasFlaw loads pes d) flaw → IsFirstFlaw run pes claim flaw
in_division {A = A} run pes claim loads sizes d names u v flaw parts first =
    inl (first_claimed A run.loads pes claim.bottleneck claim.cuts claim.stops flaw
    (of_division run claim loads sizes d names u v (λ l e. IsFirst (HasFlaw l pes e) flaw) parts first))

pub in_naming : {A : Type 0} (run : Listed) (pes : ℕ) (claim : Claimed) (loads : List ℕ) (sizes : List (ℕ × ℕ)) (d : Division A)
    (names : List ℕ) (u v : List ℤ) (most : ℕ) (flaw : Flaw)
    → ArePartsOf run claim loads sizes d names u v → IsCertified loads pes d → pes ≤ most → most ≤ PES
    → IsFirst (HasNamingFlawWithin most sizes d.cuts names u v) flaw → IsFirstFlaw run pes claim flaw
in_naming run pes claim loads sizes d names u v most flaw parts holds few wider first =
    let in_run = first_in_run most sizes d.cuts names u v flaw (omega (arith, holds.divides.counted, few)) wider first in
    inr (inl (
      certified run pes claim loads sizes d names u v parts holds,
      of_naming run claim loads sizes d names u v (λ s c n x y. IsFirst (HasNamingFlawWithin PES s c n x y) flaw) parts in_run,
    ))
