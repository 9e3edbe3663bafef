-- A claim whose lists were each cut off one entry past their proper length is right where the whole claim is, and has the same
-- first flaw where it is not.
use Rattle.std.proofs.Common.{◌≡◌, ◌≢◌, ◌⊎◌, ℕ, ℤ, ◌+◌, ◌<◌, ◌≤◌, inl, inr, List, [], ◌∷◌, Option, None, Some, length, take, arith, ap, refl, subst, sym, ◌∙◌}
use Rattle.std.proofs.lemmas.Bool.{cases_lt}
use Rattle.std.proofs.lemmas.List.{length-take, take_all}
use Rattle.std.specs.Prelude.{MatchOption}
use Rattle.lb_certificates.specs.Certificate.{HoldsFor, IsCertified, MatchFloor}
use Rattle.lb_certificates.specs.Flaws.{HasFlaw, HasNamingFlawWithin, IsFirst, flaw_number}
use Rattle.lb_certificates.specs.Naming.{blocks_between}
use Rattle.lb_certificates.specs.declared.flaw.Flaw.{Flaw}
use Rattle.lb_certificates.specs.declared.flaw.Flaw.TheVariants.{CutCount, CutStart, CutOrder, CutEnd, Heavy, FenceCount, NameCount, NameRange, NameTwice, PriceCount, PriceHigh, PriceGap}
use Rattle.lb_lists.specs.declared.limits.TheConstants.RunLimits.{PES}
use Rattle.lb_lists.specs.Claims.{claimed_division, division_of, floor_of, shortened, Claimed, IsFirstFlaw, IsNamedRight, IsRightClaim}
use Rattle.lb_lists.specs.Runs.{sizes_of, Listed}

-- Where two claims agree in all flaws up to a number, and both have one with that number, they have the same first flaw.
same_first : (these those : Flaw → Type 0) (shared : Flaw) → these shared
    → ((flaw : Flaw) → flaw_number flaw ≤ flaw_number shared → these flaw → those flaw)
    → ((flaw : Flaw) → flaw_number flaw ≤ flaw_number shared → those flaw → these flaw) → (flaw : Flaw) → IsFirst these flaw → IsFirst those flaw
same_first these those shared holds to back flaw first = elim (cases_lt (flaw_number shared) (flaw_number flaw)) [
  | inl later ↦ absurd (first.no_lower_number shared later holds)
  | inr within ↦ record {
    applies_itself = to flaw within first.applies_itself;
    no_lower_number = λ other lower found. first.no_lower_number other lower (back other (omega (arith, lower, within)) found);
    no_lower_place = λ other same before found. first.no_lower_place other same before (back other (omega (arith, same, within)) found);
  }
]

-- a list that was cut off past n entries is whole where no more than n are left; where it was longer, more than n are left
whole : {T : Type 0} (xs : List T) (n m : ℕ) → n < m → length (take m xs) ≤ n → take m xs ≡ xs
whole xs n m past short = take_all m xs (omega (arith, past, short, length-take m xs))

still_long : {T : Type 0} (xs : List T) (n m : ℕ) → n < m → n < length xs → length (take m xs) ≢ n
still_long xs n m past long same = absurd (omega (arith, past, long, same, length-take m xs))

-- the flaws of a division as plain lists
abbrev DivisionFlaw : List ℕ → ℕ → ℕ → List ℕ → List ℕ → Flaw → Type 0
DivisionFlaw loads pes bottleneck cuts stops = HasFlaw loads pes (division_of {A = Unit {0}} bottleneck cuts stops)

-- cuts that are too many, whatever they are
at_cut_count : (these : Flaw → Type 0) → these CutCount → (flaw : Flaw) → flaw_number flaw ≤ 1 → these flaw
at_cut_count these wrong CutCount few = wrong
at_cut_count these wrong _ few = absurd (omega (arith, few))

long_cuts : (loads : List ℕ) (pes bottleneck : ℕ) (cuts others stops : List ℕ) (flaw : Flaw) → length cuts ≢ pes + 1 → length others ≢ pes + 1
    → IsFirst (DivisionFlaw loads pes bottleneck cuts stops) flaw → IsFirst (DivisionFlaw loads pes bottleneck others stops) flaw
long_cuts loads pes bottleneck cuts others stops flaw wrong also first =
    same_first (DivisionFlaw loads pes bottleneck cuts stops) (DivisionFlaw loads pes bottleneck others stops) CutCount wrong
    (λ one few _. at_cut_count (DivisionFlaw loads pes bottleneck others stops) also one few)
    (λ one few _. at_cut_count (DivisionFlaw loads pes bottleneck cuts stops) wrong one few) flaw first

cuts_as_whole : (loads : List ℕ) (pes bottleneck : ℕ) (cuts stops : List ℕ) (flaw : Flaw)
    → IsFirst (DivisionFlaw loads pes bottleneck (take (pes + 2) cuts) stops) flaw → IsFirst (DivisionFlaw loads pes bottleneck cuts stops) flaw
cuts_as_whole loads pes bottleneck cuts stops flaw first = elim (cases_lt (pes + 1) (length cuts)) [
  | inl long ↦ long_cuts loads pes bottleneck (take (pes + 2) cuts) cuts stops flaw (still_long cuts (pes + 1) (pes + 2) (omega arith) long)
      (λ same. absurd (omega (arith, long, same))) first
  | inr short ↦ subst (λ c. IsFirst (DivisionFlaw loads pes bottleneck c stops) flaw) (take_all (pes + 2) cuts (omega (arith, short))) first
]

-- stops that are too many
wrong_fence : (stops : List ℕ) (n : ℕ) → 0 < length stops → length stops ≢ n → MatchFloor {A = Unit {0}} (floor_of stops) ⊥ (λ s. length s ≢ n)
wrong_fence [] n some wrong = absurd (omega (arith, some))
wrong_fence (stop ∷ stops) n some wrong = wrong

to_fence_count : (loads : List ℕ) (pes bottleneck : ℕ) (cuts stops others : List ℕ)
    → MatchFloor {A = Unit {0}} (floor_of others) ⊥ (λ s. length s ≢ pes + 1) → (flaw : Flaw) → flaw_number flaw ≤ 6
    → DivisionFlaw loads pes bottleneck cuts stops flaw → DivisionFlaw loads pes bottleneck cuts others flaw
to_fence_count loads pes bottleneck cuts stops others wrong CutCount few found = found
to_fence_count loads pes bottleneck cuts stops others wrong CutStart few found = found
to_fence_count loads pes bottleneck cuts stops others wrong CutOrder few found = found
to_fence_count loads pes bottleneck cuts stops others wrong CutEnd few found = found
to_fence_count loads pes bottleneck cuts stops others wrong (Heavy b) few found = found
to_fence_count loads pes bottleneck cuts stops others wrong FenceCount few found = wrong
to_fence_count loads pes bottleneck cuts stops others wrong _ few found = absurd (omega (arith, few))

stops_as_whole : (loads : List ℕ) (pes bottleneck : ℕ) (cuts stops : List ℕ) (flaw : Flaw)
    → IsFirst (DivisionFlaw loads pes bottleneck cuts (take (pes + 2) stops)) flaw → IsFirst (DivisionFlaw loads pes bottleneck cuts stops) flaw
stops_as_whole loads pes bottleneck cuts stops flaw first = elim (cases_lt (pes + 1) (length stops)) [
  | inl long ↦
      let short : List ℕ = take (pes + 2) stops in
      let wrong = wrong_fence short (pes + 1) (omega (arith, long, length-take (pes + 2) stops)) (still_long stops (pes + 1) (pes + 2) (omega arith) long) in
      let also = wrong_fence stops (pes + 1) (omega (arith, long)) (λ same. absurd (omega (arith, long, same))) in
      same_first (DivisionFlaw loads pes bottleneck cuts short) (DivisionFlaw loads pes bottleneck cuts stops) FenceCount wrong
      (to_fence_count loads pes bottleneck cuts short stops also) (to_fence_count loads pes bottleneck cuts stops short wrong) flaw first
  | inr short ↦ subst (λ s. IsFirst (DivisionFlaw loads pes bottleneck cuts s) flaw) (take_all (pes + 2) stops (omega (arith, short))) first
]

-- the flaws of a naming of the blocks of a run
abbrev NamesFlaw : List (ℕ × ℕ) → List ℕ → List ℕ → List ℤ → List ℤ → Flaw → Type 0
NamesFlaw sizes cuts names u v = HasNamingFlawWithin PES sizes cuts names u v

-- names that are too many
to_name_count : (sizes : List (ℕ × ℕ)) (cuts names others : List ℕ) (u v : List ℤ) → length others ≢ blocks_between cuts → (flaw : Flaw)
    → flaw_number flaw ≤ 12 → NamesFlaw sizes cuts names u v flaw → NamesFlaw sizes cuts others u v flaw
to_name_count sizes cuts names others u v wrong NameCount few found = wrong
to_name_count sizes cuts names others u v wrong NameRange few found = absurd (omega (arith, few))
to_name_count sizes cuts names others u v wrong NameTwice few found = absurd (omega (arith, few))
to_name_count sizes cuts names others u v wrong PriceGap few found = absurd (omega (arith, few))
to_name_count sizes cuts names others u v wrong _ few found = found

names_as_whole : (sizes : List (ℕ × ℕ)) (cuts names : List ℕ) (u v : List ℤ) (pes : ℕ) (flaw : Flaw) → blocks_between cuts ≡ pes
    → IsFirst (NamesFlaw sizes cuts (take (pes + 1) names) u v) flaw → IsFirst (NamesFlaw sizes cuts names u v) flaw
names_as_whole sizes cuts names u v pes flaw blocks first = elim (cases_lt pes (length names)) [
  | inl long ↦
      let short : List ℕ = take (pes + 1) names in
      let wrong : length short ≢ blocks_between cuts = λ same. still_long names pes (pes + 1) (omega arith) long (same ∙ blocks) in
      let also : length names ≢ blocks_between cuts = λ same. absurd (omega (arith, long, same, blocks)) in
      same_first (NamesFlaw sizes cuts short u v) (NamesFlaw sizes cuts names u v) NameCount wrong
      (to_name_count sizes cuts short names u v also) (to_name_count sizes cuts names short u v wrong) flaw first
  | inr short ↦ subst (λ n. IsFirst (NamesFlaw sizes cuts n u v) flaw) (take_all (pes + 1) names (omega (arith, short))) first
]

-- prices of blocks or of PEs that are too many
abbrev AreMiscounted : ℕ → List ℤ → List ℤ → Type 0
AreMiscounted n u v = (length u ≢ n) ⊎ (length v ≢ n)

to_price_count : (sizes : List (ℕ × ℕ)) (cuts names : List ℕ) (u v w x : List ℤ) → AreMiscounted (blocks_between cuts) w x → (flaw : Flaw)
    → flaw_number flaw ≤ 15 → NamesFlaw sizes cuts names u v flaw → NamesFlaw sizes cuts names w x flaw
to_price_count sizes cuts names u v w x wrong PriceCount few found = wrong
to_price_count sizes cuts names u v w x wrong (PriceHigh b p) few found = absurd (omega (arith, few))
to_price_count sizes cuts names u v w x wrong PriceGap few found = absurd (omega (arith, few))
to_price_count sizes cuts names u v w x wrong _ few found = found

miscounted : (sizes : List (ℕ × ℕ)) (cuts names : List ℕ) (u v w x : List ℤ) (flaw : Flaw) → AreMiscounted (blocks_between cuts) u v
    → AreMiscounted (blocks_between cuts) w x → IsFirst (NamesFlaw sizes cuts names u v) flaw → IsFirst (NamesFlaw sizes cuts names w x) flaw
miscounted sizes cuts names u v w x flaw wrong also first =
    same_first (NamesFlaw sizes cuts names u v) (NamesFlaw sizes cuts names w x) PriceCount wrong
    (to_price_count sizes cuts names u v w x also) (to_price_count sizes cuts names w x u v wrong) flaw first

prices_as_whole : (sizes : List (ℕ × ℕ)) (cuts names : List ℕ) (u v : List ℤ) (pes : ℕ) (flaw : Flaw) → blocks_between cuts ≡ pes
    → IsFirst (NamesFlaw sizes cuts names (take (pes + 1) u) (take (pes + 1) v)) flaw → IsFirst (NamesFlaw sizes cuts names u v) flaw
prices_as_whole sizes cuts names u v pes flaw blocks first = elim (cases_lt pes (length u)) [
  | inl long ↦
      let wrong = still_long u pes (pes + 1) (omega arith) long in
      miscounted sizes cuts names (take (pes + 1) u) (take (pes + 1) v) u v flaw (inl (λ same. wrong (same ∙ blocks)))
      (inl (λ same. absurd (omega (arith, long, same, blocks)))) first
  | inr short_u ↦ elim (cases_lt pes (length v)) [
    | inl long ↦
        let wrong = still_long v pes (pes + 1) (omega arith) long in
        miscounted sizes cuts names (take (pes + 1) u) (take (pes + 1) v) u v flaw (inr (λ same. wrong (same ∙ blocks)))
        (inr (λ same. absurd (omega (arith, long, same, blocks)))) first
    | inr short_v ↦
        let with_u = subst (λ w. IsFirst (NamesFlaw sizes cuts names w (take (pes + 1) v)) flaw) (take_all (pes + 1) u (omega (arith, short_u))) first in
        subst (λ w. IsFirst (NamesFlaw sizes cuts names u w) flaw) (take_all (pes + 1) v (omega (arith, short_v))) with_u
  ]
]

-- a floor that holds has at most pes + 1 stops
few_stops : (loads : List ℕ) (pes bottleneck : ℕ) (stops : List ℕ) → HoldsFor {A = Unit {0}} loads pes bottleneck (floor_of stops) → length stops ≤ pes + 1
few_stops loads pes bottleneck [] holds = omega arith
few_stops loads pes bottleneck (stop ∷ stops) holds = omega (arith, holds.counted)

-- cuts, stops, names and prices that are right were not cut off
cuts_whole : (loads : List ℕ) (pes : ℕ) (claim : Claimed) → IsCertified loads pes (claimed_division (shortened pes claim)) → take (pes + 2) claim.cuts ≡ claim.cuts
cuts_whole loads pes claim certified = whole claim.cuts (pes + 1) (pes + 2) (omega arith) (omega (arith, certified.divides.counted))

stops_whole : (loads : List ℕ) (pes : ℕ) (claim : Claimed) → IsCertified loads pes (claimed_division (shortened pes claim)) → take (pes + 2) claim.stops ≡ claim.stops
stops_whole loads pes claim certified = whole claim.stops (pes + 1) (pes + 2) (omega arith)
    (few_stops loads pes claim.bottleneck (take (pes + 2) claim.stops) certified.floor_holds)

of_blocks : (loads : List ℕ) (pes : ℕ) (claim : Claimed) → IsCertified loads pes (claimed_division (shortened pes claim)) → blocks_between (take (pes + 2) claim.cuts) ≡ pes
of_blocks loads pes claim certified = omega (arith, certified.divides.counted)

certified_whole : (run : Listed) (pes : ℕ) (claim : Claimed) → IsCertified run.loads pes (claimed_division (shortened pes claim))
    → IsCertified run.loads pes (claimed_division claim)
certified_whole run pes claim certified =
    let with_cuts = subst (λ c. IsCertified run.loads pes (division_of {A = Unit {0}} claim.bottleneck c (take (pes + 2) claim.stops)))
    (cuts_whole run.loads pes claim certified) certified in
    subst (λ s. IsCertified run.loads pes (division_of {A = Unit {0}} claim.bottleneck claim.cuts s)) (stops_whole run.loads pes claim certified) with_cuts

put_together : (claim : Claimed) (cuts stops names : List ℕ) (u v : List ℤ) → cuts ≡ claim.cuts → stops ≡ claim.stops → names ≡ claim.names
    → u ≡ claim.block_prices → v ≡ claim.pe_prices
    → record {
      bottleneck = claim.bottleneck;
      moved = claim.moved;
      new_places = claim.new_places;
      cuts = cuts;
      stops = stops;
      names = names;
      block_prices = u;
      pe_prices = v;
    } ≡ claim
put_together claim cuts stops names u v same_cuts same_stops same_names same_u same_v = rw (same_cuts, same_stops, same_names, same_u, same_v) refl

same_claim : (run : Listed) (pes : ℕ) (claim : Claimed) → IsCertified run.loads pes (claimed_division (shortened pes claim))
    → IsNamedRight run (shortened pes claim) → shortened pes claim ≡ claim
same_claim run pes claim certified named =
    let blocks = of_blocks run.loads pes claim certified in
    let names : take (pes + 1) claim.names ≡ claim.names = whole claim.names pes (pes + 1) (omega arith) (omega (arith, named.naming.counted, blocks)) in
    let u : take (pes + 1) claim.block_prices ≡ claim.block_prices = whole claim.block_prices pes (pes + 1) (omega arith) (omega (arith, named.proved.block_prices, blocks)) in
    let v : take (pes + 1) claim.pe_prices ≡ claim.pe_prices = whole claim.pe_prices pes (pes + 1) (omega arith) (omega (arith, named.proved.pe_prices, blocks)) in
    put_together claim (take (pes + 2) claim.cuts) (take (pes + 2) claim.stops) (take (pes + 1) claim.names)
    (take (pes + 1) claim.block_prices) (take (pes + 1) claim.pe_prices) (cuts_whole run.loads pes claim certified)
    (stops_whole run.loads pes claim certified) names u v

naming_as_whole : (run : Listed) (pes : ℕ) (claim : Claimed) (flaw : Flaw) → IsCertified run.loads pes (claimed_division (shortened pes claim))
    → IsFirst (NamesFlaw (sizes_of run) (take (pes + 2) claim.cuts) (take (pes + 1) claim.names) (take (pes + 1) claim.block_prices) (take (pes + 1) claim.pe_prices)) flaw
    → IsFirst (NamesFlaw (sizes_of run) claim.cuts claim.names claim.block_prices claim.pe_prices) flaw
naming_as_whole run pes claim flaw certified first =
    let cuts = cuts_whole run.loads pes claim certified in
    let blocks : blocks_between claim.cuts ≡ pes = ap blocks_between (sym cuts) ∙ of_blocks run.loads pes claim certified in
    let with_cuts = subst (λ c. IsFirst (NamesFlaw (sizes_of run) c (take (pes + 1) claim.names) (take (pes + 1) claim.block_prices)
    (take (pes + 1) claim.pe_prices)) flaw) cuts first in
    prices_as_whole (sizes_of run) claim.cuts claim.names claim.block_prices claim.pe_prices pes flaw blocks
    (names_as_whole (sizes_of run) claim.cuts claim.names (take (pes + 1) claim.block_prices) (take (pes + 1) claim.pe_prices) pes flaw blocks with_cuts)

pub whole_claim : (run : Listed) (pes : ℕ) (claim : Claimed) (found : Option Flaw)
    → MatchOption found (IsRightClaim run pes (shortened pes claim)) (IsFirstFlaw run pes (shortened pes claim))
    → MatchOption found (IsRightClaim run pes claim) (IsFirstFlaw run pes claim)
whole_claim run pes claim None right =
    subst (IsRightClaim run pes) (same_claim run pes claim right.division right.named) right
whole_claim run pes claim (Some flaw) (inl first) =
    inl (stops_as_whole run.loads pes claim.bottleneck claim.cuts claim.stops flaw
    (cuts_as_whole run.loads pes claim.bottleneck claim.cuts (take (pes + 2) claim.stops) flaw first))
whole_claim run pes claim (Some flaw) (inr (inl naming)) =
    inr (inl (certified_whole run pes claim naming.0, naming_as_whole run pes claim flaw naming.0 naming.1))
whole_claim run pes claim (Some flaw) (inr (inr (inl moved))) =
    subst (λ c. IsFirstFlaw run pes c flaw) (same_claim run pes claim moved.0 moved.1) (inr (inr (inl moved)))
whole_claim run pes claim (Some flaw) (inr (inr (inr placed))) =
    subst (λ c. IsFirstFlaw run pes c flaw) (same_claim run pes claim placed.0 placed.1) (inr (inr (inr placed)))
