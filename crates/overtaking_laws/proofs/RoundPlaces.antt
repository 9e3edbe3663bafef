-- Where the elements are to be after each round: how often that changes, and that what is decided stays.
use Rattle.std.proofs.Common.{◌≡◌, ◌≢◌, ℕ, zero, suc, ◌+◌, ◌<◌, ◌≤◌, List, length, Option, Some, None, Bool, true, false, arith, refl, ◌∙◌, ap}
use Rattle.std.specs.Prelude.{Result, nat_eq, nat_le, if◌then◌else◌, unwrap_or, slice_get}
use Rattle.std.proofs.lemmas.Bool.Decides.{nat_tests}
use Rattle.std.proofs.lemmas.Option.{slice_get_within}
use Rattle.sync_board.specs.Boards.{BoardState, Kept, kept_of, place_in}
use Rattle.chares.specs.Steps.{Step}
use Rattle.pup_pack.specs.declared.error.PupError.{PupError}
use Rattle.rts_core.specs.declared.event.Event.{Event}
use Rattle.rts_core.specs.Events.{After, Happens}
use Rattle.rts_core.specs.Worlds.{WorldView}
use Rattle.rts_core.proofs.OpeningWeights.{get_there}
use Rattle.event_laws.proofs.KeptRounds.{event_keeps}
use Rattle.overtaking_laws.specs.StampedRuns.{place_after, moves_until}

-- ---- how often the place of an element changes

at_most_one : (c : Bool) → (if c then 0 else 1) ≤ 1
at_most_one true = omega arith
at_most_one false = omega arith

module _ {A : Type 0} (n pes : ℕ) (b : BoardState A) (e : ℕ) where
  abbrev place : ℕ → ℕ
  place r = place_after n pes b e r

  abbrev moves : ℕ → ℕ
  moves r = moves_until n pes b e r

  -- what one more round adds
  added : (r : ℕ) → moves (suc r) ≡ moves r + (if nat_eq (place r) (place (suc r)) then 0 else 1)
  added r = refl

  pub moves_grow : (r k : ℕ) → r ≤ k → moves r ≤ moves k
  moves_grow r zero le =
      let z : r ≡ 0 = omega (arith, le) in
      let same : moves r ≡ moves 0 = ap moves z in
      omega (arith, same)
  moves_grow r (suc k) le = by (nat_le r k) refl (λ before. moves_grow r k before)
    where
      by : (c : Bool) → nat_le r k ≡ c → (r ≤ k → moves r ≤ moves k) → moves r ≤ moves (suc k)
      by true t grow =
          let before : r ≤ k = grind (arith, nat_tests) in
          let m = grow before in
          let more = added k in
          omega (arith, m, more)
      by false t grow =
          let z : r ≡ suc k = grind (arith, nat_tests) in
          let same : moves r ≡ moves (suc k) = ap moves z in
          omega (arith, same)

  -- where the place is another after a later round, more rounds have moved the element
  pub moves_more : (r k : ℕ) → r ≤ k → place r ≢ place k → moves r + 1 ≤ moves k
  moves_more r zero le other = let z : r ≡ 0 = omega (arith, le) in absurd (other (ap place z))
  moves_more r (suc k) le other = by (nat_le r k) refl (λ before apart. moves_more r k before apart)
    where
      moved : r ≤ k → (c : Bool) → nat_eq (place k) (place (suc k)) ≡ c → (r ≤ k → place r ≢ place k → moves r + 1 ≤ moves k) → moves r + 1 ≤ moves (suc k)
      moved before true t earlier =
          let same : place k ≡ place (suc k) = grind (arith, nat_tests) in
          let m = earlier before (λ h. other (h ∙ same)) in
          let more = added k in
          omega (arith, m, more)
      moved before false t earlier =
          let m = moves_grow r k before in
          let one : ◌≡◌ {A = ℕ} (if nat_eq (place k) (place (suc k)) then 0 else 1) 1 = ap (λ (v : Bool). if v then 0 else 1) t in
          let more = added k in
          omega (arith, m, one, more)

      by : (c : Bool) → nat_le r k ≡ c → (r ≤ k → place r ≢ place k → moves r + 1 ≤ moves k) → moves r + 1 ≤ moves (suc k)
      by true t earlier = let before : r ≤ k = grind (arith, nat_tests) in moved before (nat_eq (place k) (place (suc k))) refl earlier
      by false t earlier = let z : r ≡ suc k = grind (arith, nat_tests) in absurd (other (ap place z))

  -- and no round moves it twice
  pub moves_few : (r : ℕ) → moves r ≤ r
  moves_few zero = omega arith
  moves_few (suc r) =
      let m = moves_few r in
      let one = at_most_one (nat_eq (place r) (place (suc r))) in
      let more = added r in
      omega (arith, m, one, more)

-- ---- the place in the decision of a round

pub placed_in : {A : Type 0} (n pes : ℕ) (b : BoardState A) (e round q : ℕ) → place_in b round e ≡ Some q → place_after n pes b e round ≡ q
placed_in n pes b e zero q h = cc
placed_in n pes b e (suc r) q h = ap (λ (o : Option ℕ). unwrap_or o (place_after n pes b e r)) h

-- ---- what is decided stays

-- a board that has decided no fewer rounds, and those in the same way
pub record IsLater {A : Type 0} (b b' : BoardState A) : Type 0 where
  pub longer : length b.rounds ≤ length b'.rounds
  pub same : (r e : ℕ) → r ≤ length b.rounds → place_in b' r e ≡ place_in b r e

module _ {A : Type 0} (n pes : ℕ) (b b' : BoardState A) (later : IsLater b b') where
  pub place_stays : (e r : ℕ) → r ≤ length b.rounds → place_after n pes b' e r ≡ place_after n pes b e r
  place_stays e zero le = refl
  place_stays e (suc r) le =
      ap (λ (o : Option ℕ). unwrap_or o (place_after n pes b' e r)) (later.same (suc r) e le)
      ∙ ap (λ (q : ℕ). unwrap_or (place_in b (suc r) e) q) (place_stays e r (omega (arith, le)))

  pub moves_stay : (e r : ℕ) → r ≤ length b.rounds → moves_until n pes b' e r ≡ moves_until n pes b e r
  moves_stay e zero le = refl
  moves_stay e (suc r) le =
      let before : r ≤ length b.rounds = omega (arith, le) in
      let m = moves_stay e r before in
      let a = added n pes b e r in
      let a' = added n pes b' e r in
      let c : ◌≡◌ {A = ℕ} (if nat_eq (place_after n pes b' e r) (place_after n pes b' e (suc r)) then 0 else 1)
      (if nat_eq (place_after n pes b e r) (place_after n pes b e (suc r)) then 0 else 1) =
      ap (λ (q : ℕ). if nat_eq q (place_after n pes b' e (suc r)) then 0 else 1) (place_stays e r before)
      ∙ ap (λ (q : ℕ). if nat_eq (place_after n pes b e r) q then 0 else 1) (place_stays e (suc r) le) in
      omega (arith, m, a, a', c)

-- what is kept of a round that is decided
kept_there : {A : Type 0} (rounds : List (Kept A)) (r : ℕ) → r < length rounds → (kept : Kept A) × (kept_of rounds (suc r) ≡ Some kept)
kept_there {A} rounds r lt = by (slice_get rounds r) refl
  where
    by : (o : Option (Kept A)) → slice_get rounds r ≡ o → (kept : Kept A) × (slice_get rounds r ≡ Some kept)
    by None h = absurd (get_there rounds r lt h)
    by (Some kept) h = (kept, h)

module _ {C A : Type 0} (step : Step C) (pack : C → List ℕ) (unpack : List ℕ → Result (C × ℕ) PupError) (w : WorldView C A) (event : Event) (next : After C A)
    (happens : Happens step pack unpack w event next) where
  same_place : (r e : ℕ) → r ≤ length w.board.rounds → place_in next.0.board r e ≡ place_in w.board r e
  same_place zero e le = refl
  same_place (suc r) e le =
      let k = kept_there w.board.rounds r (omega (arith, le)) in
      let now : kept_of next.0.board.rounds (suc r) ≡ Some k.0 = event_keeps step pack unpack w event next (suc r) k.0 happens k.1 in
      rw (now, k.1) refl

  as_long : (k : ℕ) → k ≡ length w.board.rounds → k ≤ length next.0.board.rounds
  as_long zero is = omega arith
  as_long (suc r) is =
      let k = kept_there w.board.rounds r (omega (arith, is)) in
      let now : slice_get next.0.board.rounds r ≡ Some k.0 = event_keeps step pack unpack w event next (suc r) k.0 happens k.1 in
      let inside = slice_get_within next.0.board.rounds r k.0 now in
      omega (arith, inside)

  pub event_later : IsLater w.board next.0.board
  event_later = record { longer = as_long (length w.board.rounds) refl; same = same_place }
