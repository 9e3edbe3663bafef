-- The order of the rounds, read from the front: which stop may come next.
use Rattle.std.proofs.Common.{◌≡◌, ℕ, zero, suc, ◌+◌, List, [], ◌∷◌, ◌++◌, Bool, true, false, ◌⊎◌, inl, inr, append_assoc, arith, refl}
use Rattle.std.specs.Prelude.{if◌then◌else◌}
use Rattle.chares.specs.declared.progress.Progress.{Progress}
use Rattle.chares.specs.Orders.{Stop, AtSync, Resumes, stops_until, stops_by}

-- stops in turn, of an element that has started or not, was resumed last for a round, and waits or not
abbrev pub InTurn : Bool → ℕ → Bool → List Stop → Type 0
InTurn started round synced [] = Unit {0}
InTurn started round synced (AtSync r ∷ stops) = (started ≡ true) × (synced ≡ false) × (r ≡ round + 1) × InTurn started round true stops
InTurn started round synced (Resumes r ∷ stops) = (((started ≡ false) × (r ≡ 0)) ⊎ ((synced ≡ true) × (r ≡ round + 1))) × InTurn true r false stops

-- stops in turn, of an element with this progress
abbrev pub Follow : Progress → List Stop → Type 0
Follow p stops = InTurn p.started p.round p.synced stops

-- stops are in turn up to a resumption, where those that follow are
until_turn : (round : ℕ) (stops : List Stop) → InTurn true round false stops → InTurn false 0 false (stops_until round ++ stops)
until_turn zero stops h = (inl (refl, refl), h)
until_turn (suc round) stops h =
    let more : InTurn true round false (AtSync (suc round) ∷ Resumes (suc round) ∷ stops) = (refl, refl, omega arith, (inr (refl, omega arith), h)) in
    rw append_assoc (until_turn round (AtSync (suc round) ∷ Resumes (suc round) ∷ stops) more)

-- the stops of an element with this progress are in turn, as it opens
pub by_turn : (p : Progress) → InTurn false 0 false (stops_by p)
by_turn p = from p.started p.synced
  where
    from : (started synced : Bool) → InTurn false 0 false (if started then stops_until p.round ++ (if synced then AtSync (p.round + 1) ∷ [] else []) else [])
    from false synced = tt
    from true true = until_turn p.round (AtSync (p.round + 1) ∷ []) (refl, refl, refl, tt)
    from true false = until_turn p.round [] tt
