-- The places of one round, copied out of a board.
use Rattle.std.specs.Prelude.{ℕ, ◌+◌, ◌<◌, ◌≤◌, nat_lt, if◌then◌else◌, List, [], length, slice_index, Option, None, Some}
use Rattle.lb_certificates.specs.Naming.{blocks_between}
use Rattle.lb_strategy.specs.Moves.{HasPlace, planned_pe}
use Rattle.lb_strategy.specs.declared.decision.Decision.{Decision}

-- which round's places these are, where the elements are cut into blocks, and the PE of each block
pub record PlacesView : Type 0 where
  pub round : ℕ
  pub cuts : List ℕ
  pub names : List ℕ

-- the places of no round yet: round 0 stands for the start, and there is no block
abbrev pub no_places : PlacesView
no_places = record { round = 0; cuts = []; names = [] }

-- the places of a round, by the decision that was made for it
abbrev pub places_by : {A : Type 0} → ℕ → Decision A → PlacesView
places_by round decision = record { round = round; cuts = decision.division.cuts; names = decision.naming }

-- how many elements are cut into blocks: as many as the last cut says
abbrev pub elements_cut : List ℕ → ℕ
elements_cut cuts = slice_index cuts (blocks_between cuts)

-- the place of element i, if there is such an element
abbrev pub place_among : PlacesView → ℕ → Option ℕ
place_among places i =
    if nat_lt i (elements_cut places.cuts) then Some (planned_pe places.cuts places.names i) else None

-- at most as many blocks as PEs, and each element that is cut into them has a place, which is one of these PEs
pub record ArePlaces (pes : ℕ) (cuts names : List ℕ) : Type 0 where
  pub few_cuts : length cuts ≤ pes + 1
  pub few_names : length names ≤ pes
  pub has_place : (i : ℕ) → i < elements_cut cuts → HasPlace cuts names i
  pub below : (i : ℕ) → i < elements_cut cuts → planned_pe cuts names i < pes
