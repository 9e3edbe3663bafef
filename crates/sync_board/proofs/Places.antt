-- The place of an element in what is kept of a round.
use Rattle.std.proofs.Common.{◌≡◌, ℕ, suc, zero, ◌<◌, Some, arith}
use Rattle.std.proofs.lemmas.Option.{slice_get_within}
use Rattle.chare_index.specs.declared.limits.TheConstants.Limits.{ROUND}
use Rattle.sync_board.specs.Boards.{BoardState, Kept, kept_of, IsKeptIn, IsBoard}
use Rattle.lb_certificates.specs.Naming.{block_of}
use Rattle.lb_database.specs.Measuring.{IsMeasured, elements}
use Rattle.lb_strategy.specs.Moves.{HasPlace, planned_pe}
use Rattle.lb_strategy.specs.declared.decision.Decision.{Decision}

-- there is one
pub has_place : {A : Type 0} (b : BoardState A) (r e : ℕ) (d : Decision A) → IsKeptIn b r d → e < elements b.database → HasPlace d.division.cuts d.naming e
has_place b r e d h lt = h.decided.placed.places e (omega (arith, lt, h.decided.of_all))

-- it is one of the board's PEs
pub place_below : {A : Type 0} (b : BoardState A) (r e : ℕ) (d : Decision A) → IsKeptIn b r d → e < elements b.database → planned_pe d.division.cuts d.naming e < b.pes
place_below b r e d h lt =
    let place : HasPlace d.division.cuts d.naming e = has_place b r e d h lt in
    h.decided.placed.naming.below (block_of d.division.cuts e) (omega (arith, place.named, h.decided.placed.naming.counted))

-- a round that is kept comes before the last
pub kept_before : {A : Type 0} (b : BoardState A) (r : ℕ) (kept : Kept A) → IsBoard b → IsMeasured b.database → kept_of b.rounds r ≡ Some kept → r < ROUND
kept_before b zero kept board measured found = absurd (cc)
kept_before b (suc r) kept board measured found =
    omega (arith, slice_get_within b.rounds r kept found, board.numbered, measured.numbered)

pub decided_before : {A : Type 0} (b : BoardState A) (r : ℕ) (d : Decision A) → IsKeptIn b r d → IsBoard b → IsMeasured b.database → r < ROUND
decided_before b r d h board measured = kept_before b r (h.snapshot, d) board measured h.kept
