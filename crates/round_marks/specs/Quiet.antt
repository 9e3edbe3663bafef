-- When nothing is left to do in a run, though not every element has finished: no event but a look that finds nothing could happen.
use Rattle.std.specs.Prelude.{◌≡◌, List, [], All, None, IfSome, true}
use Rattle.sync_board.specs.Boards.{BoardState, kept_of}
use Rattle.chares.specs.Elements.{ElementView}
use Rattle.lb_database.specs.Measuring.{IsComplete}
use Rattle.pe_state.specs.Pes.{PeView, Parcel, waits_for}

-- an element has started, and does not wait for the end of a round that is decided
pub record IsAtRest {A C : Type 0} (b : BoardState A) (el : ElementView C) : Type 0 where
  pub started : el.progress.started ≡ true
  pub waits : IfSome (waits_for el) (λ round. kept_of b.rounds round ≡ None)

-- A PE has only elements at rest, and letters on its shelf: nothing is in its hand or its outbox, and it owes no note.
pub record IsQuietPe {A C : Type 0} (b : BoardState A) (pe : PeView C) : Type 0 where
  pub hand : pe.hand ≡ None
  pub outbox : pe.outbox ≡ []
  pub notes : pe.notes ≡ []
  pub room : All (λ x. IsAtRest b x.1) pe.room

-- Such are all PEs of a run that ended with these PEs and left these parcels in the queues, which are none; and the board waits for
-- reports.
pub record IsQuiet {A C : Type 0} (b : BoardState A) (ends : List (PeView C)) (left : List (List Parcel)) : Type 0 where
  pub waits : ¬ (IsComplete b.database)
  pub at_pes : All (IsQuietPe b) ends
  pub in_queues : All (λ queue. queue ≡ []) left
