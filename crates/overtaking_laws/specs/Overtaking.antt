-- Parcels that overtake one another on their way to a PE. Source: the MPI standard on the order of point-to-point messages, where
-- those from one process to another do not overtake one another, and nothing is said of two that come from different processes.
-- That here any parcel may overtake any other is this project's choice, so that a law holds of each network.
use Rattle.std.specs.Prelude.{◌≡◌, ℕ, List, ◌∷◌, ◌++◌, None, Some, slice_get, slice_set}
use Rattle.pe_state.specs.Pes.{PeView, Parcel, received}
use Rattle.rts_core.specs.Worlds.{WorldView}

-- the world where a parcel in the queue of PE q has come before those that were before it: it is the front, and all else is as
-- it was
abbrev pub overtaken : {C A : Type 0} → WorldView C A → ℕ → List Parcel → Parcel → List Parcel → WorldView C A
overtaken w q before parcel after = record w { queues = slice_set w.queues q (parcel ∷ before ++ after) }

-- In a world a parcel overtakes those before it, whichever queue it is in and wherever it is there; this leads to another.
pub record Overtakes {C A : Type 0} (w next : WorldView C A) : Type 0 where
  pub q : ℕ
  pub before : List Parcel
  pub parcel : Parcel
  pub after : List Parcel
  pub queued : slice_get w.queues q ≡ Some (before ++ parcel ∷ after)
  pub leads : next ≡ overtaken w q before parcel after

-- PE p, whose hand is empty, takes a parcel out of its queue into its hand, wherever in the queue it is; this leads from one
-- world to another.
pub record TakesAny {C A : Type 0} (p : ℕ) (w next : WorldView C A) : Type 0 where
  pub pe : PeView C
  pub there : slice_get w.pes p ≡ Some pe
  pub free : pe.hand ≡ None
  pub before : List Parcel
  pub parcel : Parcel
  pub after : List Parcel
  pub queued : slice_get w.queues p ≡ Some (before ++ parcel ∷ after)
  pub leads : next ≡ record w { pes = slice_set w.pes p (received pe parcel); queues = slice_set w.queues p (before ++ after) }
