-- A PE of a world, as it makes two events at once.
use Rattle.std.specs.Prelude.{◌≡◌, ℕ, List, ◌∷◌, None, Some, slice_get}
use Rattle.pe_state.specs.Pes.{PeView, Parcel, front_parcel, front_wants}
use Rattle.rts_core.specs.Worlds.{WorldView}

module _ {C A : Type 0} (w : WorldView C A) (p : ℕ) (pe : PeView C) where
  -- PE p, with an empty hand; the front of its queue, and the rest of that
  pub record Receives (parcel : Parcel) (rest : List Parcel) : Type 0 where
    pub there : slice_get w.pes p ≡ Some pe
    pub free : pe.hand ≡ None
    pub queued : slice_get w.queues p ≡ Some (parcel ∷ rest)

  -- PE p, with an empty hand; the front of its outbox, which is a letter without an address; the PE in the location word of its element, and
  -- the queue of that PE
  pub record LooksForFront (parcel : Parcel) (to : ℕ) (queue : List Parcel) : Type 0 where
    pub there : slice_get w.pes p ≡ Some pe
    pub free : pe.hand ≡ None
    pub front : front_parcel pe.outbox ≡ Some parcel
    pub element : ℕ
    pub wants : front_wants pe.outbox ≡ Some element
    pub word : slice_get w.words element ≡ Some to
    pub queued : slice_get w.queues to ≡ Some queue
