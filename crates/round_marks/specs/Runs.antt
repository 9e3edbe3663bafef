-- When the marks of all elements of a run agree with the rounds that a board decided: of those in rooms, and of those that
-- are packed, in a hand, an outbox or a queue. The run says of each element on which PE it opened: its home.
use Rattle.std.specs.Prelude.{ℕ, List, All, Option, None, Some, IfSome, IsSomeAnd, slice_get}
use Rattle.sync_board.specs.Boards.{BoardState}
use Rattle.chares.specs.declared.carried.Carried.TheVariants.{Letter, Element}
use Rattle.chares.specs.declared.note.Mark.{Mark}
use Rattle.chares.specs.Elements.{ElementView}
use Rattle.pe_state.specs.Pes.{PeView, Parcel}
use Rattle.round_marks.specs.Marked.{AreMarked}

-- the marks of an element of the board agree, which opened on its home
abbrev pub IsMarked : {A : Type 0} → BoardState A → List ℕ → ℕ → Option ℕ → List Mark → Type 0
IsMarked b homes e place marks = IsSomeAnd (slice_get homes e) (λ home. AreMarked b e home place marks)

-- and so do those of an element in the room of this PE
abbrev pub IsMarkedOn : {A C : Type 0} → BoardState A → List ℕ → ℕ → ElementView C → Type 0
IsMarkedOn b homes pe el = IsMarked b homes el.index (Some pe) el.marks

-- and those of an element that is packed; of a letter this requires nothing
abbrev pub IsMarkedParcel : {A : Type 0} → BoardState A → List ℕ → Parcel → Type 0
IsMarkedParcel b homes (Letter l) = Unit {0}
IsMarkedParcel b homes (Element p) = IsMarked b homes p.index None p.marks

-- and those of all elements that a PE has
pub record IsMarkedPe {A C : Type 0} (b : BoardState A) (homes : List ℕ) (pe : PeView C) : Type 0 where
  pub room : All (λ x. IsMarkedOn b homes pe.me x.1) pe.room
  pub hand : IfSome pe.hand (λ x. IsMarkedParcel b homes x.parcel)
  pub outbox : All (λ x. IsMarkedParcel b homes x.parcel) pe.outbox

-- and those of all elements of a run that ended with these PEs and left these parcels in the queues
pub record AreAllMarked {A C : Type 0} (b : BoardState A) (homes : List ℕ) (ends : List (PeView C)) (left : List (List Parcel)) : Type 0 where
  pub at_pes : All (IsMarkedPe b homes) ends
  pub in_queues : All (All (IsMarkedParcel b homes)) left
