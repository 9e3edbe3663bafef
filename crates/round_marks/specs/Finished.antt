-- When every element of a run has finished, by its own progress: those in rooms, and those that are packed, in a hand, an
-- outbox or a queue. What the board was told of them is another matter.
use Rattle.std.specs.Prelude.{◌≡◌, List, All, true, IfSome}
use Rattle.chares.specs.declared.carried.Carried.TheVariants.{Letter, Element}
use Rattle.chares.specs.Elements.{ElementView}
use Rattle.pe_state.specs.Pes.{PeView, Parcel}

-- an element has finished
abbrev pub HasFinished : {C : Type 0} → ElementView C → Type 0
HasFinished el = el.progress.finished ≡ true

-- and so has one that is packed; of a letter this requires nothing
abbrev pub HasFinishedParcel : Parcel → Type 0
HasFinishedParcel (Letter l) = Unit {0}
HasFinishedParcel (Element p) = p.progress.finished ≡ true

-- and so have all elements that a PE has
pub record HasFinishedPe {C : Type 0} (pe : PeView C) : Type 0 where
  pub room : All (λ x. HasFinished x.1) pe.room
  pub hand : IfSome pe.hand (λ x. HasFinishedParcel x.parcel)
  pub outbox : All (λ x. HasFinishedParcel x.parcel) pe.outbox

-- and so have all elements of a run that ended with these PEs and left these parcels in the queues
pub record HaveAllFinished {C : Type 0} (ends : List (PeView C)) (left : List (List Parcel)) : Type 0 where
  pub at_pes : All HasFinishedPe ends
  pub in_queues : All (All HasFinishedParcel) left
