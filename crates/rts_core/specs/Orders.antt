-- That the rounds of every element of a world come in order, wherever it is.
use Rattle.std.specs.Prelude.{All, IfSome}
use Rattle.std.specs.Map.{values_of}
use Rattle.chares.specs.declared.carried.Carried.TheVariants.{Letter, Element}
use Rattle.chares.specs.Orders.{IsInOrder}
use Rattle.chares.specs.Elements.{IsElementInOrder}
use Rattle.pe_state.specs.Pes.{PeView, Parcel}
use Rattle.rts_core.specs.Worlds.{WorldView}

-- the rounds of an element that is packed
abbrev pub IsParcelInOrder : Parcel → Type 0
IsParcelInOrder (Letter l) = Unit {0}
IsParcelInOrder (Element p) = IsInOrder p.journal p.progress p.marks

-- those of each element that a PE has, in its room, its hand or its outbox
pub record HasOrder {C : Type 0} (pe : PeView C) : Type 0 where
  pub room : All IsElementInOrder (values_of pe.room)
  pub hand : IfSome pe.hand (λ x. IsParcelInOrder x.parcel)
  pub outbox : All (λ x. IsParcelInOrder x.parcel) pe.outbox

-- those of each element of a world, on a PE or in a queue
pub record AreInOrder {C A : Type 0} (w : WorldView C A) : Type 0 where
  pub pes : All HasOrder w.pes
  pub queues : All (All IsParcelInOrder) w.queues
