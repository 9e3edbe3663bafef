-- The rounds of every element of a world come in order where each is what its journal says.
use Rattle.std.proofs.Common.{ℕ, List, Option, Some, None}
use Rattle.std.specs.Prelude.{All, IfSome}
use Rattle.std.specs.Map.{values_of}
use Rattle.std.proofs.lemmas.List.Elements.{All-weaker}
use Rattle.chares.specs.declared.carried.Carried.TheVariants.{Letter, Element}
use Rattle.chares.specs.Elements.{IsElementInOrder, IsHistory}
use Rattle.chares.specs.Steps.{Step}
use Rattle.pe_state.specs.Histories.{IsParcelHistory, HasHistories}
use Rattle.pe_state.specs.Pes.{PeView, Parcel, Item}
use Rattle.rts_core.specs.Histories.{AreHistories}
use Rattle.rts_core.specs.Orders.{IsParcelInOrder, HasOrder, AreInOrder}
use Rattle.rts_core.specs.Worlds.{WorldView}

module _ {C : Type 0} (step : Step C) (fits : C → Type 0) (pack : C → List ℕ) (opened : List C) where
  parcel_order : (parcel : Parcel) → IsParcelHistory step fits pack opened parcel → IsParcelInOrder parcel
  parcel_order (Letter l) h = tt
  parcel_order (Element p) h = h.is_history.in_order

  hand_order : (o : Option Item) → IfSome o (λ x. IsParcelHistory step fits pack opened x.parcel) → IfSome o (λ x. IsParcelInOrder x.parcel)
  hand_order None h = tt
  hand_order (Some x) h = parcel_order x.parcel h

  pe_order : (pe : PeView C) → HasHistories step fits pack opened pe → HasOrder pe
  pe_order pe h =
      record {
        room = All-weaker (IsHistory step pack opened) (IsElementInOrder {C = C}) (λ el k. k.in_order) (values_of pe.room) h.room;
        hand = hand_order pe.hand h.hand;
        outbox = All-weaker (λ (x : Item). IsParcelHistory step fits pack opened x.parcel) (λ (x : Item). IsParcelInOrder x.parcel) (λ x. parcel_order x.parcel) pe.outbox h.outbox;
      }

  pub histories_in_order : {A : Type 0} (w : WorldView C A) → AreHistories step fits pack opened w → AreInOrder w
  histories_in_order w h =
      record {
        pes = All-weaker (HasHistories step fits pack opened) (HasOrder {C = C}) pe_order w.pes h.pes;
        queues = All-weaker (All (IsParcelHistory step fits pack opened)) (All IsParcelInOrder)
            (λ queue. All-weaker (IsParcelHistory step fits pack opened) IsParcelInOrder parcel_order queue) w.queues h.queues;
      }
