-- The rounds of an element come in order as it opens, and each handler keeps that.
use Rattle.std.proofs.Common.{◌≡◌, ℕ, inl, inr, Option, Some, None, List, refl}
use Rattle.std.specs.Prelude.{All, IfSome}
use Rattle.std.proofs.lemmas.List.Elements.{All-weaker}
use Rattle.chares.specs.declared.carried.Carried.TheVariants.{Letter, Element}
use Rattle.chares.specs.declared.entry.Entry.TheVariants.{Letter as OfLetter, Resumption}
use Rattle.chares.specs.Elements.{ElementView, PackedView}
use Rattle.chares.specs.Steps.{Step}
use Rattle.chares.specs.Orders.{IsInOrder}
use Rattle.chares.specs.Elements.{IsElementInOrder}
use Rattle.chares.proofs.Orders.{in_order_ran, in_order_opening}
use Rattle.pe_state.specs.Pes.{PeView, Parcel, Item}
use Rattle.pe_state.proofs.Histories.{waits_is}
use Rattle.rts_core.specs.Worlds.{WorldView}
use Rattle.rts_core.proofs.EachElement.{IsKept, ParcelKept, ItemKept, PeKept, WorldKept}
use Rattle.rts_core.proofs.Rooms.{each_value}
use Rattle.rts_core.specs.Orders.{IsParcelInOrder, HasOrder, AreInOrder}

-- an element is beside its index, and its rounds come in order; and so do those of one that is packed
abbrev pub FitsInOrder : {C : Type 0} → ℕ → ElementView C → Type 0
FitsInOrder e el = (el.index ≡ e) × IsElementInOrder el

abbrev pub PackedInOrder : PackedView → Type 0
PackedInOrder p = IsInOrder p.journal p.progress p.marks

abbrev pub Ordered : {C : Type 0} → PeView C → Type 0
Ordered {C} pe = PeKept (FitsInOrder {C = C}) PackedInOrder pe

abbrev pub AllOrdered : {C A : Type 0} → WorldView C A → Type 0
AllOrdered {C} w = WorldKept (FitsInOrder {C = C}) PackedInOrder w

pub order_kept : {C : Type 0} (step : Step C) (pack : C → List ℕ) → IsKept step pack FitsInOrder PackedInOrder
order_kept step pack =
    record {
      opens = λ e chare. (refl, in_order_opening e chare);
      starts = λ e n me el k fresh. (k.0, in_order_ran step pack el n me (Resumption 0) k.1 (inl (fresh, refl)));
      goes_on = λ e n me round el k waits. (k.0, in_order_ran step pack el n me (Resumption round) k.1 (inr (waits_is el round waits)));
      executes = λ n me l el k started. (k.0, in_order_ran step pack el n me (OfLetter l) k.1 started);
      packs = λ e el k. k.1;
      unpacks = λ p chare k. (refl, k);
    }

parcel_order : (parcel : Parcel) → ParcelKept PackedInOrder parcel → IsParcelInOrder parcel
parcel_order (Letter l) k = tt
parcel_order (Element p) k = k

hand_order : (o : Option Item) → IfSome o (ItemKept PackedInOrder) → IfSome o (λ x. IsParcelInOrder x.parcel)
hand_order None k = tt
hand_order (Some x) k = parcel_order x.parcel k

order_of : {C : Type 0} (pe : PeView C) → Ordered pe → HasOrder pe
order_of pe h =
    record {
      room = each_value FitsInOrder IsElementInOrder (λ e el k. k.1) pe.room h.room;
      hand = hand_order pe.hand h.hand;
      outbox = All-weaker (ItemKept PackedInOrder) (λ x. IsParcelInOrder x.parcel) (λ x k. parcel_order x.parcel k) pe.outbox h.outbox;
    }

pub are_in_order : {C A : Type 0} (w : WorldView C A) → AllOrdered w → AreInOrder w
are_in_order w h =
    record {
      pes = All-weaker Ordered HasOrder order_of w.pes h.pes;
      queues = All-weaker (All (ParcelKept PackedInOrder)) (All IsParcelInOrder)
          (λ queue. All-weaker (ParcelKept PackedInOrder) IsParcelInOrder parcel_order queue) w.queues h.queues;
    }
