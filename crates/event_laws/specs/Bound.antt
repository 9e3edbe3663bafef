-- Where an element of a world is, or goes: it is in the room of one PE, or is a parcel that is bound for one. Source: the
-- Charm++ manual, where an object lives on one PE at a time, and its location is where messages for it are sent.
use Rattle.std.specs.Prelude.{◌≡◌, ℕ, List, Any, None, Some, MatchOption, slice_get, ◌⊎◌}
use Rattle.chares.specs.declared.carried.Carried.TheVariants.{Letter, Element}
use Rattle.chares.specs.Elements.{ElementView, PackedView}
use Rattle.pe_state.specs.Pes.{PeView, Parcel, Item}
use Rattle.pe_state.specs.Rooms.{found}
use Rattle.rts_core.specs.Worlds.{WorldView}

-- a parcel is the element with this index
abbrev pub Carries : ℕ → Parcel → Type 0
Carries e (Letter l) = ⊥
Carries e (Element p) = p.index ≡ e

module _ {C A : Type 0} (w : WorldView C A) (e : ℕ) where
  -- an element is in the hand of PE p
  abbrev pub IsInHand : ℕ → Type 0
  IsInHand p = (pe : PeView C) × (slice_get w.pes p ≡ Some pe) × MatchOption pe.hand ⊥ (λ x. Carries e x.parcel)

  -- in its queue
  abbrev pub IsInQueue : ℕ → Type 0
  IsInQueue p = (queue : List Parcel) × (slice_get w.queues p ≡ Some queue) × Any (Carries e) queue

  -- in an outbox, addressed to it
  abbrev pub IsAddressed : ℕ → Type 0
  IsAddressed p = (q : ℕ) × (pe : PeView C) × (slice_get w.pes q ≡ Some pe) × Any (λ x. Carries e x.parcel × (x.address ≡ Some p)) pe.outbox

  -- an element is bound for PE p: it is a parcel in the hand or in the queue of that PE, or in an outbox and addressed to it
  abbrev pub IsBoundFor : ℕ → Type 0
  IsBoundFor p = IsInHand p ⊎ IsInQueue p ⊎ IsAddressed p

  -- an element is in the room of PE p
  abbrev pub StandsOn : ℕ → Type 0
  StandsOn p = (pe : PeView C) × (el : ElementView C) × (slice_get w.pes p ≡ Some pe) × (found e pe.room ≡ Some el)

  -- the location word of an element names PE p
  abbrev pub IsLookedForOn : ℕ → Type 0
  IsLookedForOn p = slice_get w.words e ≡ Some p

-- An element in the room of a PE is in no other room, and in no parcel: of a hand, an outbox or a queue.
pub record StandAlone {C A : Type 0} (w : WorldView C A) : Type 0 where
  pub in_one_room : (e p q : ℕ) → StandsOn w e p → StandsOn w e q → p ≡ q
  pub in_no_parcel : (e p q : ℕ) → StandsOn w e p → ¬ (IsBoundFor w e q)
  pub in_no_outbox : (e p q : ℕ) (pe : PeView C) → StandsOn w e p → slice_get w.pes q ≡ Some pe → ¬ (Any (λ x. Carries e x.parcel) pe.outbox)

-- The location word of each element names the PE in whose room it is, or for which it is bound.
pub record AreNamed {C A : Type 0} (w : WorldView C A) : Type 0 where
  pub standing : (e p : ℕ) → StandsOn w e p → IsLookedForOn w e p
  pub bound : (e p : ℕ) → IsBoundFor w e p → IsLookedForOn w e p

-- No element arrives where there is one with its index already: where the hand of a PE holds an element, none in its room
-- has that index.
abbrev pub ArriveAlone : {C A : Type 0} → WorldView C A → Type 0
ArriveAlone {C} w =
    (p : ℕ) (pe : PeView C) (item : Item) (packed : PackedView)
    → slice_get w.pes p ≡ Some pe → pe.hand ≡ Some item → item.parcel ≡ Element packed → found packed.index pe.room ≡ None
