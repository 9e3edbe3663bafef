-- A PE that is opened again: its addresses name PEs that there are, and every element of it is what its journal says.
use Rattle.std.proofs.Common.{◌≡◌, ℕ, ◌<◌, ◌≤◌, List, [], ◌∷◌, map, Bool, true, false, Option, Some, None, refl}
use Rattle.std.specs.Prelude.{All, IfSome, nat_lt, if◌then◌else◌}
use Rattle.std.specs.Option.{option_map}
use Rattle.std.proofs.lemmas.Bool.{ltb-true}
use Rattle.std.proofs.lemmas.List.Elements.{All-append, All-map}
use Rattle.chare_index.specs.declared.limits.TheConstants.Limits.{ELEMENTS}
use Rattle.chares.specs.Steps.{Step}
use Rattle.pe_state.specs.Histories.{IsParcelHistory, HasHistories}
use Rattle.pe_state.specs.Pes.{PeView, Parcel, Item}
use Rattle.pe_state.specs.Reopening.{address_again, readdressed, parcel_at, reopened}
use Rattle.pe_state.specs.Standing.{IsBelow, IsHandBelow, AreBelow, IsOfRun}
use Rattle.pe_state.proofs.Below.{both_below}
use Rattle.pe_state.proofs.Histories.{IsItemHistory}

-- addresses
again_below : (pes me : ℕ) (address : Option ℕ) → me < pes → IsBelow pes (address_again pes me address)
again_below pes me None lt = tt
again_below pes me (Some q) lt = by (nat_lt q pes) refl
  where
    by : (b : Bool) → nat_lt q pes ≡ b → (if b then q else me) < pes
    by true e = ltb-true q pes e
    by false e = lt

hand_below : (pes me : ℕ) (hand : Option Item) → me < pes → IsHandBelow pes (option_map (readdressed pes me) hand)
hand_below pes me None lt = tt
hand_below pes me (Some x) lt = again_below pes me x.address lt

outbox_below : (pes me : ℕ) (outbox : List Item) → me < pes → AreBelow pes (map (readdressed pes me) outbox)
outbox_below pes me [] lt = tt
outbox_below pes me (x ∷ xs) lt = (again_below pes me x.address lt, outbox_below pes me xs lt)

left_below : (pes me : ℕ) (left : List Parcel) → me < pes → AreBelow pes (map (parcel_at me) left)
left_below pes me [] lt = tt
left_below pes me (x ∷ xs) lt = (lt, left_below pes me xs lt)

module _ {C : Type 0} (step : Step C) (fits : C → Type 0) (pack : C → List ℕ) (opened : List C) where
  hand_holds : (pes me : ℕ) (hand : Option Item) → IfSome hand (IsItemHistory step fits pack opened)
      → IfSome (option_map (readdressed pes me) hand) (IsItemHistory step fits pack opened)
  hand_holds pes me None h = tt
  hand_holds pes me (Some x) h = h

  reopened_holds : (pes : ℕ) (pe : PeView C) (left : List Parcel) → HasHistories step fits pack opened pe
      → All (IsParcelHistory step fits pack opened) left → HasHistories step fits pack opened (reopened pes pe left)
  reopened_holds pes pe left h k =
      record {
        same_array = h.same_array;
        room = h.room;
        hand = hand_holds pes pe.me pe.hand h.hand;
        outbox = All-append (IsItemHistory step fits pack opened) (map (readdressed pes pe.me) pe.outbox) (map (parcel_at pe.me) left)
            (All-map (IsItemHistory step fits pack opened) (readdressed pes pe.me) pe.outbox h.outbox)
            (All-map (IsItemHistory step fits pack opened) (parcel_at pe.me) left k);
      }

  -- so it is one of the run
  pub reopened_of_run : (pes : ℕ) (pe : PeView C) (left : List Parcel) → pe.me < pes → pe.n ≤ ELEMENTS
      → HasHistories step fits pack opened pe → All (IsParcelHistory step fits pack opened) left → IsOfRun step fits pack opened pes (reopened pes pe left)
  reopened_of_run pes pe left lt few h k =
      record {
        histories = reopened_holds pes pe left h k;
        few = few;
        me = lt;
        hand = hand_below pes pe.me pe.hand lt;
        outbox = both_below pes (map (readdressed pes pe.me) pe.outbox) (map (parcel_at pe.me) left) (outbox_below pes pe.me pe.outbox lt) (left_below pes pe.me left lt);
        kept = tt;
      }
