-- The elements of PEs on which nothing has happened: none has a mark, and none is packed.
use Rattle.std.proofs.Common.{◌≡◌, ℕ, ◌+◌, ◌<◌, ◌≤◌, List, [], ◌∷◌, length, map, replicate, Option, Some, None, arith, refl, sym, subst}
use Rattle.std.specs.Prelude.{All, IfSome, get_or, slice_get}
use Rattle.std.specs.List.{range_with_len}
use Rattle.std.specs.Map.{values_of}
use Rattle.std.specs.Ordering.{nat_cmp}
use Rattle.std.proofs.lemmas.List.{length-replicate}
use Rattle.std.proofs.lemmas.List.Elements.{All-nil, All-get_or, All-map, All-replicate, All-set, All-weaker}
use Rattle.std.proofs.lemmas.Map.Views.{All-values-insert_entry}
use Rattle.std.proofs.lemmas.Option.{get_or_from_slice_get, slice_get-get_or, slice_get_within}
use Rattle.sync_board.specs.Boards.{BoardState, new_board}
use Rattle.sync_board.specs.declared.strategy.Strategy.{Strategy}
use Rattle.chares.specs.Elements.{ElementView, opening_element}
use Rattle.chares.specs.declared.note.Mark.{Mark}
use Rattle.lb_database.specs.Measuring.{elements}
use Rattle.pe_state.specs.Pes.{PeView, Item, new_pe, placed}
use Rattle.round_marks.specs.Marked.{AreMarked, IsResumptionMark, IsSyncMark}
use Rattle.round_marks.specs.Runs.{AreAllMarked, IsMarked, IsMarkedOn, IsMarkedParcel, IsMarkedPe}
use Rattle.rts_core.specs.Worlds.{placed_on}
use Rattle.carried_runs.proofs.Again.{all_before}
use Rattle.placed_runs.specs.Placed.{each_placed, placed_pes}

-- an element of n that has no mark
record IsFresh {C : Type 0} (n : ℕ) (el : ElementView C) : Type 0 where
  unmarked : el.marks ≡ []
  member : el.index < n

-- a PE has only such elements, and none is packed
record AreFresh {C : Type 0} (n : ℕ) (pe : PeView C) : Type 0 where
  room : All (IsFresh n) (values_of pe.room)
  hand : pe.hand ≡ None
  outbox : pe.outbox ≡ []

-- what holds of each member of a list holds of the one at an index
all_at : {X : Type 0} (P : X → Type 0) (xs : List X) (i : ℕ) (x : X) → slice_get xs i ≡ Some x → All P xs → P x
all_at P xs i x at all = subst P (get_or_from_slice_get xs i x x at) (All-get_or P xs i x (slice_get_within xs i x at) all)

module _ {C : Type 0} (n : ℕ) where
  fresh_placed : (e : ℕ) (pe : PeView C) (chare : C) → e < n → AreFresh n pe → AreFresh n (placed pe e chare)
  fresh_placed e pe chare lt h =
      record {
        room = All-values-insert_entry nat_cmp e (opening_element e chare) (IsFresh n) pe.room h.room (record { unmarked = refl; member = lt });
        hand = h.hand;
        outbox = h.outbox;
      }

  fresh_on : (pes : List (PeView C)) (q e : ℕ) (chare : C) (o : Option (PeView C)) → slice_get pes q ≡ o → e < n → All (AreFresh n) pes
      → All (AreFresh n) (placed_on pes q e chare o)
  fresh_on pes q e chare None at lt h = h
  fresh_on pes q e chare (Some pe) at lt h = All-set (AreFresh n) pes q (placed pe e chare) (fresh_placed e pe chare lt (all_at (AreFresh n) pes q pe at h)) h

  told_fresh : (pes : List (PeView C)) (e : ℕ) (chares : List C) (places : List ℕ) → e + length chares ≤ n → All (AreFresh n) pes
      → All (AreFresh n) (each_placed pes e chares places)
  told_fresh pes e [] places le h = h
  told_fresh pes e (chare ∷ chares) [] le h = h
  told_fresh pes e (chare ∷ chares) (q ∷ places) le h =
      let lt : e < n = omega (arith, le) in
      let rest : (e + 1) + length chares ≤ n = omega (arith, le) in
      told_fresh (placed_on pes q e chare (slice_get pes q)) (e + 1) chares places rest (fresh_on pes q e chare (slice_get pes q) refl lt h)

  bare_fresh : (pes : ℕ) → All (AreFresh {C = C} n) (map (λ q. new_pe q n) (range_with_len 0 pes))
  bare_fresh pes = All-map (AreFresh {C = C} n) (λ q. new_pe q n) (range_with_len 0 pes) (λ k d inside. record { room = All-nil (IsFresh n); hand = refl; outbox = refl })

-- ---- their marks agree with a board on which nothing was decided

module _ (A : Type 0) {C : Type 0} (pes : ℕ) (chares : List C) (strategy : Strategy) where
  abbrev b : BoardState A
  b = new_board (length chares) pes strategy

  none_marked : (e h : ℕ) (place : Option ℕ) → e < length chares → AreMarked b e h place []
  none_marked e h place lt =
      record {
        member = let k : elements b.database ≡ length chares = length-replicate (length chares) 0 in omega (arith, k, lt);
        synced = record {
          told = All-nil (IsSyncMark b e);
          once = λ round some few. absurd (omega (arith, some, few));
          once_at_most = omega arith;
          in_order = refl;
        };
        resumed = All-nil (IsResumptionMark b e h);
        resumed_in_order = λ k lt. absurd (omega (arith, lt));
        stands = tt;
      }

  module _ (homes : List ℕ) (same : length homes ≡ length chares) where
    fresh_marked : (me : ℕ) (el : ElementView C) → IsFresh (length chares) el → IsMarkedOn b homes me el
    fresh_marked me el h =
        let inside : el.index < length homes = omega (arith, same, h.member) in
        subst (λ (v : List Mark). IsMarked b homes el.index (Some me) v) (sym h.unmarked)
        (rw (slice_get-get_or homes el.index 0 inside) (none_marked el.index (get_or homes el.index 0) (Some me) h.member))

    each_marked : (me : ℕ) (room : List (ℕ × ElementView C)) → All (IsFresh (length chares)) (values_of room) → All (λ x. IsMarkedOn b homes me x.1) room
    each_marked me room h =
        All-weaker (λ (x : ℕ × ElementView C). IsFresh (length chares) x.1) (λ x. IsMarkedOn b homes me x.1) (λ x k. fresh_marked me x.1 k) room
        (all_before (IsFresh (length chares)) (λ (x : ℕ × ElementView C). x.1) room h)

    pe_marked : (pe : PeView C) → AreFresh (length chares) pe → IsMarkedPe b homes pe
    pe_marked pe h =
        record {
          room = each_marked pe.me pe.room h.room;
          hand = subst (λ (v : Option Item). IfSome v (λ x. IsMarkedParcel b homes x.parcel)) (sym h.hand) tt;
          outbox = subst (λ (v : List Item). All (λ x. IsMarkedParcel b homes x.parcel) v) (sym h.outbox) (All-nil (λ (x : Item). IsMarkedParcel b homes x.parcel));
        }

    pub placed_marked : (places : List ℕ) → AreAllMarked b homes (placed_pes pes places chares) (replicate pes [])
    placed_marked places =
        record {
          at_pes = All-weaker (AreFresh (length chares)) (IsMarkedPe b homes) pe_marked (placed_pes pes places chares)
              (told_fresh (length chares) (map (λ q. new_pe q (length chares)) (range_with_len 0 pes)) 0 chares places (omega arith) (bare_fresh (length chares) pes));
          in_queues = All-replicate (All (IsMarkedParcel b homes)) pes [] (All-nil (IsMarkedParcel b homes));
        }
