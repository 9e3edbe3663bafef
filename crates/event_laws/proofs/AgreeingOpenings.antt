-- The board and the elements agree as a world opens: every element is at work in round 1, and none has reported.
use Rattle.std.proofs.Common.{◌≡◌, ℕ, ◌+◌, ◌<◌, ◌≤◌, List, [], ◌∷◌, length, map, Option, Some, None, false, arith, refl, sym, ◌∙◌, subst, inl}
use Rattle.std.specs.Prelude.{All, IfSome, slice_get}
use Rattle.std.specs.List.{range_with_len}
use Rattle.std.specs.Map.{values_of}
use Rattle.std.specs.Ordering.{nat_cmp}
use Rattle.std.proofs.lemmas.List.{length-replicate}
use Rattle.std.proofs.lemmas.List.FromFn.{length-map-range_with_len}
use Rattle.std.proofs.lemmas.List.Elements.{All-nil, All-set, All-map, All-replicate}
use Rattle.std.proofs.lemmas.Map.Views.{All-values-insert_entry}
use Rattle.lb_database.specs.Measuring.{Measured, elements, opening}
use Rattle.chares.specs.declared.note.Note.{Note}
use Rattle.chares.specs.Elements.{ElementView, opening_element}
use Rattle.pe_state.specs.Pes.{PeView, Item, new_pe, placed}
use Rattle.rts_core.specs.Worlds.{home, placed_on, all_placed, opening_world}
use Rattle.rts_core.proofs.Histories.{one_of_all}
use Rattle.rts_core.proofs.OpeningWeights.{opening_numbered}
use Rattle.event_laws.specs.Agreement.{AgreesWith, AgreesOn, IsOwed, AgreesAt, Agrees}
use Rattle.event_laws.proofs.Rooms.{AreKeyed, Key, places_joined}
use Rattle.event_laws.proofs.AgreeingHandlers.{ItemAgrees}
use Rattle.event_laws.proofs.Deciding.{nobody, opens_for}
use Rattle.event_laws.proofs.OpeningSites.{placed_length}
use Rattle.sync_board.specs.declared.strategy.Strategy.{Strategy}

-- a PE as elements are placed on it: each is at work and has not finished, and the PE owes and holds nothing
pub record OpensAt {C : Type 0} (m : Measured) (pe : PeView C) : Type 0 where
  pub keyed : AreKeyed pe.room
  pub room : All (AgreesWith m pe.me pe.notes) (values_of pe.room)
  pub unfinished : All (λ (el : ElementView C). el.progress.finished ≡ false) (values_of pe.room)
  pub no_note : pe.notes ≡ []
  pub no_hand : pe.hand ≡ None
  pub no_outbox : pe.outbox ≡ []

module _ {C : Type 0} (n : ℕ) where
  pub opens_agrees : (pe : PeView C) → OpensAt (opening 1 n) pe → AgreesAt (opening 1 n) pe
  opens_agrees pe h =
      record {
        keyed = h.keyed;
        room = h.room;
        notes = subst (λ (v : List Note). All (IsOwed (opening 1 n) pe.me pe.room) v) (sym h.no_note) (All-nil (IsOwed (opening 1 n) pe.me pe.room));
        once = λ e. rw h.no_note (omega arith);
        hand = subst (λ (v : Option Item). IfSome v (ItemAgrees (opening 1 n))) (sym h.no_hand) tt;
        outbox = subst (λ (v : List Item). All (ItemAgrees (opening 1 n)) v) (sym h.no_outbox) (All-nil (ItemAgrees (opening 1 n)));
      }

  pub placed_opens : (pe : PeView C) (e : ℕ) (chare : C) → e < n → OpensAt (opening 1 n) pe → OpensAt (opening 1 n) (placed pe e chare)
  placed_opens pe e chare lt h =
      record {
        keyed = places_joined Key e (opening_element e chare) pe.room h.keyed (λ k s. s);
        room = All-values-insert_entry nat_cmp e (opening_element e chare) (AgreesWith (opening 1 n) pe.me pe.notes) pe.room h.room
            (record {
              known = let c : elements (opening 1 n) ≡ n = length-replicate n 0 in omega (arith, lt, c);
              fresh = λ f. (refl, refl);
              state = inl (record { awake = refl; at_round = refl; silent = nobody n e });
            });
        unfinished = All-values-insert_entry nat_cmp e (opening_element e chare) (λ (el : ElementView C). el.progress.finished ≡ false) pe.room h.unfinished refl;
        no_note = h.no_note;
        no_hand = h.no_hand;
        no_outbox = h.no_outbox;
      }

  pub settled_opens : (pes : List (PeView C)) (e : ℕ) (chares : List C) → e + length chares ≤ n → All (OpensAt (opening 1 n)) pes
      → All (OpensAt (opening 1 n)) (all_placed n pes e chares)
  settled_opens pes e [] le h = h
  settled_opens pes e (chare ∷ chares) le h =
      let q = home e n (length pes) in
      let next : List (PeView C) = placed_on pes q e chare (slice_get pes q) in
      settled_opens next (e + 1) chares (omega (arith, le)) (by (slice_get pes q) (one_of_all (OpensAt (opening 1 n)) pes q h))
    where
      by : (o : Option (PeView C)) → IfSome o (OpensAt (opening 1 n)) → All (OpensAt (opening 1 n)) (placed_on pes (home e n (length pes)) e chare o)
      by None k = h
      by (Some pe) k = All-set (OpensAt (opening 1 n)) pes (home e n (length pes)) (placed pe e chare) (placed_opens pe e chare (omega (arith, le)) k) h

  pub new_opens : (q : ℕ) → OpensAt {C = C} (opening 1 n) (new_pe q n)
  new_opens q =
      record {
        keyed = All-nil (Key {C = C});
        room = All-nil (AgreesWith {C = C} (opening 1 n) q []);
        unfinished = All-nil (λ (el : ElementView C). el.progress.finished ≡ false);
        no_note = refl;
        no_hand = refl;
        no_outbox = refl;
      }

pub all_agree : {C : Type 0} (n : ℕ) (pes : List (PeView C)) → All (OpensAt (opening 1 n)) pes → All (AgreesAt (opening 1 n)) pes
all_agree n pes all = λ k d lt. opens_agrees n _ (all k d lt)

-- placing chares adds no PE
pub all_placed_length : {C : Type 0} (n : ℕ) (pes : List (PeView C)) (e : ℕ) (chares : List C) → length (all_placed n pes e chares) ≡ length pes
all_placed_length n pes e [] = refl
all_placed_length {C} n pes e (chare ∷ chares) =
    let q = home e n (length pes) in
    all_placed_length n (placed_on pes q e chare (slice_get pes q)) (e + 1) chares ∙ placed_length pes q e chare (slice_get pes q)

-- the PEs of the opening world
pub opening_opens : {C : Type 0} (A : Type 0) (pes : ℕ) (chares : List C) (strategy : Strategy)
    → All (OpensAt (opening 1 (length chares))) (opening_world {A = A} pes chares strategy).pes
opening_opens {C} A pes chares strategy =
    let n : ℕ = length chares in
    settled_opens n (map (λ q. new_pe q n) (range_with_len 0 pes)) 0 chares (omega arith)
    (All-map (OpensAt {C = C} (opening 1 n)) (λ (q : ℕ). new_pe {C = C} q n) (range_with_len 0 pes) (λ k d lt. new_opens n _))

-- the opening world
pub opening_agrees : {C : Type 0} (A : Type 0) (pes : ℕ) (chares : List C) (strategy : Strategy) → 1 ≤ pes → Agrees (length chares) (opening_world {A = A} pes chares strategy)
opening_agrees {C} A pes chares strategy some =
    let n : ℕ = length chares in
    record {
      measured = opens_for n 1;
      numbered = refl;
      counted = all_placed_length n (map (λ q. new_pe {C = C} q n) (range_with_len 0 pes)) 0 chares ∙ length-map-range_with_len (λ (q : ℕ). new_pe {C = C} q n) 0 pes;
      places = opening_numbered A pes chares strategy some;
      pes = all_agree n (opening_world {A = A} pes chares strategy).pes (opening_opens A pes chares strategy);
      queues = All-replicate (All (AgreesOn (opening 1 n))) pes [] (All-nil (AgreesOn (opening 1 n)));
    }
