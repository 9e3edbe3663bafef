-- What a step leaves as it is in a world: the moves of the other PEs, and the events of the elements that its trace does not name.
use Rattle.std.proofs.Common.{◌≡◌, ◌≢◌, ◌∙◌, ◌⊎◌, inl, inr, ℕ, zero, suc, List, [], ◌∷◌, length, Option, Some, None, Bool, true, false, eqb, refl, sym, ap}
use Rattle.std.specs.Prelude.{IfSome, Result, is_some, slice_get, slice_set, nat_lt, if◌then◌else◌}
use Rattle.std.specs.Option.{option_and_then, option_map, option_map_or}
use Rattle.std.proofs.lemmas.Bool.Decides.{eqb_tells}
use Rattle.std.proofs.lemmas.List.{length-set}
use Rattle.sync_board.specs.Boards.{BoardState, Kept, kept_of}
use Rattle.chares.specs.Elements.{ElementView}
use Rattle.chares.specs.Steps.{Step}
use Rattle.chares.specs.declared.trace_entry.TraceEntry.{TraceEntry}
use Rattle.lb_database.specs.Measuring.{elements}
use Rattle.lb_strategy.specs.Moves.{planned_pe}
use Rattle.pe_state.specs.Pes.{PeView, waits_for}
use Rattle.pe_state.specs.Rooms.{found}
use Rattle.pup_pack.specs.declared.error.PupError.{PupError}
use Rattle.rts_core.specs.declared.event.Event.{Event}
use Rattle.rts_core.specs.declared.event.Event.TheVariants as Happening
use Rattle.rts_core.specs.Events.{After, LocalView, enabled, local_step, local_view, pe_of, where_true, with_local}
use Rattle.rts_core.specs.Worlds.{WorldView}
use Rattle.schedules.specs.Choices.{AreSilent, ChoicesView, Knows, KnowsBut, put_into, put_to}
use Rattle.schedules.specs.Draws.{element_event, element_goes, event_of, goes_to, moves_at, moves_of, no_moves, place_of}
use Rattle.schedules.proofs.Frames.{Keeps, bind_if, local_keeps, of_some, other_place}

same_place : {X : Type 0} (xs : List X) (i : ℕ) (x y : X) → slice_get xs i ≡ Some x → slice_get (slice_set xs i y) i ≡ Some y
same_place [] i x y e = cc
same_place (z ∷ zs) zero x y e = refl
same_place (z ∷ zs) (suc i) x y e = same_place zs i x y e

-- what depends on the board is as before
place_same : {A : Type 0} (b b' : BoardState A) (round e : ℕ) → b'.rounds ≡ b.rounds → elements b'.database ≡ elements b.database → place_of b' round e ≡ place_of b round e
place_same {A} b b' round e rounds known =
    ap (λ (n : ℕ). where_true (nat_lt e n) (option_map (λ d. planned_pe d.division.cuts d.naming e) (option_map (λ kept. kept.1) (kept_of b'.rounds round)))) known
    ∙ ap (λ (rs : List (Kept A)). where_true (nat_lt e (elements b.database))
    (option_map (λ d. planned_pe d.division.cuts d.naming e) (option_map (λ kept. kept.1) (kept_of rs round)))) rounds

goes_same : {C A : Type 0} (b b' : BoardState A) (p e : ℕ) (el : ElementView C) → b'.rounds ≡ b.rounds → elements b'.database ≡ elements b.database
    → element_goes b' p e el ≡ element_goes b p e el
goes_same {C} {A} b b' p e el rounds known = by el.progress.started (waits_for el)
  where
    by : (started : Bool) (o : Option ℕ)
        → (if started then option_and_then (λ round. option_and_then (λ q. Some (goes_to p e q)) (place_of b' round e)) o else Some (Happening.Start p e))
        ≡ (if started then option_and_then (λ round. option_and_then (λ q. Some (goes_to p e q)) (place_of b round e)) o else Some (Happening.Start p e))
    by true None = refl
    by true (Some round) = ap (option_and_then (λ q. Some (goes_to p e q))) (place_same b b' round e rounds known)
    by false o = refl

assoc : {C : Type 0} (f : ElementView C → Option Event) (e : ℕ) (o : Option (PeView C))
    → option_and_then (λ (pe : PeView C). option_and_then f (found e pe.room)) o ≡ option_and_then f (option_and_then (λ (pe : PeView C). found e pe.room) o)
assoc f e None = refl
assoc f e (Some pe) = refl

each_goes : {C : Type 0} (f g : ElementView C → Option Event) → ((el : ElementView C) → f el ≡ g el) → (o : Option (ElementView C)) → option_and_then f o ≡ option_and_then g o
each_goes f g same None = refl
each_goes f g same (Some el) = same el

module _ {C A : Type 0} where
  -- element e on PE p
  abbrev pub standing : WorldView C A → ℕ → ℕ → Option (ElementView C)
  standing w e p = option_and_then (λ (pe : PeView C). found e pe.room) (slice_get w.pes p)

  pub record Stays (w : WorldView C A) (event : Event) (p : ℕ) (next : After C A) : Type 0 where
    pub count : length next.0.pes ≡ length w.pes
    pub pes : (k : ℕ) → k ≢ p → slice_get next.0.pes k ≡ slice_get w.pes k
    pub queues : (k : ℕ) → k ≢ p → Some k ≢ put_into w event → slice_get next.0.queues k ≡ slice_get w.queues k
    pub rooms : (e : ℕ) → AreSilent e next.1 → standing next.0 e p ≡ standing w e p
    pub rounds : next.0.board.rounds ≡ w.board.rounds
    pub known : elements next.0.board.database ≡ elements w.board.database

  put_is : (w : WorldView C A) (event : Event) (p : ℕ) (pe : PeView C) → pe_of event ≡ Some p → slice_get w.pes p ≡ Some pe → put_into w event ≡ put_to event pe
  put_is w event p pe of is =
      ap (λ o. option_and_then (λ r. option_and_then (put_to event) (slice_get w.pes r)) o) of ∙ ap (option_and_then (put_to event)) is

  module _ (step : Step C) (pack : C → List ℕ) (unpack : List ℕ → Result (C × ℕ) PupError) (w : WorldView C A) (event : Event) (p : ℕ) (of : pe_of event ≡ Some p) where
    stays_at : (pe : PeView C) → slice_get w.pes p ≡ Some pe → (after : LocalView C A × List TraceEntry) → Keeps event (local_view w pe) after
        → Stays w event p (with_local w p after.0, after.1)
    stays_at pe is after keeps =
        record {
          count = length-set w.pes p after.0.pe;
          pes = λ k ne. other_place w.pes p k after.0.pe ne;
          queues = λ k ne other. keeps.queues p k of ne (λ same. other (same ∙ sym (put_is w event p pe of is)));
          rooms = λ e silent.
              ap (option_and_then (λ (x : PeView C). found e x.room)) (same_place w.pes p pe after.0.pe is)
              ∙ keeps.room e silent
              ∙ sym (ap (option_and_then (λ (x : PeView C). found e x.room)) is);
          rounds = keeps.rounds;
          known = keeps.known;
        }

    pub enabled_stays : IfSome (enabled step pack unpack w event p) (Stays w event p)
    enabled_stays =
        bind_if (Stays w event p) _ (slice_get w.pes p) (λ pe is.
        bind_if (Stays w event p) _ (local_step step pack unpack event (local_view w pe)) (λ after so.
        stays_at pe is after (of_some (Keeps event (local_view w pe)) (local_step step pack unpack event (local_view w pe)) after
        (local_keeps step pack unpack event (local_view w pe)) so)))

  by_standing : (w : WorldView C A) (e p : ℕ) → element_event w e p ≡ option_and_then (element_goes w.board p e) (standing w e p)
  by_standing w e p = assoc (element_goes w.board p e) e (slice_get w.pes p)

  module _ (w : WorldView C A) (event : Event) (p : ℕ) (next : After C A) (stays : Stays w event p next) where
    standing_same : (e q : ℕ) → AreSilent e next.1 → ((eqb q p ≡ true) × (q ≡ p)) ⊎ ((eqb q p ≡ false) × (q ≢ p)) → standing next.0 e q ≡ standing w e q
    standing_same e q silent (inl (t, same)) =
        ap (standing next.0 e) same ∙ stays.rooms e silent ∙ sym (ap (standing w e) same)
    standing_same e q silent (inr (t, ne)) = ap (option_and_then (λ (x : PeView C). found e x.room)) (stays.pes q ne)

    element_same : (e q : ℕ) → AreSilent e next.1 → element_event next.0 e q ≡ element_event w e q
    element_same e q silent =
        by_standing next.0 e q
        ∙ each_goes (element_goes next.0.board q e) (element_goes w.board q e) (λ el. goes_same w.board next.0.board q e el stays.rounds stays.known) (standing next.0 e q)
        ∙ ap (option_and_then (element_goes w.board q e)) (standing_same e q silent (eqb_tells q p))
        ∙ sym (by_standing w e q)

    event_same : (places : List ℕ) (e : ℕ) → AreSilent e next.1 → event_of next.0 places e ≡ event_of w places e
    event_same places e silent = by (slice_get places e)
      where
        by : (o : Option ℕ) → option_and_then (element_event next.0 e) o ≡ option_and_then (element_event w e) o
        by None = refl
        by (Some q) = element_same e q silent

    moves_same : (k : ℕ) → k ≢ p → Some k ≢ put_into w event → moves_at next.0 k ≡ moves_at w k
    moves_same k ne other =
        ap (λ o. option_map_or (moves_of o) (slice_get next.0.pes k) no_moves) (stays.queues k ne other)
        ∙ ap (λ o. option_map_or (moves_of (slice_get w.queues k)) o no_moves) (stays.pes k ne)

    pub knows_rest : (c : ChoicesView) → Knows w c → KnowsBut next.0 c p (put_into w event) next.1
    knows_rest c knows =
        record {
          counted = knows.counted ∙ sym stays.count;
          pes = λ k ne other. knows.pes k ∙ sym (moves_same k ne other);
          elements = λ e silent. knows.elements e ∙ sym (ap is_some (event_same c.places e silent));
        }
