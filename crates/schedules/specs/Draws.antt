-- Which event a seed draws, as docs/RUNS.md says: "How an event is drawn".
use Rattle.std.specs.Prelude.{◌≡◌, ℕ, zero, suc, ◌-◌, ◌*◌, ◌/◌, ◌==◌, List, [], ◌∷◌, length, map, sum_by, Option, None, Some, Bool, true, false, ◌&&◌, if◌then◌else◌, nat_lt, is_none, is_some, slice_get, slice_set, IfSome, Result}
use Rattle.std.specs.List.{filter_map, list_all, range_with_len}
use Rattle.std.specs.Option.{option_and_then, option_map_or}
use Rattle.sync_board.specs.Boards.{BoardState, place_in}
use Rattle.chares.specs.Elements.{ElementView}
use Rattle.chares.specs.Steps.{Step}
use Rattle.chares.specs.declared.carried.Carried.TheVariants as Carried
use Rattle.chares.specs.declared.trace_entry.TraceEntry.{TraceEntry}
use Rattle.chares.specs.declared.trace_entry.TraceEntry.TheVariants as Trace
use Rattle.courses.specs.Courses.{IsEnabled, Made}
use Rattle.lb_database.specs.Measuring.{elements}
use Rattle.pe_state.specs.Pes.{Item, Parcel, PeView, front_address, waits_for, wanted}
use Rattle.pe_state.specs.Rooms.{found}
use Rattle.pup_pack.specs.declared.error.PupError.{PupError}
use Rattle.rts_core.specs.Events.{Happens, pe_of, where_true}
use Rattle.rts_core.specs.Worlds.{WorldView}
use Rattle.rts_core.specs.declared.event.Event.{Event}
use Rattle.rts_core.specs.declared.event.Event.TheVariants as Happening
use Rattle.schedules.specs.Courses.{IsDone}
use Rattle.schedules.specs.Generators.{next_state, scaled}
use Rattle.schedules.specs.NumberSets.{those}
use Rattle.schedules.specs.declared.bias.Bias.{Bias}
use Rattle.schedules.specs.declared.bias.Kind.{Kind}
use Rattle.schedules.specs.declared.bias.Kind.TheVariants.{Look, Flush, Deliver, Act, Report, Element, Decide}
use Rattle.schedules.specs.declared.moves.Moves.{Moves}

-- no step that names no element
abbrev pub no_moves : Moves
no_moves = record { look = false; flush = false; deliver = false; act = false; report = false }

abbrev pub is_waiting : List Parcel → Bool
is_waiting [] = false
is_waiting (parcel ∷ queue) = true

module _ {C : Type 0} where
  -- it may act on what is in its hand: not on a letter whose element has not started, or that has to be looked up first
  abbrev pub may_act_on_letter : Option (ElementView C) → Option ℕ → Bool
  may_act_on_letter None address = is_some address
  may_act_on_letter (Some el) address = el.progress.started

  abbrev pub may_act_on_parcel : PeView C → Parcel → Option ℕ → Bool
  may_act_on_parcel pe (Carried.Element p) address = true
  may_act_on_parcel pe (Carried.Letter l) address = may_act_on_letter (found l.to pe.room) address

  abbrev pub may_act_on : PeView C → Option Item → Bool
  may_act_on pe None = false
  may_act_on pe (Some x) = may_act_on_parcel pe x.parcel x.address

  -- the moves of a PE before which these parcels wait, if it has a queue
  abbrev pub moves_of : Option (List Parcel) → PeView C → Moves
  moves_of queue pe =
      record {
        look = is_some (wanted pe);
        flush = is_some (front_address pe.outbox);
        deliver = option_map_or is_waiting queue false && is_none pe.hand;
        act = may_act_on pe pe.hand;
        report = is_some (slice_get pe.notes 0);
      }

-- the place of element e in the decision of a round, where the round is decided and the board knows the element
abbrev pub place_of : {A : Type 0} → BoardState A → ℕ → ℕ → Option ℕ
place_of b round e = where_true (nat_lt e (elements b.database)) (place_in b round e)

-- by which element e, on PE p, goes to its place q
abbrev pub goes_to : ℕ → ℕ → ℕ → Event
goes_to p e q = if q == p then Happening.Resume p e else Happening.Depart p e

-- whether every element has reported
abbrev pub are_reported : {A : Type 0} → BoardState A → Bool
are_reported b = list_all is_some b.database.reports

-- The elements on their PEs.
module _ {C A : Type 0} where
  -- the moves of PE p
  abbrev pub moves_at : WorldView C A → ℕ → Moves
  moves_at w p = option_map_or (moves_of (slice_get w.queues p)) (slice_get w.pes p) no_moves

  -- the event by which element e starts, departs from PE p or goes on there, if there is one: an element that has started waits for
  -- a round, and departs where its place in that round's decision is another PE
  abbrev pub element_goes : BoardState A → ℕ → ℕ → ElementView C → Option Event
  element_goes b p e el =
      if el.progress.started
      then option_and_then (λ round. option_and_then (λ q. Some (goes_to p e q)) (place_of b round e)) (waits_for el)
      else Some (Happening.Start p e)

  abbrev pub element_event : WorldView C A → ℕ → ℕ → Option Event
  element_event w e p = option_and_then (λ pe. option_and_then (element_goes w.board p e) (found e pe.room)) (slice_get w.pes p)

  -- that event, where each element is looked for on the PE on which it was last
  abbrev pub event_of : WorldView C A → List ℕ → ℕ → Option Event
  event_of w places e = option_and_then (element_event w e) (slice_get places e)

  -- The events of a kind that a draw is among, in order: by the number of the PE or of the element.
  abbrev pub by_pes : WorldView C A → (ℕ → Event) → (Moves → Bool) → List Event
  by_pes w event may = map event (those (λ p. may (moves_at w p)) (length w.pes))

  abbrev pub events_of : WorldView C A → List ℕ → Kind → List Event
  events_of w places Look = by_pes w Happening.Look (λ m. m.look)
  events_of w places Flush = by_pes w Happening.Flush (λ m. m.flush)
  events_of w places Deliver = by_pes w Happening.Deliver (λ m. m.deliver)
  events_of w places Act = by_pes w Happening.Act (λ m. m.act)
  events_of w places Report = by_pes w Happening.Report (λ m. m.report)
  events_of w places Element = filter_map (event_of w places) (range_with_len 0 (length places))
  events_of w places Decide = if are_reported w.board then Happening.Decide ∷ [] else []

-- the kinds, in the order in which a number that is drawn goes through them
abbrev pub kinds : List Kind
kinds = Look ∷ Flush ∷ Deliver ∷ Act ∷ Report ∷ Element ∷ Decide ∷ []

-- how much more likely the events of a kind are by a bias
abbrev pub factor : Bool → ℕ
factor biased = if biased then 16 else 1

abbrev pub weight : Bias → Kind → ℕ
weight bias Look = factor bias.letters_first * factor bias.stale_looks
weight bias Flush = factor bias.letters_first
weight bias Deliver = factor bias.letters_first
weight bias Act = factor bias.letters_first
weight bias Report = factor bias.moves_first
weight bias Element = factor bias.moves_first
weight bias Decide = factor bias.moves_first

-- an event of the PE that is starved
abbrev pub is_starved : Bias → Option Event → Bool
is_starved bias event = option_map_or (λ p. option_map_or (λ q. p == q) bias.starved false) (option_and_then pe_of event) false

-- With these events of each kind:
module _ (bias : Bias) (events : Kind → List Event) where
  abbrev pub share : Kind → ℕ
  share kind = weight bias kind * length (events kind)

  -- the event at a number, in the shares of these kinds
  abbrev pub picked : List Kind → ℕ → Option Event
  picked [] left = None
  picked (kind ∷ rest) left = if nat_lt left (share kind) then slice_get (events kind) (left / weight bias kind) else picked rest (left - share kind)

  -- what a draw gives from a state of the generator on, if there is any event, and the state after it
  abbrev pub drawn_once : ℕ → Option Event × ℕ
  drawn_once state =
      let total = sum_by share kinds in
      if total == 0 then (None, state) else (picked kinds (scaled state total), next_state state)

  -- a draw that is repeated while it gives an event of the starved PE, this many times at most
  abbrev pub drawn_in : ℕ → ℕ → Option Event × ℕ
  drawn_in zero state = drawn_once state
  drawn_in (suc times) state = if is_starved bias (drawn_once state).0 then drawn_in times (drawn_once state).1 else drawn_once state

-- Before a step: the state of the generator, the world, and the PE on which each element was last.
pub record Turn (C A : Type 0) : Type 0 where
  pub state : ℕ
  pub world : WorldView C A
  pub places : List ℕ

-- the event that is drawn, if there is one, and the state of the generator after it
unfoldable pub drawn : {C A : Type 0} → Bias → Turn C A → Option Event × ℕ
drawn bias at = drawn_in bias (events_of at.world at.places) 15 at.state

-- the PE on which each element was last, after a step of PE p with these trace entries
abbrev pub settled : ℕ → List ℕ → List TraceEntry → List ℕ
settled p places [] = places
settled p places (Trace.Installed e ∷ entries) = settled p (slice_set places e p) entries
settled p places (entry ∷ entries) = settled p places entries

abbrev pub places_after : List ℕ → Made → List ℕ
places_after places made = option_map_or (λ p. settled p places made.1) (pe_of made.0) places

module _ {C A : Type 0} (step : Step C) (pack : C → List ℕ) (unpack : List ℕ → Result (C × ℕ) PupError) (bias : Bias) where
  -- an event is the one that is drawn, where there is one and it is enabled
  abbrev pub IsChosen : Turn C A → Event → Type 0
  IsChosen at event = IfSome (drawn bias at).0 (λ chosen. IsEnabled step pack unpack at.world chosen → event ≡ chosen)

  -- none is drawn that is enabled, so that any event may follow
  abbrev pub AnyIsChosen : Turn C A → Type 0
  AnyIsChosen at = (event : Event) → IsChosen at event

  -- a step with the event that is drawn leads from one turn to the next; there is none once every element has finished and no letter
  -- is held
  pub record Draws (at : Turn C A) (made : Made) (next : Turn C A) : Type 0 where
    pub goes_on : ¬ (IsDone at.world)
    pub enabled : IsEnabled step pack unpack at.world made.0
    pub happens : Happens step pack unpack at.world made.0 (next.world, made.1)
    pub chosen : IsChosen at made.0
    pub state : next.state ≡ (drawn bias at).1
    pub places : next.places ≡ places_after at.places made

  -- so for each of these steps, one after another
  abbrev pub DrawsAll : Turn C A → List Made → Turn C A → Type 0
  DrawsAll at [] last = last ≡ at
  DrawsAll at (made ∷ rest) last = (next : Turn C A) × Draws at made next × DrawsAll next rest last
