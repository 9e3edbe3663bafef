-- Stamped runs: those of ranks that have copies of the location words, where a copy may be old, but is always that of one round. A
-- rank knows the places of the elements after a round that is decided, or those of the opening. It looks for an element in its own room
-- first, and then at the place after the round that it knows. What it sends carries the round that it knew then, and a rank takes in
-- nothing that was sent by one who knew a later round. So whoever takes a parcel in knows at least as much of where its element went as
-- whoever sent it. Source: the Charm++ manual, where objects move once a round is decided. That what is sent carries a round, and waits
-- in the queue until its receiver knows that round, is this project's choice.
use Rattle.std.specs.Prelude.{◌≡◌, ⊤, ℕ, zero, suc, ◌+◌, ◌≤◌, List, [], ◌∷◌, ◌++◌, length, map, replicate, None, Some, Option, Bool, false, is_some, Result, ◌==◌, if◌then◌else◌, unwrap_or, slice_get, slice_set}
use Rattle.std.specs.List.{range_with_len}
use Rattle.std.specs.Option.{option_map_or}
use Rattle.sync_board.specs.declared.strategy.Strategy.{Strategy}
use Rattle.sync_board.specs.Boards.{BoardState, new_board, place_in}
use Rattle.chares.specs.declared.trace_entry.TraceEntry.{TraceEntry}
use Rattle.chares.specs.Steps.{Step}
use Rattle.pe_state.specs.Pes.{PeView, Parcel, front_address, front_parcel, gave_up, received, waits_at}
use Rattle.pe_state.specs.Rooms.{found}
use Rattle.pup_pack.specs.declared.error.PupError.{PupError}
use Rattle.rts_core.specs.declared.event.Event.{Event}
use Rattle.rts_core.specs.declared.event.Event.TheVariants.{Flush, Deliver, Depart, Resume}
use Rattle.rts_core.specs.Events.{After, Happens, pe_of}
use Rattle.rts_core.specs.Worlds.{WorldView, home, opening_pes}

-- ---- where the elements are to be after each round

-- the place of element e of n after a round, on this many PEs: before all rounds its home, and then its place in the decision of the
-- round; a round that is not decided leaves it where it is
abbrev pub place_after : {A : Type 0} → ℕ → ℕ → BoardState A → ℕ → ℕ → ℕ
place_after n pes b e zero = home e n pes
place_after n pes b e (suc r) = unwrap_or (place_in b (suc r) e) (place_after n pes b e r)

-- how many of the rounds up to this one move element e to another PE
abbrev pub moves_until : {A : Type 0} → ℕ → ℕ → BoardState A → ℕ → ℕ → ℕ
moves_until n pes b e zero = 0
moves_until n pes b e (suc r) = moves_until n pes b e r + (if place_after n pes b e r == place_after n pes b e (suc r) then 0 else 1)

-- ---- the ranks and what is under way

-- a parcel with the round that its sender knew
abbrev pub Stamped : Type 0
Stamped = ℕ × Parcel

-- the PEs, the parcels in the queue of each, front first, with the rounds that their senders knew, the round that each PE knows, and
-- the board
pub record StampedView (C A : Type 0) : Type 0 where
  pub pes : List (PeView C)
  pub queues : List (List Stamped)
  pub known : ℕ → ℕ
  pub board : BoardState A

-- as a run opens no rank knows of a round
abbrev pub opening_stamped : {C A : Type 0} → ℕ → List C → Strategy → StampedView C A
opening_stamped pes chares strategy =
    record {
      pes = opening_pes pes chares;
      queues = replicate pes [];
      known = λ p. 0;
      board = new_board (length chares) pes strategy;
    }

-- the world of that, with these location words
abbrev pub world_with : {C A : Type 0} → StampedView C A → List ℕ → WorldView C A
world_with s words = record { pes = s.pes; queues = map (map (λ x. x.1)) s.queues; words = words; board = s.board }

-- whether element e stands in the room of a PE
abbrev pub stands_on : {C : Type 0} → Option (PeView C) → ℕ → Bool
stands_on o e = option_map_or (λ pe. is_some (found e pe.room)) o false

-- where PE p of this many looks for each of n elements: on itself, as long as the element stands in its room, and otherwise at the place
-- after the round that the PE knows
abbrev pub seen_words : {C A : Type 0} → ℕ → ℕ → StampedView C A → ℕ → List ℕ
seen_words n pes s p = map (λ e. if stands_on (slice_get s.pes p) e then p else place_after n pes s.board e (s.known p)) (range_with_len 0 n)

-- the world as PE p sees it, with these location words
abbrev pub seen_by : {C A : Type 0} → ℕ → ℕ → StampedView C A → ℕ → WorldView C A
seen_by n pes s p = world_with s (seen_words n pes s p)

-- ---- steps

module _ {C A : Type 0} (p : ℕ) (s next : StampedView C A) where
  -- PE p puts the front of its outbox into the queue that it is addressed to, with the round that PE p knows
  pub record SendsStamped : Type 0 where
    pub pe : PeView C
    pub there : slice_get s.pes p ≡ Some pe
    pub parcel : Parcel
    pub front : front_parcel pe.outbox ≡ Some parcel
    pub q : ℕ
    pub goes_to : front_address pe.outbox ≡ Some q
    pub queue : List Stamped
    pub queued : slice_get s.queues q ≡ Some queue
    pub leads : next ≡ record s { pes = slice_set s.pes p (gave_up pe); queues = slice_set s.queues q (queue ++ (s.known p, parcel) ∷ []) }

  -- PE p, whose hand is empty, takes a parcel out of its queue into its hand, wherever in the queue it is, where its sender knew no later
  -- round than PE p does
  pub record TakesInTime : Type 0 where
    pub pe : PeView C
    pub there : slice_get s.pes p ≡ Some pe
    pub free : pe.hand ≡ None
    pub before : List Stamped
    pub parcel : Stamped
    pub after : List Stamped
    pub queued : slice_get s.queues p ≡ Some (before ++ parcel ∷ after)
    pub in_time : parcel.0 ≤ s.known p
    pub leads : next ≡ record s { pes = slice_set s.pes p (received pe parcel.1); queues = slice_set s.queues p (before ++ after) }

  -- PE p comes to know a round that is decided, and forgets none
  pub record LearnsRound : Type 0 where
    pub round : ℕ
    pub later : s.known p ≤ round
    pub decided : round ≤ length s.board.rounds
    pub leads : next ≡ record s { known = λ q. if q == p then round else s.known q }

-- an event that neither puts a parcel into a queue nor takes one out
abbrev pub KeepsQueues : Event → Type 0
KeepsQueues (Flush p) = ⊥
KeepsQueues (Deliver p) = ⊥
KeepsQueues event = ⊤

-- a PE knows the round for whose end an element of its room waits
abbrev pub KnowsTheRound : {C A : Type 0} → StampedView C A → ℕ → ℕ → Type 0
KnowsTheRound {C} s p e = (pe : PeView C) (round : ℕ) → slice_get s.pes p ≡ Some pe → waits_at pe e ≡ Some round → round ≤ s.known p

-- a PE lets an element depart or go on after no round that it does not know
abbrev pub IsInformed : {C A : Type 0} → StampedView C A → Event → Type 0
IsInformed s (Depart p e) = KnowsTheRound s p e
IsInformed s (Resume p e) = KnowsTheRound s p e
IsInformed s event = ⊤

-- the PE that makes an event; for a decision, which no PE makes, any
abbrev pub maker : Event → ℕ
maker event = unwrap_or (pe_of event) 0

-- a step of a stamped run: an event as its PE sees the world; or a PE puts a parcel into a queue, or takes one out, or comes to know
-- a round
pub data StampedStep : Type 0 where
  Makes : Event → StampedStep
  Sends : ℕ → StampedStep
  Takes : ℕ → StampedStep
  Learns : ℕ → StampedStep

-- what such steps lead to, with the trace
abbrev pub AfterStamped : Type 0 → Type 0 → Type 0
AfterStamped C A = StampedView C A × List TraceEntry

module _ {C A : Type 0} (step : Step C) (pack : C → List ℕ) (unpack : List ℕ → Result (C × ℕ) PupError) (n pes : ℕ) where
  -- a step leads from one to another, with its trace entries
  abbrev pub StepsTo : StampedView C A → StampedStep → AfterStamped C A → Type 0
  StepsTo s (Makes event) next =
      KeepsQueues event × IsInformed s event × (w : After C A) × Happens step pack unpack (seen_by n pes s (maker event)) event w
      × (next ≡ (record s { pes = w.0.pes; board = w.0.board }, w.1))
  StepsTo s (Sends p) next = SendsStamped p s next.0 × (next.1 ≡ [])
  StepsTo s (Takes p) next = TakesInTime p s next.0 × (next.1 ≡ [])
  StepsTo s (Learns p) next = LearnsRound p s next.0 × (next.1 ≡ [])

  -- a list of them does, with the trace: the trace entries of its steps, in order
  abbrev pub ReachesStamped : StampedView C A → List StampedStep → AfterStamped C A → Type 0
  ReachesStamped s [] last = last ≡ (s, [])
  ReachesStamped s (made ∷ steps) last =
      (first : AfterStamped C A) × (rest : AfterStamped C A) × StepsTo s made first × ReachesStamped first.0 steps rest × (last ≡ (rest.0, first.1 ++ rest.1))

module _ {C A : Type 0} (step : Step C) (pack : C → List ℕ) (unpack : List ℕ → Result (C × ℕ) PupError) where
  -- what holds of every stamped run: of the number of PEs, of the chares and the strategy that it opens with, and of all that its
  -- steps lead to, with the trace
  abbrev pub ForEachStampedRun : (ℕ → List C → Strategy → AfterStamped C A → Type 0) → Type 0
  ForEachStampedRun P = (pes : ℕ) (chares : List C) (strategy : Strategy) (steps : List StampedStep) (last : AfterStamped C A) → 1 ≤ pes
      → ReachesStamped step pack unpack (length chares) pes (opening_stamped pes chares strategy) steps last → P pes chares strategy last
