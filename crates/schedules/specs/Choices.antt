-- What is enabled, as the sets from which an event is drawn say it.
use Rattle.std.specs.Prelude.{◌≡◌, ◌≢◌, ℕ, ◌≤◌, List, [], ◌∷◌, length, Option, None, Some, Bool, if◌then◌else◌, is_some, slice_get}
use Rattle.chare_index.specs.declared.limits.TheConstants.Limits.{ELEMENTS, PES}
use Rattle.chares.specs.declared.trace_entry.TraceEntry.{TraceEntry}
use Rattle.chares.specs.declared.trace_entry.TraceEntry.TheVariants as Trace
use Rattle.pe_state.specs.Pes.{PeView, front_address}
use Rattle.rts_core.specs.Events.{pe_of}
use Rattle.rts_core.specs.Worlds.{WorldView}
use Rattle.rts_core.specs.declared.event.Event.{Event}
use Rattle.rts_core.specs.declared.event.Event.TheVariants as Happening
use Rattle.std.specs.Option.{option_and_then}
use Rattle.schedules.specs.Draws.{Turn, are_reported, event_of, moves_at}
use Rattle.schedules.specs.NumberSets.{has, members}
use Rattle.schedules.specs.declared.bias.Bias.{Bias}
use Rattle.schedules.specs.declared.bias.Kind.{Kind}
use Rattle.schedules.specs.declared.bias.Kind.TheVariants as Kinds
use Rattle.schedules.specs.declared.moves.Moves.{Moves}

-- the PEs that may make each of these steps, the elements that have an event, the PE on which each element was last, and whether
-- every element has reported
pub record ChoicesView : Type 0 where
  pub looks : List Bool
  pub flushes : List Bool
  pub delivers : List Bool
  pub acts : List Bool
  pub reports : List Bool
  pub elements : List Bool
  pub places : List ℕ
  pub decides : Bool

-- the steps that PE p may make
abbrev pub moves_in : ChoicesView → ℕ → Moves
moves_in c p =
    record { look = has c.looks p; flush = has c.flushes p; deliver = has c.delivers p; act = has c.acts p; report = has c.reports p }

-- there is a flag for each PE, and one for each element
pub record AreFlags (c : ChoicesView) : Type 0 where
  pub flushes : length c.flushes ≡ length c.looks
  pub delivers : length c.delivers ≡ length c.looks
  pub acts : length c.acts ≡ length c.looks
  pub reports : length c.reports ≡ length c.looks
  pub elements : length c.elements ≡ length c.places
  pub few : length c.looks ≤ PES
  pub few_elements : length c.places ≤ ELEMENTS

-- the numbers in the set of a kind, in order
abbrev pub numbers_in : ChoicesView → Kind → List ℕ
numbers_in c Kinds.Look = members c.looks
numbers_in c Kinds.Flush = members c.flushes
numbers_in c Kinds.Deliver = members c.delivers
numbers_in c Kinds.Act = members c.acts
numbers_in c Kinds.Report = members c.reports
numbers_in c Kinds.Element = members c.elements
numbers_in c Kinds.Decide = if c.decides then 0 ∷ [] else []

-- the PE into whose queue an event of a PE, or of a world, puts a parcel
abbrev pub put_to : {C : Type 0} → Event → PeView C → Option ℕ
put_to (Happening.Flush p) pe = front_address pe.outbox
put_to event pe = None

abbrev pub put_into : {C A : Type 0} → WorldView C A → Event → Option ℕ
put_into w event = option_and_then (λ p. option_and_then (put_to event) (slice_get w.pes p)) (pe_of event)

-- the element that has another event perhaps, after a step with this entry
abbrev pub named : TraceEntry → Option ℕ
named (Trace.Executed id e) = Some e
named (Trace.Installed e) = Some e
named (Trace.Resumed e round) = Some e
named (Trace.Departed e) = Some e
named entry = None

-- no entry names element e
abbrev pub AreSilent : ℕ → List TraceEntry → Type 0
AreSilent e [] = Unit {0}
AreSilent e (entry ∷ entries) = (named entry ≢ Some e) × AreSilent e entries

module _ {C A : Type 0} (w : WorldView C A) (c : ChoicesView) where
  -- whether element e has an event is known
  abbrev pub KnowsElement : ℕ → Type 0
  KnowsElement e = has c.elements e ≡ is_some (event_of w c.places e)

  -- what is enabled is known of each PE but PE p and perhaps one more, and of each element that no entry names
  pub record KnowsBut (p : ℕ) (q : Option ℕ) (entries : List TraceEntry) : Type 0 where
    pub counted : length c.looks ≡ length w.pes
    pub pes : (k : ℕ) → k ≢ p → Some k ≢ q → moves_in c k ≡ moves_at w k
    pub elements : (e : ℕ) → AreSilent e entries → KnowsElement e

  -- what is enabled is known
  pub record Knows : Type 0 where
    pub counted : length c.looks ≡ length w.pes
    pub pes : (k : ℕ) → moves_in c k ≡ moves_at w k
    pub elements : (e : ℕ) → KnowsElement e
    pub decides : c.decides ≡ are_reported w.board

-- a chooser: the state of its generator, its bias, and what is enabled
pub record ChooserView : Type 0 where
  pub state : ℕ
  pub bias : Bias
  pub choices : ChoicesView

-- before a step in this world
abbrev pub turn_of : {C A : Type 0} → WorldView C A → ChooserView → Turn C A
turn_of w chooser = record { state = chooser.state; world = w; places = chooser.choices.places }
