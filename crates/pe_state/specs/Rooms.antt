-- The elements that stand on a PE: each beside its index, in the order of these.
use Rattle.std.specs.Prelude.{◌≡◌, ℕ, List, [], ◌∷◌, Option, None, IfSome, MatchOption}
use Rattle.std.specs.Ordering.{nat_cmp}
use Rattle.std.specs.Map.{lookup, set_value, remove_entry}
use Rattle.std.specs.BTreeMap.{is_at, insert_entry}
use Rattle.std.specs.Option.{option_map_or}
use Rattle.chares.specs.declared.entry.Entry.{Entry}
use Rattle.chares.specs.declared.entry.Entry.TheVariants.{Letter, Resumption}
use Rattle.chares.specs.declared.note.Note.{Note}
use Rattle.chares.specs.declared.sends.SendError.{SendError}
use Rattle.chares.specs.declared.trace_entry.TraceEntry.{TraceEntry}
use Rattle.chares.specs.declared.trace_entry.TraceEntry.TheVariants.{Executed, Resumed}
use Rattle.chares.specs.Elements.{ElementView, Refuses, sent_by, note_of, ran}
use Rattle.chares.specs.Letters.{LetterView, Done}
use Rattle.chares.specs.Posting.{posts_of}
use Rattle.chares.specs.Steps.{Step}

module _ {X : Type 0} where
  -- the element with this index
  abbrev pub found : ℕ → List (ℕ × X) → Option X
  found e room = lookup (is_at (nat_cmp e)) room

  -- the room with another value for that element
  abbrev pub changed : ℕ → X → List (ℕ × X) → List (ℕ × X)
  changed e x room = set_value (is_at (nat_cmp e)) room x

  -- the room with one more element
  abbrev pub joined : ℕ → X → List (ℕ × X) → List (ℕ × X)
  joined e x room = insert_entry nat_cmp room e x

  -- the room without that element
  abbrev pub without : ℕ → List (ℕ × X) → List (ℕ × X)
  without e room = remove_entry (is_at (nat_cmp e)) room

-- each element stands beside its own index
abbrev pub IsKeyed : {C : Type 0} → List (ℕ × ElementView C) → Type 0
IsKeyed room = (e : ℕ) → IfSome (found e room) (λ el. el.index ≡ e)

-- An element of the room, among n on all PEs, handles one more entry on this PE. Where it does not stand there nothing
-- comes of it.
module _ {C : Type 0} (step : Step C) (pack : C → List ℕ) where
  -- the room after it
  abbrev pub ran_in : List (ℕ × ElementView C) → ℕ → ℕ → ℕ → Done → List (ℕ × ElementView C)
  ran_in room e n pe done = option_map_or (λ el. changed e (ran step pack el n pe done) room) (found e room) room

  -- what its handler sends
  abbrev pub sends_in : List (ℕ × ElementView C) → ℕ → ℕ → Done → List (ℕ × List ℕ)
  sends_in room e n done = option_map_or (λ el. sent_by step pack el n done) (found e room) []

  -- what the trace gets where it executes a letter, and where it is resumed after a round, on a PE that has posted this many
  -- letters
  abbrev pub execution_entries : List (ℕ × ElementView C) → ℕ → ℕ → ℕ → LetterView → List TraceEntry
  execution_entries room n me count l = Executed l.id l.to ∷ posts_of me count (sends_in room l.to n (Letter l))

  abbrev pub resumption_entries : List (ℕ × ElementView C) → ℕ → ℕ → ℕ → ℕ → ℕ → List TraceEntry
  resumption_entries room e n me count round = Resumed e round ∷ posts_of me count (sends_in room e n (Resumption round))

  -- the note that is owed for it
  abbrev pub note_in : List (ℕ × ElementView C) → ℕ → ℕ → ℕ → Done → Option Note
  note_in room e n pe done = option_map_or (λ el. note_of step pack el n pe done) (found e room) None

-- the handler of an element of the room may return this error
abbrev pub RefusesIn : {C : Type 0} → Refuses C → List (ℕ × ElementView C) → ℕ → ℕ → ℕ → Entry (List ℕ) → SendError → Type 0
RefusesIn refuses room e n count input error = MatchOption (found e room) ⊥ (λ el. refuses el.chare el.index n count input error)
