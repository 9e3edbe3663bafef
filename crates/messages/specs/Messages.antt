-- Chares whose letters are messages of a type. Source: the Charm++ manual on entry methods, whose arguments are marshalled into a
-- message and unmarshalled where it is executed, and on broadcasts to a chare array. That a body which is no message changes nothing
-- is this project's choice.
use Rattle.std.specs.Prelude.{◌≡◌, ◌⊎◌, ◌<◌, ◌≤◌, ℕ, ◌+◌, ◌==◌, List, [], length, map, Option, None, Some, Result, Ok, Err, false, if◌then◌else◌}
use Rattle.std.specs.List.{range_with_len}
use Rattle.chare_index.specs.declared.limits.TheConstants.Limits.{LETTERS}
use Rattle.chares.specs.Posting.{IsPost, Posting}
use Rattle.chares.specs.Steps.{Outcome, Step}
use Rattle.chares.specs.declared.chare.Effect.{Effect}
use Rattle.chares.specs.declared.entry.Entry.{Entry}
use Rattle.chares.specs.declared.entry.Entry.TheVariants.{Letter, Resumption}
use Rattle.chares.specs.declared.sends.SendError.{SendError}
use Rattle.chares.specs.declared.sends.SendError.TheVariants.{Stranger, TooLong, Worn, OutOfMemory}
use Rattle.pup_pack.specs.declared.error.PupError.{PupError}

-- what a handler makes of a state S: the state after it, its effect, and the messages that it sends, each to an element
pub record MessageOutcome (S M : Type 0) : Type 0 where
  pub state : S
  pub effect : Effect
  pub sends : List (ℕ × M)

-- a step, from a state, the index of the element, the number of elements, and the message or resumption that it is given
abbrev pub MessageStep : Type 0 → Type 0 → Type 0
MessageStep S M = S → ℕ → ℕ → Entry M → MessageOutcome S M

-- a message is its pack, as a letter
abbrev pub letters : {M : Type 0} → (M → List ℕ) → List (ℕ × M) → List (ℕ × List ℕ)
letters pack sends = map (λ x. (x.0, pack x.1)) sends

-- one message to each of n elements, in the order of their indices
abbrev pub to_all : {M : Type 0} → ℕ → M → List (ℕ × M)
to_all n message = map (λ i. (i, message)) (range_with_len 0 n)

-- what was unpacked, where it took all of the bytes
abbrev pub whole : {M : Type 0} → ℕ → Result (M × ℕ) PupError → Option M
whole len (Ok x) = if x.1 == len then Some x.0 else None
whole len (Err e) = None

-- the message in a body, if it is the pack of one
abbrev pub message_in : {M : Type 0} → (List ℕ → Result (M × ℕ) PupError) → List ℕ → Option M
message_in unpack body = whole (length body) (unpack body)

module _ {S M : Type 0} (pack : M → List ℕ) (unpack : List ℕ → Result (M × ℕ) PupError) (step : MessageStep S M) where
  -- an outcome, with the messages as letters
  abbrev pub as_letters : MessageOutcome S M → Outcome S
  as_letters o = record { state = o.state; effect = o.effect; sends = letters pack o.sends }

  -- a body that is no message takes no work and changes nothing
  abbrev pub passed_over : S → Outcome S
  passed_over s = record { state = s; effect = record { units = 0; at_sync = false; finished = false }; sends = letters pack [] }

  abbrev pub on_message : S → ℕ → ℕ → Option M → Outcome S
  on_message s me n (Some message) = as_letters (step s me n (Letter message))
  on_message s me n None = passed_over s

  -- the step of a chare whose letters are packs of messages
  abbrev pub typed_step : Step S
  typed_step s me n (Letter body) = on_message s me n (message_in unpack body)
  typed_step s me n (Resumption round) = as_letters (step s me n (Resumption round))

-- When the handler of such a chare may return an error: from the state, the index of the element, the number of elements, how many
-- letters the PE has posted, and what the handler is given.
abbrev pub MessageRefuses : Type 0 → Type 0 → Type 1
MessageRefuses S M = S → ℕ → ℕ → ℕ → Entry M → SendError → Type 0

module _ {S M : Type 0} (unpack : List ℕ → Result (M × ℕ) PupError) (refuses : MessageRefuses S M) where
  abbrev pub RefusesMessage : S → ℕ → ℕ → ℕ → SendError → Option M → Type 0
  RefusesMessage s me n count error (Some message) = refuses s me n count (Letter message) error
  RefusesMessage s me n count error None = ⊥

  -- a body that is no message is refused only for want of memory
  abbrev pub TypedRefuses : S → ℕ → ℕ → ℕ → Entry (List ℕ) → SendError → Type 0
  TypedRefuses s me n count (Letter body) error = RefusesMessage s me n count error (message_in unpack body)
  TypedRefuses s me n count (Resumption round) error = refuses s me n count (Resumption round) error

-- a message is not packed where a list in it has too many items, or memory was refused
abbrev pub RefusesPack : Type 0 → SendError → Type 0
RefusesPack counted TooLong = ¬ counted
RefusesPack counted OutOfMemory = Unit {0}
RefusesPack counted _ = ⊥

-- a message that packs, whose pack is this body, is posted to an element as a letter is
pub record IsMessagePost {P : Type 0} (p : Posting P) (to : ℕ) (counted : Type 0) (body : List ℕ) : Type 0 where
  pub packs : counted
  pub posts : IsPost p to body

-- Any other is refused. The reasons come in this order, except that a list with too many items is found last.
abbrev pub RefusesMessagePost : {P : Type 0} → Posting P → ℕ → Type 0 → List ℕ → SendError → Type 0
RefusesMessagePost p to counted body Stranger = p.n ≤ to
RefusesMessagePost p to counted body TooLong = (to < p.n) × ((p.longest < length body) ⊎ ¬ counted)
RefusesMessagePost p to counted body Worn = (to < p.n) × (length body ≤ p.longest) × (p.count ≡ LETTERS)
RefusesMessagePost p to counted body OutOfMemory = IsPost p to body

-- a message that packs is posted to all elements while there are letter numbers for all
pub record IsBroadcast {P : Type 0} (p : Posting P) (counted : Type 0) (body : List ℕ) : Type 0 where
  pub packs : counted
  pub short : length body ≤ p.longest
  pub numbered : p.count + p.n ≤ LETTERS

-- any other is refused with the first of these reasons, except that a list with too many items is found last
abbrev pub RefusesBroadcast : {P : Type 0} → Posting P → Type 0 → List ℕ → SendError → Type 0
RefusesBroadcast p counted body Stranger = ⊥
RefusesBroadcast p counted body TooLong = (p.longest < length body) ⊎ ¬ counted
RefusesBroadcast p counted body Worn = (length body ≤ p.longest) × (LETTERS < p.count + p.n)
RefusesBroadcast p counted body OutOfMemory = (length body ≤ p.longest) × (p.count + p.n ≤ LETTERS)
