-- What a PE has posted and not yet put into a queue, and how a handler adds to it.
use Rattle.std.specs.Prelude.{◌≡◌, ℕ, ◌+◌, ◌<◌, ◌≤◌, List, [], ◌∷◌, ◌++◌, length, None, Bool, if◌then◌else◌}
use Rattle.chare_index.specs.declared.limits.TheConstants.Limits.{LETTERS}
use Rattle.chares.specs.declared.carried.Addressed.{Addressed}
use Rattle.chares.specs.declared.carried.Carried.{Carried}
use Rattle.chares.specs.declared.carried.Carried.TheVariants.{Letter}
use Rattle.chares.specs.declared.trace_entry.TraceEntry.{TraceEntry}
use Rattle.chares.specs.declared.trace_entry.TraceEntry.TheVariants.{Posted, Executed, Resumed}
use Rattle.chares.specs.declared.sends.SendError.{SendError}
use Rattle.chares.specs.declared.sends.SendError.TheVariants.{Stranger, TooLong, Worn, OutOfMemory}
use Rattle.chares.specs.Letters.{LetterView}

-- what waits in an outbox: a letter, or an element that P stands for, perhaps with the PE that it goes to
abbrev pub Out : Type 0 → Type 0
Out P = Addressed (Carried LetterView P)

-- a PE as a handler on it sees it: its number, how many elements there are, how many bytes a body may have, how many letters it has
-- posted, its outbox, whether a place of that is kept free, and where a trace is kept the entries of the event so far
pub record Posting (P : Type 0) : Type 0 where
  pub me : ℕ
  pub n : ℕ
  pub longest : ℕ
  pub count : ℕ
  pub outbox : List (Out P)
  pub spare : Bool
  pub tracing : Bool
  pub trace : List TraceEntry

-- more entries, where a trace is kept
abbrev pub traced : Bool → List TraceEntry → List TraceEntry → List TraceEntry
traced tracing trace more = if tracing then trace ++ more else trace

-- with one more entry of the trace
abbrev pub with_entry : {P : Type 0} → Posting P → TraceEntry → Posting P
with_entry p new = record p { trace = traced p.tracing p.trace (new ∷ []) }

-- the letter that is posted to an element as number k of a PE
abbrev pub letter_to : ℕ → ℕ → ℕ → List ℕ → LetterView
letter_to pe k to body = record { id = (pe, k); to = to; body = body; hops = 0 }

-- the letters of these sends, numbered upwards from k, without an address
abbrev pub letters_of : {P : Type 0} → ℕ → ℕ → List (ℕ × List ℕ) → List (Out P)
letters_of pe k [] = []
letters_of pe k (send ∷ sends) = record { parcel = Letter (letter_to pe k send.0 send.1); address = None } ∷ letters_of pe (k + 1) sends

-- their entries of the trace
abbrev pub posts_of : ℕ → ℕ → List (ℕ × List ℕ) → List TraceEntry
posts_of pe k [] = []
posts_of pe k (send ∷ sends) = Posted (pe, k) send.0 ∷ posts_of pe (k + 1) sends

-- with these sends posted
abbrev pub posted : {P : Type 0} → Posting P → List (ℕ × List ℕ) → Posting P
posted p sends =
    record {
      me = p.me;
      n = p.n;
      longest = p.longest;
      count = p.count + length sends;
      outbox = p.outbox ++ letters_of p.me p.count sends;
      spare = p.spare;
      tracing = p.tracing;
      trace = traced p.tracing p.trace (posts_of p.me p.count sends);
    }

-- with a letter that was executed, or an element that was resumed after a round, in the trace, and then these sends posted
abbrev pub with_execution : {P : Type 0} → Posting P → LetterView → List (ℕ × List ℕ) → Posting P
with_execution p l sends = posted (with_entry p (Executed l.id l.to)) sends

abbrev pub with_resumption : {P : Type 0} → Posting P → ℕ → ℕ → List (ℕ × List ℕ) → Posting P
with_resumption p e round sends = posted (with_entry p (Resumed e round)) sends

-- a letter is posted to an element of the array, with a body within the limit, while a letter number is left
pub record IsPost {P : Type 0} (p : Posting P) (to : ℕ) (body : List ℕ) : Type 0 where
  pub known : to < p.n
  pub short : length body ≤ p.longest
  pub numbered : p.count < LETTERS

-- any other is refused with the first of these reasons that applies
abbrev pub RefusesPut : {P : Type 0} → Posting P → ℕ → List ℕ → SendError → Type 0
RefusesPut p to body Stranger = p.n ≤ to
RefusesPut p to body TooLong = (to < p.n) × (p.longest < length body)
RefusesPut p to body Worn = (to < p.n) × (length body ≤ p.longest) × (p.count ≡ LETTERS)
RefusesPut p to body OutOfMemory = IsPost p to body
