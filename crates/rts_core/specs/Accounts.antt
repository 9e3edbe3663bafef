-- The account of a run: where each letter is that was posted, and which element executes it.
use Rattle.std.specs.Prelude.{◌≡◌, ℕ, ◌+◌, ◌<◌, ◌≤◌, List, [], ◌∷◌, length, sum_by, Bool, ◌&&◌, ◌==◌, if◌then◌else◌}
use Rattle.std.specs.List.{flat_map}
use Rattle.chares.specs.declared.trace_entry.TraceEntry.{TraceEntry}
use Rattle.chares.specs.declared.trace_entry.TraceEntry.TheVariants as Trace
use Rattle.chares.specs.Letters.{LetterView}
use Rattle.chares.specs.Steps.{Step}
use Rattle.rts_core.specs.Places.{letters, lives, journaled, sends}
use Rattle.rts_core.specs.Worlds.{WorldView}

-- how many members of a list pass a test
abbrev pub times : {X : Type 0} → (X → Bool) → List X → ℕ
times test xs = sum_by (λ x. if test x then 1 else 0) xs

-- what a trace says of a letter: its number, and an element
abbrev pub Said : Type 0
Said = (ℕ × ℕ) × ℕ

abbrev pub post_of : TraceEntry → List Said
post_of (Trace.Posted id to) = (id, to) ∷ []
post_of r = []

abbrev pub execution_of : TraceEntry → List Said
execution_of (Trace.Executed id e) = (id, e) ∷ []
execution_of r = []

-- the posts and the executions of a trace
abbrev pub posts : List TraceEntry → List Said
posts trace = flat_map post_of trace

abbrev pub executions : List TraceEntry → List Said
executions trace = flat_map execution_of trace

-- whether this is a number
abbrev pub is_number : ℕ × ℕ → ℕ × ℕ → Bool
is_number id x = (x.0 == id.0) && (x.1 == id.1)

-- whether this was said of a letter with this number, and whether of that letter and this element
abbrev pub says_number : ℕ × ℕ → Said → Bool
says_number id x = is_number id x.0

abbrev pub says_both : ℕ × ℕ → ℕ → Said → Bool
says_both id e x = is_number id x.0 && (x.1 == e)

-- The account of a world of n elements that was reached with a trace: a letter number is in the places and among the
-- executions as often as it was posted, and that is at most once; where it was executed by an element it was posted
-- to this element; and each element is in exactly one place.
pub record Accounted {C A : Type 0} (n : ℕ) (w : WorldView C A) (trace : List TraceEntry) : Type 0 where
  pub once : (id : ℕ × ℕ) → times (λ l. is_number id l.id) (letters w) + times (says_number id) (executions trace) ≡ times (says_number id) (posts trace)
  pub at_most_once : (id : ℕ × ℕ) → times (says_number id) (posts trace) ≤ 1
  pub own : (id : ℕ × ℕ) (e : ℕ) → times (says_both id e) (executions trace) ≤ times (says_both id e) (posts trace)
  pub stands : (e : ℕ) → e < n → times (λ x. x.0 == e) (lives w) ≡ 1

-- what a letter says, without its number
abbrev pub message : LetterView → ℕ × List ℕ
message l = (l.to, l.body)

-- As multisets of target and body, what the elements of a world have sent is the letters in places together with those
-- in journals: by any weight of target and body, the sums agree.
abbrev pub AreSent : {C A : Type 0} → Step C → List C → WorldView C A → Type 0
AreSent step opened w =
    (weight : ℕ × List ℕ → ℕ)
    → sum_by weight (sends step opened w) ≡ sum_by (λ l. weight (message l)) (letters w) + sum_by (λ l. weight (message l)) (journaled w)

-- how many letters the PEs of a world have posted
abbrev pub posted_count : {C A : Type 0} → WorldView C A → ℕ
posted_count w = sum_by (λ pe. pe.count) w.pes

-- how many letters were executed, and how many are held in places
abbrev pub executed_count : {C A : Type 0} → WorldView C A → ℕ
executed_count w = length (journaled w)

abbrev pub held_count : {C A : Type 0} → WorldView C A → ℕ
held_count w = length (letters w)

-- every letter that the PEs of a world have posted is held, or was executed
abbrev pub IsCounted : {C A : Type 0} → WorldView C A → Type 0
IsCounted w = posted_count w ≡ executed_count w + held_count w

-- A trace agrees with what a world counts: as many letters were posted as it has posts, and as many executed as it has
-- executions; and a letter number is in journals as often as the trace says that it was executed.
pub record IsTraced {C A : Type 0} (w : WorldView C A) (trace : List TraceEntry) : Type 0 where
  pub posted : posted_count w ≡ length (posts trace)
  pub executed : executed_count w ≡ length (executions trace)
  pub journals : (id : ℕ × ℕ) → times (λ l. is_number id l.id) (journaled w) ≡ times (says_number id) (executions trace)
