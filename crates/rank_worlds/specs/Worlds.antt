-- The handles of all ranks as the PEs of one world: which event a call is, and what it makes of the world.
use Rattle.std.specs.Prelude.{◌≡◌, ℕ, true, zero, suc, List, [], ◌∷◌, ◌++◌, Option, None, Some, IfSome, IsSomeAnd, slice_get, slice_set}
use Rattle.std.specs.Option.{option_map_or}
use Rattle.sync_board.specs.Boards.{BoardState, place_in}
use Rattle.chares.specs.declared.trace_entry.TraceEntry.{TraceEntry}
use Rattle.chares.specs.declared.trace_entry.TraceEntry.TheVariants.{Departed}
use Rattle.foreign_chare.specs.Scripts.{Stamp}
use Rattle.pe_state.specs.Pes.{PeView, Parcel, acting, front_address, front_parcel, resume_entries, trace_of, waits_at, wanted}
use Rattle.rank_calls.specs.Calls.{IsServed}
use Rattle.rank_calls.specs.Messages.{message_of}
use Rattle.rank_calls.specs.Runs.{Run, stamp_pack, stamp_unpack, step_in}
use Rattle.rank_calls.specs.declared.request.Reply.{Reply}
use Rattle.rank_calls.specs.declared.request.Reply.TheVariants.{Sent}
use Rattle.rank_calls.specs.declared.request.Request.{Request}
use Rattle.rank_ledgers.specs.Ranks.{done_by}
use Rattle.rts_core.specs.Calls.{Call, Receive, Look, Send, NoteDone, Act, Depart, Resume, Refused}
use Rattle.rts_core.specs.Events.{After, board_after, note_entries}
use Rattle.rts_core.specs.Worlds.{WorldView}
use Rattle.rts_core.specs.declared.event.Event.{Event}

-- the event that a call of rank p is; none where it was refused, or has shown something
abbrev pub event_of : ℕ → Call Stamp → Option Event
event_of p (Receive parcel) = Some (Event.Deliver p)
event_of p (Look q) = Some (Event.Look p)
event_of p Send = Some (Event.Flush p)
event_of p NoteDone = Some (Event.Report p)
event_of p Act = Some (Event.Act p)
event_of p (Depart e q) = Some (Event.Depart p e)
event_of p (Resume e zero) = Some (Event.Start p e)
event_of p (Resume e (suc r)) = Some (Event.Resume p e)
event_of p call = None

-- what it adds to the trace
abbrev pub entries_of : Run → PeView Stamp → Call Stamp → List TraceEntry
entries_of run pe NoteDone = option_map_or note_entries (slice_get pe.notes 0) []
entries_of run pe Act = trace_of (acting (step_in run) stamp_pack stamp_unpack pe)
entries_of run pe (Depart e q) = Departed e ∷ []
entries_of run pe (Resume e r) = resume_entries (step_in run) stamp_pack pe e r
entries_of run pe call = []

-- A parcel that is under way to rank p comes to it, wherever in the queue it is; these are the queues then.
pub record Comes (queues : List (List Parcel)) (p : ℕ) (parcel : Parcel) (next : List (List Parcel)) : Type 0 where
  pub before : List Parcel
  pub after : List Parcel
  pub queued : slice_get queues p ≡ Some (before ++ parcel ∷ after)
  pub leads : next ≡ slice_set queues p (before ++ after)

-- A parcel leaves for rank q, behind those that are under way to it; these are the queues then.
pub record Leaves (queues : List (List Parcel)) (q : ℕ) (parcel : Parcel) (next : List (List Parcel)) : Type 0 where
  pub queue : List Parcel
  pub queued : slice_get queues q ≡ Some queue
  pub leads : next ≡ slice_set queues q (queue ++ parcel ∷ [])

-- A call of rank p, whose PE is this before it.
module _ (p : ℕ) (pe : PeView Stamp) where
  -- What the program keeps to, where this is the board. By its copy of the location words a rank looks for an element. After a round it
  -- resumes an element whose place is here, as the board decided that round; and where the place is another rank, it lets the element
  -- depart to that.
  abbrev pub Follows : {A : Type 0} → BoardState A → List ℕ → Call Stamp → Type 0
  Follows b words (Look q) = IfSome (wanted pe) (λ e. slice_get words e ≡ Some q)
  Follows b words (Depart e q) = ¬ (q ≡ p) × IfSome (waits_at pe e) (λ r. place_in b r e ≡ Some q)
  Follows b words (Resume e (suc r)) = place_in b (suc r) e ≡ Some p
  Follows b words call = Unit {0}

  -- What is carried, where these are the queues: what a rank receives was under way to it, and what it gives up is, to where it goes. These
  -- are the queues then.
  abbrev pub IsCarried : List (List Parcel) → Call Stamp → List (List Parcel) → Type 0
  IsCarried queues (Receive parcel) next = Comes queues p parcel next
  IsCarried queues Send next = IsSomeAnd (front_address pe.outbox) (λ q. IsSomeAnd (front_parcel pe.outbox) (λ parcel. Leaves queues q parcel next))
  IsCarried queues call next = next ≡ queues

  -- the board takes the note that is done, and this is the board then
  abbrev pub IsNoted : {A : Type 0} → BoardState A → Call Stamp → BoardState A → Type 0
  IsNoted b NoteDone next = IsSomeAnd (slice_get pe.notes 0) (λ note. board_after b note ≡ Some next)
  IsNoted b call next = next ≡ b

-- The location words that a call leaves: the copy of the rank, in which an element that departs is where it goes. Where nothing was done
-- they are those of the world before.
abbrev pub words_after : List ℕ → List ℕ → Call Stamp → List ℕ
words_after old words (Depart e q) = slice_set words e q
words_after old words Refused = old
words_after old words call = words

-- Rank p, with this copy of the location words, has asked its handle this and was answered so, in a world; this leads to the next one,
-- with these trace entries. The PE of the rank becomes what the handle has, and no other PE changes.
pub record IsAnswered {A : Type 0} (run : Run) (words : List ℕ) (p : ℕ) (request : Request) (reply : Reply) (w : WorldView Stamp A) (next : After Stamp A) : Type 0 where
  pub before : PeView Stamp
  pub after : PeView Stamp
  pub there : slice_get w.pes p ≡ Some before
  pub served : IsServed run true before request reply true after
  pub follows : Follows p before w.board words (done_by request reply)
  pub queues : List (List Parcel)
  pub carried : IsCarried p before w.queues (done_by request reply) queues
  pub board : BoardState A
  pub noted : IsNoted p before w.board (done_by request reply) board
  pub leads : next ≡ (
    record { pes = slice_set w.pes p after; queues = queues; words = words_after w.words words (done_by request reply); board = board },
    entries_of run before (done_by request reply),
  )

-- A message that was given up for rank q is that of a parcel which is under way to it from then on, behind all others.
abbrev pub IsUnderWay : {A : Type 0} → WorldView Stamp A → Reply → WorldView Stamp A → Type 0
IsUnderWay w (Sent q bytes) next =
    (queue : List Parcel) × (parcel : Parcel) × (slice_get w.queues q ≡ Some queue) × (bytes.items ≡ message_of parcel)
    × (slice_get next.queues q ≡ Some (queue ++ parcel ∷ []))
IsUnderWay w reply next = Unit {0}
