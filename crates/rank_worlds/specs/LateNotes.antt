-- Ranks whose notes are messages. A rank says that a note is done where it has given the note up, and the board takes it later. Source: the
-- MPI standard on the order of point-to-point messages, by which the notes of one rank come to the board in the order in which they were
-- sent.
use Rattle.std.specs.Prelude.{◌≡◌, ℕ, true, List, [], ◌∷◌, ◌++◌, map, replicate, Some, slice_get, slice_set, take}
use Rattle.std.specs.List.{range_with_len}
use Rattle.sync_board.specs.Boards.{BoardState, new_board}
use Rattle.sync_board.specs.declared.strategy.Strategy.{Strategy}
use Rattle.chares.specs.declared.note.Note.{Note}
use Rattle.chares.specs.declared.trace_entry.TraceEntry.{TraceEntry}
use Rattle.foreign_chare.specs.Scripts.{Stamp}
use Rattle.pe_state.specs.Pes.{PeView, Parcel}
use Rattle.rank_calls.specs.Calls.{IsServed}
use Rattle.rank_calls.specs.Runs.{Run, opened}
use Rattle.rank_calls.specs.declared.request.Reply.{Reply}
use Rattle.rank_calls.specs.declared.request.Request.{Request}
use Rattle.rank_ledgers.specs.Ranks.{done_by}
use Rattle.rank_worlds.specs.Worlds.{Follows, IsCarried, entries_of}
use Rattle.rts_core.specs.Calls.{Call, NoteDone}
use Rattle.rts_core.specs.Events.{IsDecision, board_after, note_entries}
use Rattle.rts_core.specs.Worlds.{WorldView}

-- a rank: what its handle has, and its notes that are under way to the board, the first sent first
pub record NotingRank : Type 0 where
  pub pe : PeView Stamp
  pub notes : List Note

-- all ranks, the parcels that are under way to each, and the board
pub record Ranks (A : Type 0) : Type 0 where
  pub ranks : List NotingRank
  pub queues : List (List Parcel)
  pub board : BoardState A

-- a step: a rank, with its copy of the location words then, asks its handle this and is answered so; the board takes a note of a rank; or
-- it decides its round
pub data LateStep : Type 0 where
  Asks : List ℕ → ℕ → Request → Reply → LateStep
  Takes : ℕ → LateStep
  Decides : LateStep

-- the notes of a rank that are under way after a call, and the trace entries of the call: those of a note come as the board takes it
abbrev pub notes_after : NotingRank → Call Stamp → List Note
notes_after rank NoteDone = rank.notes ++ take 1 rank.pe.notes
notes_after rank call = rank.notes

abbrev pub late_entries : Run → PeView Stamp → Call Stamp → List TraceEntry
late_entries run pe NoteDone = []
late_entries run pe call = entries_of run pe call

-- Rank p, with this copy of the location words, has asked its handle this and was answered so; this leads on, with these trace entries.
pub record IsAnsweredLate {A : Type 0} (run : Run) (words : List ℕ) (p : ℕ) (request : Request) (reply : Reply) (r : Ranks A) (next : Ranks A × List TraceEntry) : Type 0 where
  pub before : NotingRank
  pub after : PeView Stamp
  pub there : slice_get r.ranks p ≡ Some before
  pub served : IsServed run true before.pe request reply true after
  pub follows : Follows p before.pe r.board words (done_by request reply)
  pub queues : List (List Parcel)
  pub carried : IsCarried p before.pe r.queues (done_by request reply) queues
  pub leads : next ≡ (
    record {
      ranks = slice_set r.ranks p (record { pe = after; notes = notes_after before (done_by request reply) });
      queues = queues;
      board = r.board;
    },
    late_entries run before.pe (done_by request reply),
  )

-- The board takes the first note that is under way from rank p.
pub record BoardTakes {A : Type 0} (p : ℕ) (r : Ranks A) (next : Ranks A × List TraceEntry) : Type 0 where
  pub rank : NotingRank
  pub there : slice_get r.ranks p ≡ Some rank
  pub note : Note
  pub rest : List Note
  pub first : rank.notes ≡ note ∷ rest
  pub board : BoardState A
  pub takes : board_after r.board note ≡ Some board
  pub leads : next ≡ (record { ranks = slice_set r.ranks p (record { pe = rank.pe; notes = rest }); queues = r.queues; board = board }, note_entries note)

-- The board decides its round, for which every element has reported.
pub record IsDecidedLate {A : Type 0} (r : Ranks A) (next : Ranks A × List TraceEntry) : Type 0 where
  pub decides : IsDecision r.board next.0.board next.1
  pub leads : next.0 ≡ record r { board = next.0.board }

module _ {A : Type 0} (run : Run) where
  -- a list of such steps leads from what all ranks have to what they have then, with the trace: the trace entries of its steps, in order
  abbrev pub ReachesLate : Ranks A → List LateStep → Ranks A × List TraceEntry → Type 0
  ReachesLate r [] last = last ≡ (r, [])
  ReachesLate r (Asks words p request reply ∷ steps) last =
      (first : Ranks A × List TraceEntry) × (rest : Ranks A × List TraceEntry) × IsAnsweredLate run words p request reply r first
      × ReachesLate first.0 steps rest × (last ≡ (rest.0, first.1 ++ rest.1))
  ReachesLate r (Takes p ∷ steps) last =
      (first : Ranks A × List TraceEntry) × (rest : Ranks A × List TraceEntry) × BoardTakes p r first × ReachesLate first.0 steps rest × (last ≡ (rest.0, first.1 ++ rest.1))
  ReachesLate r (Decides ∷ steps) last =
      (first : Ranks A × List TraceEntry) × (rest : Ranks A × List TraceEntry) × IsDecidedLate r first × ReachesLate first.0 steps rest
      × (last ≡ (rest.0, first.1 ++ rest.1))

-- A PE is what the handle has, with two exceptions: it still owes the notes that are under way, and the address that it keeps, of what it gave
-- up last, may be another.
abbrev pub IsPeOf : NotingRank → PeView Stamp → Type 0
IsPeOf rank pe = pe ≡ record (rank.pe) { notes = rank.notes ++ rank.pe.notes; kept = pe.kept }

abbrev pub ArePesOf : List NotingRank → List (PeView Stamp) → Type 0
ArePesOf [] [] = Unit {0}
ArePesOf [] (pe ∷ pes) = ⊥
ArePesOf (rank ∷ ranks) [] = ⊥
ArePesOf (rank ∷ ranks) (pe ∷ pes) = IsPeOf rank pe × ArePesOf ranks pes

-- A world is that of all ranks: what is under way to the board is still owed by its PE. Its location words may be any, since each rank has a
-- copy of its own.
pub record IsWorldOf {A : Type 0} (r : Ranks A) (w : WorldView Stamp A) : Type 0 where
  pub pes : ArePesOf r.ranks w.pes
  pub queues : w.queues ≡ r.queues
  pub board : w.board ≡ r.board

-- all ranks as their handles open: nothing is under way, and the board, which decides by this strategy, is new
abbrev pub opening_late : {A : Type 0} → Run → Strategy → Ranks A
opening_late run strategy =
    record {
      ranks = map (λ me. record { pe = opened run.pes run.n me; notes = [] }) (range_with_len 0 run.pes);
      queues = replicate run.pes [];
      board = new_board run.n run.pes strategy;
    }
