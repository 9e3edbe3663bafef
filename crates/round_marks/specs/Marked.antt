-- When the marks of an element agree with the rounds that a board decided. Source: the Charm++ manual on load balancing,
-- where an element calls AtSync, is measured, and goes on in ResumeFromSync where it was migrated to. That an element keeps
-- a mark of each, and that every snapshot and every decision is kept, is this project's choice.
use Rattle.std.specs.Prelude.{◌≡◌, ℕ, ◌+◌, ◌-◌, ◌<◌, ◌≤◌, ◌==◌, List, length, All, count_by, slice_get, Option, None, Some, IfSome, MatchOption}
use Rattle.std.specs.List.{filter_map, range_with_len}
use Rattle.std.specs.List.Sorted.{IsStrictlyIncreasing}
use Rattle.sync_board.specs.Boards.{BoardState, kept_of, place_in}
use Rattle.chares.specs.declared.note.Mark.{Mark}
use Rattle.chares.specs.declared.note.Mark.TheVariants.{Synced, Resumed}
use Rattle.chares.specs.declared.note.Note.{Note}
use Rattle.chares.specs.declared.note.Note.TheVariants.{Sync, Finish}
use Rattle.lb_database.specs.Measuring.{elements}
use Rattle.lb_snapshot.specs.Measured.{Taken}

-- the round for which an element reached AtSync, where the mark is of that
abbrev pub round_reached : Mark → Option ℕ
round_reached (Synced (Sync i round units bytes pe)) = Some round
round_reached (Synced (Finish i)) = None
round_reached (Resumed round pe) = None

-- the rounds for which an element reached AtSync, in the order of its marks
abbrev pub rounds_reached : List Mark → List ℕ
rounds_reached marks = filter_map round_reached marks

-- how often it reached AtSync for this round
abbrev pub times_reached : ℕ → List Mark → ℕ
times_reached round marks = count_by (λ q. q == round) (rounds_reached marks)

-- the round after which an element was resumed, where the mark is of that; its start is the resumption after round 0
abbrev pub round_resumed : Mark → Option ℕ
round_resumed (Synced note) = None
round_resumed (Resumed round pe) = Some round

-- the rounds after which an element was resumed, in the order of its marks
abbrev pub rounds_resumed : List Mark → List ℕ
rounds_resumed marks = filter_map round_resumed marks

-- a snapshot has this load of element e, this packed size, and this PE
pub record IsMeasuredAs (taken : Taken) (e units bytes pe : ℕ) : Type 0 where
  pub load : slice_get taken.loads e ≡ Some units
  pub size : slice_get taken.sizes e ≡ Some (bytes, pe)

-- A note that element e waits for the end of a round is right: it names e, and where the round is decided, it says what the
-- round's snapshot has of e. Otherwise the round is the one under way, after the last that is decided, and nothing else is
-- required. A note that an element has finished is never kept as a mark.
abbrev pub IsSyncOf : {A : Type 0} → BoardState A → ℕ → Note → Type 0
IsSyncOf b e (Sync i round units bytes pe) =
    (i ≡ e) × MatchOption (kept_of b.rounds round) (round ≡ length b.rounds + 1) (λ kept. IsMeasuredAs kept.0 e units bytes pe)
IsSyncOf b e (Finish i) = ⊥

-- a mark of such a note is right; of a resumption this requires nothing
abbrev pub IsSyncMark : {A : Type 0} → BoardState A → ℕ → Mark → Type 0
IsSyncMark b e (Synced note) = IsSyncOf b e note
IsSyncMark b e (Resumed round pe) = Unit {0}

-- Element e, which opens on the PE `home`, may be resumed after this round on this PE: at its start, which is round 0,
-- at home, and after any other round, which is decided, at its place in the decision of that round.
pub record IsResumption {A : Type 0} (b : BoardState A) (e home round pe : ℕ) : Type 0 where
  pub start : round ≡ 0 → pe ≡ home
  pub place : 0 < round → place_in b round e ≡ Some pe

-- a mark of such a resumption is right; of the other marks this requires nothing
abbrev pub IsResumptionMark : {A : Type 0} → BoardState A → ℕ → ℕ → Mark → Type 0
IsResumptionMark b e home (Synced note) = Unit {0}
IsResumptionMark b e home (Resumed round pe) = IsResumption b e home round pe

-- an element whose last mark is of a resumption on a PE is in the room of that PE
abbrev pub StandsAsMarked : Option ℕ → Mark → Type 0
StandsAsMarked place (Synced note) = Unit {0}
StandsAsMarked place (Resumed round pe) = place ≡ Some pe

-- Element e reached AtSync for the decided rounds as their snapshots say: each mark of that says what the snapshot has;
-- there is exactly one for each round that is decided, and at most one for the round under way; and they are in the order of
-- the rounds.
pub record AreSynced {A : Type 0} (b : BoardState A) (e : ℕ) (marks : List Mark) : Type 0 where
  pub told : All (IsSyncMark b e) marks
  pub once : (round : ℕ) → 1 ≤ round → round ≤ length b.rounds → times_reached round marks ≡ 1
  pub once_at_most : times_reached (length b.rounds + 1) marks ≤ 1
  pub in_order : rounds_reached marks ≡ range_with_len 1 (length (rounds_reached marks))

-- The marks of element e agree with what a board decided. The element opens on the PE `home`, and is in the room of the PE
-- `place`, or is packed where there is none. It is one of the board's; it reached AtSync for each round as the round's
-- snapshot says; each resumption is where it may be, and after a later round than the one before, so that none comes twice;
-- and where the last mark is of a resumption, the element is there.
pub record AreMarked {A : Type 0} (b : BoardState A) (e home : ℕ) (place : Option ℕ) (marks : List Mark) : Type 0 where
  pub member : e < elements b.database
  pub synced : AreSynced b e marks
  pub resumed : All (IsResumptionMark b e home) marks
  pub resumed_in_order : IsStrictlyIncreasing (rounds_resumed marks)
  pub stands : IfSome (slice_get marks (length marks - 1)) (StandsAsMarked place)
