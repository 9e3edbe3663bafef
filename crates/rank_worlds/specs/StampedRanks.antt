-- Ranks that keep the rules of stamped runs. What a rank sends carries the round that the rank knows. It looks for an element in its own room,
-- and then at the place after that round; it receives nothing that was sent by one who knew a later round; and it lets elements depart and
-- go on only after rounds that it knows.
use Rattle.std.specs.Prelude.{◌≡◌, ℕ, ◌≤◌, List, [], ◌∷◌, ◌++◌, length, map, replicate, Some, IfSome, IsSomeAnd, ◌==◌, if◌then◌else◌, slice_get, slice_set}
use Rattle.sync_board.specs.Boards.{BoardState}
use Rattle.sync_board.specs.declared.strategy.Strategy.{Strategy}
use Rattle.chares.specs.declared.trace_entry.TraceEntry.{TraceEntry}
use Rattle.foreign_chare.specs.Scripts.{Stamp}
use Rattle.overtaking_laws.specs.StampedRuns.{Stamped, StampedView, seen_words}
use Rattle.pe_state.specs.Pes.{PeView, Parcel, front_address, front_parcel, waits_at}
use Rattle.rank_calls.specs.Runs.{Run}
use Rattle.rank_calls.specs.declared.request.Reply.{Reply}
use Rattle.rank_calls.specs.declared.request.Request.{Request}
use Rattle.rank_ledgers.specs.Ranks.{done_by}
use Rattle.rank_worlds.specs.LateNotes.{ArePesOf, BoardTakes, IsAnsweredLate, IsDecidedLate, NotingRank, Ranks, opening_late}
use Rattle.rts_core.specs.Calls.{Call, Receive, Send, Depart, Resume}

-- all ranks, the parcels that are under way to each with the rounds that their senders knew, the round that each rank knows, and the board
pub record StampedRanks (A : Type 0) : Type 0 where
  pub ranks : List NotingRank
  pub queues : List (List Stamped)
  pub known : ℕ → ℕ
  pub board : BoardState A

-- the ranks without the rounds that they know
abbrev pub without_rounds : {A : Type 0} → StampedRanks A → Ranks A
without_rounds s = record { ranks = s.ranks; queues = map (map (λ x. x.1)) s.queues; board = s.board }

-- what the handles have, as the PEs of a stamped run
abbrev pub handles_of : {A : Type 0} → StampedRanks A → StampedView Stamp A
handles_of s = record { pes = map (λ rank. rank.pe) s.ranks; queues = s.queues; known = s.known; board = s.board }

-- A call of rank p, whose PE is this before it, and which knows this round.
module _ (p known : ℕ) (pe : PeView Stamp) where
  -- A parcel that is under way to the rank comes to it, where its sender knew no later round; these are the queues then.
  pub record ComesInTime (queues : List (List Stamped)) (parcel : Parcel) (next : List (List Stamped)) : Type 0 where
    pub before : List Stamped
    pub stamp : ℕ
    pub after : List Stamped
    pub queued : slice_get queues p ≡ Some (before ++ (stamp, parcel) ∷ after)
    pub in_time : stamp ≤ known
    pub leads : next ≡ slice_set queues p (before ++ after)

  -- A parcel leaves for rank q with the round that is known, behind those that are under way to it; these are the queues then.
  pub record LeavesStamped (queues : List (List Stamped)) (q : ℕ) (parcel : Parcel) (next : List (List Stamped)) : Type 0 where
    pub queue : List Stamped
    pub queued : slice_get queues q ≡ Some queue
    pub leads : next ≡ slice_set queues q (queue ++ (known, parcel) ∷ [])

  -- what is carried, with the rounds that its senders knew
  abbrev pub IsCarriedInTime : List (List Stamped) → Call Stamp → List (List Stamped) → Type 0
  IsCarriedInTime queues (Receive parcel) next = ComesInTime queues parcel next
  IsCarriedInTime queues Send next = IsSomeAnd (front_address pe.outbox) (λ q. IsSomeAnd (front_parcel pe.outbox) (λ parcel. LeavesStamped queues q parcel next))
  IsCarriedInTime queues call next = next ≡ queues

  -- the rank knows the round for whose end an element waits that departs or goes on
  abbrev pub KnowsRoundOf : Call Stamp → Type 0
  KnowsRoundOf (Depart e q) = IfSome (waits_at pe e) (λ round. round ≤ known)
  KnowsRoundOf (Resume e r) = IfSome (waits_at pe e) (λ round. round ≤ known)
  KnowsRoundOf call = Unit {0}

-- what such ranks lead to, with the trace
abbrev pub AfterRanks : Type 0 → Type 0
AfterRanks A = StampedRanks A × List TraceEntry

abbrev pub late_after : {A : Type 0} → AfterRanks A → Ranks A × List TraceEntry
late_after next = (without_rounds next.0, next.1)

-- Rank p has asked its handle this and was answered so, as in any run of ranks, and has kept the rules; this leads on.
pub record IsAnsweredInTime {A : Type 0} (run : Run) (p : ℕ) (request : Request) (reply : Reply) (s : StampedRanks A) (next : AfterRanks A) : Type 0 where
  pub answered : IsAnsweredLate run (seen_words run.n run.pes (handles_of s) p) p request reply (without_rounds s) (late_after next)
  pub informed : KnowsRoundOf p (s.known p) answered.before.pe (done_by request reply)
  pub carried : IsCarriedInTime p (s.known p) answered.before.pe s.queues (done_by request reply) next.0.queues
  pub known : next.0.known ≡ s.known

-- What the board does moves nothing, and no rank knows of it yet.
pub record KeepsRounds {A : Type 0} (s next : StampedRanks A) : Type 0 where
  pub queues : next.queues ≡ s.queues
  pub known : next.known ≡ s.known

-- Rank p comes to know a round that is decided, and forgets none.
pub record ComesToKnow {A : Type 0} (p : ℕ) (s : StampedRanks A) (next : AfterRanks A) : Type 0 where
  pub round : ℕ
  pub later : s.known p ≤ round
  pub decided : round ≤ length s.board.rounds
  pub leads : next ≡ (record s { known = λ q. if q == p then round else s.known q }, [])

-- a step: a rank asks its handle this and is answered so; the board takes a note of a rank; it decides its round; or a rank comes to know a
-- round
pub data InTimeStep : Type 0 where
  Asks : ℕ → Request → Reply → InTimeStep
  Takes : ℕ → InTimeStep
  Decides : InTimeStep
  Learns : ℕ → InTimeStep

module _ {A : Type 0} (run : Run) where
  -- a step leads from what all ranks have to what they have then, with its trace entries
  abbrev pub LeadsInTime : StampedRanks A → InTimeStep → AfterRanks A → Type 0
  LeadsInTime s (Asks p request reply) next = IsAnsweredInTime run p request reply s next
  LeadsInTime s (Takes p) next = BoardTakes p (without_rounds s) (late_after next) × KeepsRounds s next.0
  LeadsInTime s Decides next = IsDecidedLate (without_rounds s) (late_after next) × KeepsRounds s next.0
  LeadsInTime s (Learns p) next = ComesToKnow p s next

  -- a list of them does, with the trace: the trace entries of its steps, in order
  abbrev pub ReachesInTime : StampedRanks A → List InTimeStep → AfterRanks A → Type 0
  ReachesInTime s [] last = last ≡ (s, [])
  ReachesInTime s (made ∷ steps) last =
      (first : AfterRanks A) × (rest : AfterRanks A) × LeadsInTime s made first × ReachesInTime first.0 steps rest × (last ≡ (rest.0, first.1 ++ rest.1))

-- all ranks as their handles open: nothing is under way, and no rank knows of a round
abbrev pub opening_in_time : {A : Type 0} → Run → Strategy → StampedRanks A
opening_in_time {A} run strategy =
    record {
      ranks = (opening_late {A = A} run strategy).ranks;
      queues = replicate run.pes [];
      known = λ p. 0;
      board = (opening_late {A = A} run strategy).board;
    }

-- What a stamped run leads to is that of all ranks: what is under way to the board is still owed by its PE.
pub record IsStampedOf {A : Type 0} (s : StampedRanks A) (t : StampedView Stamp A) : Type 0 where
  pub pes : ArePesOf s.ranks t.pes
  pub queues : t.queues ≡ s.queues
  pub known : t.known ≡ s.known
  pub board : t.board ≡ s.board
