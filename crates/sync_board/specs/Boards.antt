-- The board of a chare array: where the reports of a round meet, where the decision of each round is kept, and who
-- has finished. Source: the Charm++ manual on load balancing at AtSync. An element that reaches AtSync waits; once
-- all wait, one decision says where each runs next. That every decision is kept, and that elements say when they
-- have finished, is this project's choice.
use Rattle.std.specs.Prelude.{◌≡◌, ℕ, zero, suc, ◌+◌, ◌<◌, ◌≤◌, Bool, true, false, List, [], ◌∷◌, ◌++◌, length, All, replicate, slice_get, slice_set, Option, None, Some, IfSome, IsTrue}
use Rattle.std.specs.Option.{option_map}
use Rattle.chare_index.specs.declared.limits.TheConstants.Limits.{PES, ROUND}
use Rattle.lb_snapshot.specs.Measured.{Taken}
use Rattle.lb_database.specs.Measuring.{Measured, IsComplete, IsSnapshotOf, StandBelow, elements, opening, with_charge, with_report}
use Rattle.lb_strategy.specs.Moves.{planned_pe}
use Rattle.lb_strategy.specs.declared.decision.Decision.{Decision}
use Rattle.lb_refinement.specs.declared.nearness.Nearness.{Nearness}
use Rattle.sync_board.specs.Strategies.{AreProved, IsDecidedBy, PlacesAll}
use Rattle.sync_board.specs.declared.strategy.Strategy.{Strategy}

-- what is kept of a round: the snapshot of what was reported, and the decision made for it
abbrev pub Kept : Type 0 → Type 0
Kept A = Taken × Decision A

-- what a board holds: on how many PEs the elements run, how rounds are decided, what was measured so far in the present
-- round, what was kept of each round before it, in order, what proves each of these decisions, and of each element whether it has
-- finished
pub record BoardState (A : Type 0) : Type 0 where
  pub pes : ℕ
  pub strategy : Strategy
  pub database : Measured
  pub rounds : List (Kept A)
  pub nearness : List (Nearness A)
  pub finished : List Bool

-- what a list has for round r: rounds are numbered from 1
abbrev pub item_of : {X : Type 0} → List X → ℕ → Option X
item_of items zero = None
item_of items (suc r) = slice_get items r

-- what was kept of round r
abbrev pub kept_of : {A : Type 0} → List (Kept A) → ℕ → Option (Kept A)
kept_of rounds r = item_of rounds r

-- the decision of round r
abbrev pub decision_of : {A : Type 0} → BoardState A → ℕ → Option (Decision A)
decision_of b r = option_map (λ kept. kept.1) (kept_of b.rounds r)

-- what proves the decision of round r
abbrev pub nearness_of : {A : Type 0} → BoardState A → ℕ → Option (Nearness A)
nearness_of b r = item_of b.nearness r

-- the place of element e in the decision of round r, if that is decided
abbrev pub place_in : {A : Type 0} → BoardState A → ℕ → ℕ → Option ℕ
place_in b r e = option_map (λ d. planned_pe d.division.cuts d.naming e) (decision_of b r)

-- a new board for n elements: in round 1, nothing reported or decided, and nobody has finished
abbrev pub new_board : {A : Type 0} → ℕ → ℕ → Strategy → BoardState A
new_board n pes strategy =
    record { pes = pes; strategy = strategy; database = opening 1 n; rounds = []; nearness = []; finished = replicate n false }

-- after the report of element i with the units of its round, which are charged in the same step
abbrev pub after_report : {A : Type 0} → BoardState A → ℕ → ℕ → ℕ → ℕ → BoardState A
after_report b i units bytes pe =
    record b { database = with_charge (with_report b.database i bytes pe) i units }

-- after element i has finished
abbrev pub after_finish : {A : Type 0} → BoardState A → ℕ → BoardState A
after_finish b i = record b { finished = slice_set b.finished i true }

-- after the round is decided: what is kept of it comes last in the lists, and the next round begins
abbrev pub after_decision : {A : Type 0} → BoardState A → Kept A → Nearness A → BoardState A
after_decision b kept near = record b {
  database = opening (b.database.round + 1) (elements b.database);
  rounds = b.rounds ++ kept ∷ [];
  nearness = b.nearness ++ near ∷ [];
}

-- What is kept of round r is right: the snapshot is one of all n elements on pes PEs, taken at step r, and the decision is
-- what the strategy decides for it, so that each element has a place.
pub record IsDecided {A : Type 0} (n pes : ℕ) (strategy : Strategy) (r : ℕ) (kept : Kept A) : Type 0 where
  pub at_step : kept.0.step ≡ r
  pub on_pes : kept.0.procs ≡ pes
  pub of_all : length kept.0.loads ≡ n
  pub by_strategy : (near : Nearness A) × IsDecidedBy strategy kept.0.loads kept.0.sizes pes kept.1 near
  pub placed : PlacesAll kept.0.loads kept.0.sizes pes kept.1

-- what is kept of each round is right
abbrev pub AreDecided : {A : Type 0} → ℕ → ℕ → Strategy → List (Kept A) → Type 0
AreDecided n pes strategy rounds = (r : ℕ) → IfSome (kept_of rounds r) (IsDecided n pes strategy r)

-- a decision that is kept of round r, with the snapshot that it was made for
pub record IsKeptIn {A : Type 0} (b : BoardState A) (r : ℕ) (decision : Decision A) : Type 0 where
  pub snapshot : Taken
  pub kept : kept_of b.rounds r ≡ Some (snapshot, decision)
  pub decided : IsDecided (elements b.database) b.pes b.strategy r (snapshot, decision)

-- what proves that a decision that is kept of round r is what the strategy decides
pub record IsProvedIn {A : Type 0} (b : BoardState A) (r : ℕ) (near : Nearness A) : Type 0 where
  pub kept : Kept A
  pub is_kept : kept_of b.rounds r ≡ Some kept
  pub proved : IsDecidedBy b.strategy kept.0.loads kept.0.sizes b.pes kept.1 near

-- What holds of every board: there are 1 to 256 PEs, and the elements that have reported are all on these; of each element
-- it is known whether it has finished; the present round is the one after those that are kept, what is kept is right, and each
-- decision is proved.
pub record IsBoard {A : Type 0} (b : BoardState A) : Type 0 where
  pub some_pe : 0 < b.pes
  pub few_pes : b.pes ≤ PES
  pub placed : StandBelow b.pes b.database
  pub counted : length b.finished ≡ elements b.database
  pub numbered : b.database.round ≡ length b.rounds + 1
  pub decided : AreDecided (elements b.database) b.pes b.strategy b.rounds
  pub proved : AreProved b.pes b.strategy b.rounds b.nearness

-- every element has finished
abbrev pub HaveFinished : {A : Type 0} → BoardState A → Type 0
HaveFinished b = All IsTrue b.finished

-- The round of a board is decided: every element has reported, and the round is not the last. The snapshot is what
-- was reported, at the step of the round's number, and what is kept is right; nothing else changes but that the next
-- round begins.
pub record Decides {A : Type 0} (before after : BoardState A) : Type 0 where
  pub kept : Kept A
  pub near : Nearness A
  pub complete : IsComplete before.database
  pub not_last : before.database.round < ROUND
  pub reported : IsSnapshotOf before.database before.database.round before.pes kept.0
  pub decided : IsDecided (elements before.database) before.pes before.strategy before.database.round kept
  pub proved : IsDecidedBy before.strategy kept.0.loads kept.0.sizes before.pes kept.1 near
  pub next : after ≡ after_decision before kept near
