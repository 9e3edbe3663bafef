-- When a checkpoint is written of a run that pauses or has ended, and what it holds.
use Rattle.std.specs.Prelude.{◌≡◌, ℕ, ◌+◌, ◌<◌, ◌≤◌, List, [], ◌++◌, length, map, Option, None, Some, Result, Ok, Err, ⊤}
use Rattle.std.specs.List.{range_with_len}
use Rattle.std.specs.Option.{option_map_or}
use Rattle.sync_board.specs.Boards.{BoardState, Kept, decision_of}
use Rattle.checkpointed_runs.specs.Keeping.{FileRequest, Keeps}
use Rattle.lb_database.specs.Measuring.{elements}
use Rattle.lb_strategy.specs.declared.decision.Decision.{Decision}
use Rattle.lb_strategy.specs.Moves.{planned_pe}
use Rattle.run_checkpoint.specs.declared.checkpoint.DecidedRound.{DecidedRound}
use Rattle.workload.specs.Text.{WorkloadView}

-- what a checkpoint keeps of a round that was decided
abbrev pub round_of : {A : Type 0} → Kept A → DecidedRound
round_of kept = record { bottleneck = kept.1.division.bottleneck; moved = kept.1.moved }

-- the rounds before a run, and those of the run
abbrev pub all_decided : {A : Type 0} → List DecidedRound → List (Kept A) → List DecidedRound
all_decided before rounds = before ++ map round_of rounds

-- where a decision has each of n elements
abbrev pub places_by : {A : Type 0} → Decision A → ℕ → List ℕ
places_by d n = map (λ e. planned_pe d.division.cuts d.naming e) (range_with_len 0 n)

-- where the last decision of a board has each of its elements
abbrev pub last_places : {A : Type 0} → BoardState A → List ℕ
last_places b = option_map_or (λ d. places_by d (elements b.database)) (decision_of b (length b.rounds)) []

-- a checkpoint is due once n rounds of a run were decided: at least one since the last, which came after `written`, and at least `least`
pub record IsDue (written least n : ℕ) : Type 0 where
  pub some : written < n
  pub enough : written + least ≤ n

-- a checkpoint was kept of a run that has a file for it; of another nothing was
abbrev pub KeepsAt : {E : Type 0} → Option (List ℕ) → Option WorkloadView → List DecidedRound → List ℕ → Option (List FileRequest)
    → Option (List FileRequest) → Result ⊤ E → Type 0
KeepsAt None workload decided places old now kept = now ≡ old
KeepsAt (Some name) None decided places old now kept = now ≡ old
KeepsAt (Some name) (Some w) decided places old now kept = Keeps name (record { decided = decided; places = places; workload = w }) old now kept

-- the first reason why a checkpoint was not kept
abbrev pub first_failure : {E : Type 0} → Option E → Result ⊤ E → Option E
first_failure (Some e) kept = Some e
first_failure None (Ok _) = None
first_failure None (Err e) = Some e

-- a checkpoint was kept, or it was not, and then the reason is noted, if it is the first
abbrev pub KeepsNoted : {E : Type 0} → Option (List ℕ) → Option WorkloadView → List DecidedRound → List ℕ → Option (List FileRequest) → Option (List FileRequest)
    → Option E → Option E → Type 0
KeepsNoted {E} name workload decided places old now failed failed' =
    (kept : Result ⊤ E) × KeepsAt name workload decided places old now kept × (failed' ≡ first_failure failed kept)
