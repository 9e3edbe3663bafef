-- The text of a checkpoint, byte by byte: what a run of a workload has decided, where its chares are, and the workload.
use Rattle.std.specs.Prelude.{◌≡◌, ℕ, ◌+◌, ◌^◌, ◌<◌, ◌≤◌, List, [], ◌∷◌, ◌++◌, length, codes, All}
use Rattle.std.specs.Fmt.{decimal}
use Rattle.run_checkpoint.specs.declared.checkpoint.DecidedRound.{DecidedRound}
use Rattle.workload.specs.Text.{IsText, WorkloadView, line, newline, workload_text}
use Rattle.workload.specs.Text.{IsWithin as IsWorkload}

-- what was decided for each round so far, the PE of each chare, and the workload
pub record CheckpointView : Type 0 where
  pub decided : List DecidedRound
  pub places : List ℕ
  pub workload : WorkloadView

-- a round, without what was decided
abbrev pub round_start : ℕ → List ℕ
round_start r = codes "round " ++ decimal r

-- what was decided, after the round
abbrev pub decision_end : ℕ → ℕ → List ℕ
decision_end bottleneck moved = codes " bottleneck " ++ decimal bottleneck ++ codes " moved " ++ decimal moved ++ newline

-- round r bottleneck B moved M
abbrev pub round_line : ℕ → ℕ → ℕ → List ℕ
round_line r bottleneck moved = round_start r ++ decision_end bottleneck moved

-- a line for each of these rounds, of which the first has this number
abbrev pub round_lines : ℕ → List DecidedRound → List ℕ
round_lines r [] = []
round_lines r (d ∷ decided) = round_line r d.bottleneck d.moved ++ round_lines (r + 1) decided

-- the line of a round
abbrev pub decided_line : ℕ → DecidedRound → List ℕ
decided_line r d = round_line r d.bottleneck d.moved

-- the first line
abbrev pub head_line : ℕ → List ℕ
head_line rounds = line (codes "checkpoint") (rounds ∷ [])

-- the line of the places
abbrev pub places_line : List ℕ → List ℕ
places_line places = line (codes "places") places

-- R lines of rounds, places p0 p1 .., and the text of the workload
abbrev pub body_text : CheckpointView → List ℕ
body_text c = round_lines 1 c.decided ++ (places_line c.places ++ workload_text c.workload)

-- checkpoint R, and what follows it
abbrev pub checkpoint_text : CheckpointView → List ℕ
checkpoint_text c = head_line (length c.decided) ++ body_text c

-- both numbers of a round have 64 bits
pub record IsDecided (d : DecidedRound) : Type 0 where
  pub bottleneck : d.bottleneck < 2 ^ 64
  pub moved : d.moved < 2 ^ 64

-- the limits of a checkpoint: no more rounds than the workload has, and for each of its chares one of its PEs
pub record IsWithin (c : CheckpointView) : Type 0 where
  pub workload : IsWorkload c.workload
  pub few_rounds : length c.decided ≤ c.workload.rounds
  pub decided : All IsDecided c.decided
  pub each_chare : length c.places ≡ c.workload.chares
  pub placed : All (λ p. p < c.workload.pes) c.places

-- these bytes are the text of this checkpoint, whose workload has a text of its own: one that is not too long
pub record IsCheckpointText (c : CheckpointView) (bytes : List ℕ) : Type 0 where
  pub spelled : bytes ≡ checkpoint_text c
  pub within : IsWithin c
  pub workload : IsText c.workload (workload_text c.workload)
