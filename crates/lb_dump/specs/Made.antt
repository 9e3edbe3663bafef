-- What is made of the parts of a text that is whole. No public clause uses these definitions.
use Rattle.std.specs.Prelude.{ℕ, ◌≤◌, List, Option, Some, None}
use Rattle.chare_index.specs.declared.limits.TheConstants.Limits.{PES}
use Rattle.lb_snapshot.specs.Measured.{Taken}
use Rattle.lb_dump.specs.Plans.{floor_kind, plan_len}
use Rattle.dump_format.specs.declared.recorded.Recorded.{Recorded}
use Rattle.lb_dump.specs.declared.head.Head.{Head}
use Rattle.lb_dump.specs.declared.plan.DecisionPart.{DecisionPart}
use Rattle.lb_dump.specs.declared.plan.DecisionPart.TheVariants.{Begun, Nothing, Made}

-- the snapshot of a head and its elements
abbrev pub taken_of : Head → List ℕ → List (ℕ × ℕ) → Taken
taken_of h loads sizes = record { step = h.step; procs = h.procs; loads = loads; sizes = sizes }

-- a decision with these moves
abbrev pub with_moves : {A : Type 0} → Recorded A → List (ℕ × ℕ × ℕ) → Recorded A
with_moves r moves = record r { decision = record r.decision { moves = moves } }

-- what was recorded: a plan that is made, with its moves
abbrev pub recorded_with : {A : Type 0} → DecisionPart A → List (ℕ × ℕ × ℕ) → Option (Recorded A)
recorded_with Begun moves = None
recorded_with Nothing moves = None
recorded_with (Made r all) moves = Some (with_moves r moves)

-- the length of a plan that is whole
abbrev pub plan_size : {A : Type 0} → DecisionPart A → ℕ
plan_size Begun = 0
plan_size Nothing = 4
plan_size (Made r all) = plan_len r.target (floor_kind r.decision.division.floor)

-- where there is a decision, its target is at most 256
abbrev pub HasTarget : {A : Type 0} → DecisionPart A → Type 0
HasTarget Begun = Unit {0}
HasTarget Nothing = Unit {0}
HasTarget (Made r all) = r.target ≤ PES
