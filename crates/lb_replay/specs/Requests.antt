-- What the arguments of a command line ask for.
use Rattle.std.specs.Prelude.{ℕ, ◌≤◌, Option, Some, None, List, Bool, true, false, Result, Ok, Err}
use Rattle.std.specs.Option.{ForSome}
use Rattle.chare_index.specs.declared.limits.TheConstants.Limits.{PES}
use Rattle.lb_replay.specs.Simulation.{EndsReplay}
use Rattle.lb_replay.specs.Verifying.{EndsCheck}
use Rattle.lb_replay.specs.declared.ended.Ended.{Ended}
use Rattle.lb_replay.specs.declared.request.Clash.{Clash}
use Rattle.lb_replay.specs.declared.request.Clash.TheVariants.{ProcsAndCheck, ToleranceAndCheck, KeepOrderAndCheck, KeepOrderAlone, AnyOrderAndCheck, AnyOrderAlone, KeepOrderAndAnyOrder}
use Rattle.lb_replay.specs.declared.request.Task.{Task}
use Rattle.lb_replay.specs.declared.request.Task.TheVariants.{Replay, Refine, RefineInOrder, RefineInAnyOrder, Check}
use Rattle.lb_replay.specs.declared.way.Way.TheVariants.{Least, Within, InOrder, InAnyOrder}

-- a replay for a number of PEs, or the dump's own; within a tolerance, where one is given, without which no order can be kept or
-- changed; and where it is kept, it is not changed
abbrev pub replay_of : Option ℕ → Option ℕ → Bool → Bool → Result Task Clash
replay_of procs None false false = Ok (Replay procs)
replay_of procs None true any_order = Err KeepOrderAlone
replay_of procs None false true = Err AnyOrderAlone
replay_of procs (Some tolerance) false false = Ok (Refine procs tolerance)
replay_of procs (Some tolerance) true false = Ok (RefineInOrder procs tolerance)
replay_of procs (Some tolerance) false true = Ok (RefineInAnyOrder procs tolerance)
replay_of procs (Some tolerance) true true = Err KeepOrderAndAnyOrder

-- a check, which cannot be combined with a number of PEs, nor with a tolerance, nor with an order that is kept, nor with any order
abbrev pub check_of : Option ℕ → Option ℕ → Bool → Bool → Result Task Clash
check_of (Some p) tolerance keep_order any_order = Err ProcsAndCheck
check_of None (Some t) keep_order any_order = Err ToleranceAndCheck
check_of None None true any_order = Err KeepOrderAndCheck
check_of None None false true = Err AnyOrderAndCheck
check_of None None false false = Ok Check

-- what is to be done, or which options cannot be combined
abbrev pub task_of : Option ℕ → Option ℕ → Bool → Bool → Bool → Result Task Clash
task_of procs tolerance keep_order any_order false = replay_of procs tolerance keep_order any_order
task_of procs tolerance keep_order any_order true = check_of procs tolerance keep_order any_order

-- a number of PEs that a replay is asked for is 1 to 256
abbrev pub MayRun : Task → Type 0
MayRun (Replay procs) = ForSome procs (λ p. 1 ≤ p) × ForSome procs (λ p. p ≤ PES)
MayRun (Refine procs tolerance) = ForSome procs (λ p. 1 ≤ p) × ForSome procs (λ p. p ≤ PES)
MayRun (RefineInOrder procs tolerance) = ForSome procs (λ p. 1 ≤ p) × ForSome procs (λ p. p ≤ PES)
MayRun (RefineInAnyOrder procs tolerance) = ForSome procs (λ p. 1 ≤ p) × ForSome procs (λ p. p ≤ PES)
MayRun Check = Unit {0}

-- how each task ends
abbrev pub EndsTask : (A : Type 0) → Option (List ℕ) → Option (List ℕ) → Task → Option (List ℕ) → Option (List ℕ) → Ended → Type 0
EndsTask A bytes rest (Replay procs) old new ended = EndsReplay A bytes rest procs Least old new ended
EndsTask A bytes rest (Refine procs tolerance) old new ended =
    EndsReplay A bytes rest procs (Within tolerance) old new ended
EndsTask A bytes rest (RefineInOrder procs tolerance) old new ended =
    EndsReplay A bytes rest procs (InOrder tolerance) old new ended
EndsTask A bytes rest (RefineInAnyOrder procs tolerance) old new ended =
    EndsReplay A bytes rest procs (InAnyOrder tolerance) old new ended
EndsTask A bytes rest Check old new ended = EndsCheck A bytes rest old new ended
