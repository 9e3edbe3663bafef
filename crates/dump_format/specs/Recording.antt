-- What the dump of a round records of its decision.
use Rattle.std.specs.Prelude.{ℕ, ◌==◌, Option, None, Some, if◌then◌else◌}
use Rattle.lb_certificates.specs.declared.division.Floor.{Floor}
use Rattle.lb_certificates.specs.declared.division.Floor.TheVariants.{Zero, Fence}
use Rattle.lb_snapshot.specs.Measured.{Taken}
use Rattle.lb_strategy.specs.declared.decision.Decision.{Decision}
use Rattle.dump_format.specs.declared.recorded.Recorded.{Recorded}

-- a decision for this number of PEs, where its floor claims that no division has a lower bottleneck
abbrev pub recorded_by : {A : Type 0} → ℕ → Decision A → Floor A → Option (Recorded A)
recorded_by pes d Zero = if d.division.bottleneck == 0 then Some (record { target = pes; decision = d }) else None
recorded_by pes d (Fence stops) = Some (record { target = pes; decision = d })

-- What is recorded of a decision on a snapshot: a decision whose division has a floor, for as many PEs as the snapshot has. What proves
-- a decision within a tolerance has no place in a dump.
abbrev pub recorded_of : {A : Type 0} → Taken → Decision A → Option (Recorded A)
recorded_of s d = recorded_by s.procs d d.division.floor
