-- No event nests deep, so that its text reads back.
use Rattle.std.proofs.Common.{◌≡◌, ℕ, ◌%◌, ◌≤◌, Bool, true, false, nat_eq, if◌then◌else◌, Some, None, refl, arith}
use Rattle.std.specs.Prelude.{option_map, unwrap_or}
use Rattle.std.specs.Float.{float_is_finite}
use Rattle.serde_json.specs.Data.{Data, Num, number, float, null, depth}
use Rattle.serde_json.specs.Read.{max_depth}
use Rattle.run_trace.specs.declared.event.TraceEvent.{TraceEvent}
use Rattle.run_trace.specs.declared.event.TraceEvent.TheVariants.{Row, Slice, Instant, Decision, Load, Leaves, Comes}
use Rattle.run_trace.specs.declared.event.Work.{Work}
use Rattle.run_trace.specs.declared.event.Work.TheVariants.{Start, Letter, Resume, Depart, Arrive}
use Rattle.run_trace.specs.Times.{microseconds, time_data}
use Rattle.run_trace.specs.Events.{event_data, work_data}

depth_of_two : (b : Bool) (x y : Data) → depth x ≡ 0 → depth y ≡ 0 → depth (if b then x else y) ≡ 0
depth_of_two true x y first second = first
depth_of_two false x y first second = second

depth_of_number : (b : Bool) (x : Num) → depth (unwrap_or (option_map number (if b then Some x else None)) null) ≡ 0
depth_of_number true x = refl
depth_of_number false x = refl

time_depth : (n : ℕ) → depth (time_data n) ≡ 0
time_depth n = depth_of_two (nat_eq (n % 1000) 0) _ _ refl (depth_of_number (float_is_finite (microseconds n)) (float (microseconds n)))

work_depth : (work : Work) (e : ℕ) → depth (work_data work e) ≡ 1
work_depth Start e = refl
work_depth (Letter pe n) e = refl
work_depth (Resume r) e = refl
work_depth Depart e = refl
work_depth Arrive e = refl

pub shallow : (event : TraceEvent) → depth (event_data event) ≤ max_depth
shallow (Row pe) = omega arith
shallow (Slice pe at duration work e) = rw (work_depth work e, time_depth duration, time_depth at) (omega arith)
shallow (Instant pe at sign) = rw (time_depth at) (omega arith)
shallow (Decision at r) = rw (time_depth at) (omega arith)
shallow (Load pe at load) = rw (time_depth at) (omega arith)
shallow (Leaves pe at flow) = rw (time_depth at) (omega arith)
shallow (Comes pe at flow) = rw (time_depth at) (omega arith)
