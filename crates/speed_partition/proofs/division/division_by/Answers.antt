use Rattle.std.proofs.Common.{◌≡◌, ◌+◌, ◌-◌, ◌≤◌, arith, subst}
use Rattle.speed_certificates.specs.Speeds.{count}
use Rattle.speed_partition.specs.Chosen.{IsFirstLatest, IsLeastFloor}
use Rattle.speed_partition.specs.Greedy.{IsGreedyBy}
use Rattle.speed_partition.proofs.ChosenTimes.{Ticked, chosen_from_parts, fence_before, greedy_at_least, greedy_by_time, idle_before, tick_before, ticked_from, certified_from_parts}
use Rattle.speed_partition.proofs.division.division_by.Goals as goal
use Rattle.speed_partition.proofs.division.division_by.Goals.{in-Some, in-None+in_ok-greedy_ends-in-None}

pub latest_end-time-requires : goal.latest_end-time-requires
latest_end-time-requires g c =
    let greedy : IsGreedyBy c.args.chain.now c.args.pes.now c.args.ticks c.args.scale (count c.args.pes.now)
    c.as_slice.result.now = rw (c.as_slice.ensures.value, c.new-cuts.ensures.value) c.in_ok-greedy_ends.ensures.greedy in
    record {
      divides = greedy_at_least c.args.chain.now c.args.pes.now c.args.ticks c.args.scale
          c.as_slice.result.now c.requires.least greedy;
    }

pub overflow_sub-ticks : goal.overflow_sub-ticks
overflow_sub-ticks g c =
    let greedy : IsGreedyBy c.args.chain.now c.args.pes.now c.args.ticks c.args.scale (count c.args.pes.now)
    c.as_slice.result.now = rw (c.as_slice.ensures.value, c.new-cuts.ensures.value) c.in_ok-greedy_ends.ensures.greedy in
    let ticked = ticked_from c.args.chain.now c.args.pes.now c.args.ticks c.args.scale c.as_slice.result.now
    c.latest_end-time.result c.requires.scale c.requires.least greedy c.latest_end-time.ensures.latest in
    tick_before c.args.pes.now c.args.scale c.args.ticks c.latest_end-time.result ticked c.in-None.ensures

pub greedy_ends-requires-in-None-clause-idle : goal.greedy_ends-requires-in-None-clause-idle
greedy_ends-requires-in-None-clause-idle g c =
    let ticks = c.args.ticks in
    let greedy : IsGreedyBy c.args.chain.now c.args.pes.now ticks c.args.scale (count c.args.pes.now)
    c.as_slice.result.now = rw (c.as_slice.ensures.value, c.new-cuts.ensures.value) c.in_ok-greedy_ends.ensures.greedy in
    let ticked = ticked_from c.args.chain.now c.args.pes.now ticks c.args.scale c.as_slice.result.now
    c.latest_end-time.result c.requires.scale c.requires.least greedy c.latest_end-time.ensures.latest in
    let some : 1 ≤ ticks = tick_before c.args.pes.now c.args.scale ticks c.latest_end-time.result ticked c.in-None.ensures in
    let e : ticks ≡ ticks - 1 + 1 = omega arith in
    idle_before c.args.pes.now c.args.scale (ticks - 1) c.latest_end-time.result
    (subst (λ k. Ticked c.args.pes.now c.args.scale k c.latest_end-time.result) e ticked) c.in-None.ensures

pub returns-clause-chosen : goal.returns-clause-chosen
returns-clause-chosen g c =
    let xs = c.args.chain.now in
    let pes = c.args.pes.now in
    let ticks = c.args.ticks in
    let scale = c.args.scale in
    let t = c.latest_end-time.result in
    let cuts = c.new-cuts.result in
    let least = c.requires.least in
    let greedy : IsGreedyBy xs pes ticks scale (count pes) cuts = rw c.new-cuts.ensures.value c.in_ok-greedy_ends.ensures.greedy in
    let latest : IsFirstLatest xs pes cuts (count pes) t = subst (λ s. IsFirstLatest xs pes s (count pes) t) c.as_slice.ensures.value c.latest_end-time.ensures.latest in
    let ticked : Ticked pes scale ticks t = ticked_from xs pes ticks scale cuts t c.requires.scale least greedy latest in
    let floor : IsLeastFloor xs pes t c.match-first_idle.floor = elim c.match-first_idle.branch [
      | in-Some w ↦ rw w.floor-is w.in-Some.ensures
      | in-None+in_ok-greedy_ends-in-None w ↦
          let some : 1 ≤ ticks = tick_before pes scale ticks t ticked w.in-None.ensures in
          let e : ticks ≡ ticks - 1 + 1 = omega arith in
          let fence = fence_before xs pes scale (ticks - 1) t w.in_ok-greedy_ends-in-None.field-0.items (subst (λ k. Ticked pes scale k t) e ticked)
          (least.stops (ticks - 1) (omega arith)) w.in_ok-greedy_ends-in-None.ensures.greedy in
          rw w.floor-is (w.in-None.ensures, rw w.new.ensures.value fence)
    ] in
    chosen_from_parts xs pes (record { time = t; cuts = cuts; floor = c.match-first_idle.floor }) c.requires.scale.are
    (greedy_at_least xs pes ticks scale cuts least greedy) latest (greedy_by_time xs pes ticks scale cuts t ticked greedy) floor

pub returns-clause-certified : goal.returns-clause-certified
returns-clause-certified g c =
    let chosen = returns-clause-chosen g c in
    certified_from_parts c.args.chain.now c.args.pes.now (record { time = c.latest_end-time.result; cuts = c.new-cuts.result; floor = c.match-first_idle.floor })
    c.requires.scale.are chosen.least_time.divides chosen.first_latest chosen.floor

pub returns-clause-least : goal.returns-clause-least
returns-clause-least g c =
    let chosen = returns-clause-chosen g c in
    chosen.least_time
