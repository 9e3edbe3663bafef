-- How elements that are placed on PEs spread their load, and what a decision changes. A list of places has the PE of each
-- element, in order of index.
use Rattle.std.specs.Prelude.{ℕ, suc, zero, ◌+◌, ◌-◌, ◌*◌, ◌/◌, ◌<◌, ◌≤◌, ◌≡◌, ◌==◌, nat_le, if◌then◌else◌, All, count_by, List, length, map, max, min, slice_index, slice_index_or, sum, sum_by}
use Rattle.std.specs.List.{range_with_len}
use Rattle.chare_index.specs.declared.limits.TheConstants.Limits.{PES}
use Rattle.lb_certificates.specs.Naming.{bytes_moved, moved_bytes, total}
use Rattle.lb_refinement.specs.Refined.{IsRefined, refined_cuts, refined_least, refined_names}
use Rattle.lb_refinement.specs.declared.refined.Refined.{Refined}
use Rattle.lb_snapshot.specs.Measured.{Taken}
use Rattle.lb_strategy.specs.Moves.{moves_below, planned_pe}
use Rattle.lb_strategy.specs.declared.decision.Decision.{Decision}
use Rattle.load_report.specs.declared.figures.Spread.{Spread}
use Rattle.load_report.specs.declared.figures.Change.{Change}
use Rattle.load_report.specs.declared.traffic.Traffic.{Traffic}

-- the PE on which each element is
abbrev pub present_places : List (ℕ × ℕ) → List ℕ
present_places sizes = map (λ size. size.1) sizes

-- the PE on which each of this number of elements is to run: the name of its block
abbrev pub planned_places : List ℕ → List ℕ → ℕ → List ℕ
planned_places cuts names n = map (planned_pe cuts names) (range_with_len 0 n)

-- an element's load where it is placed on the PE, and otherwise 0
abbrev pub load_at : List ℕ → List ℕ → ℕ → ℕ → ℕ
load_at loads places p i = if slice_index places i == p then slice_index loads i else 0

-- the load of a PE: the sum of the loads of the elements that are placed there
abbrev pub load_of : List ℕ → List ℕ → ℕ → ℕ
load_of loads places p = total (length loads) (load_at loads places p)

-- the number of elements that are placed on a PE
abbrev pub elements_of : List ℕ → ℕ → ℕ
elements_of places p = count_by (λ place. place == p) places

-- the greatest of the values at the numbers below n, and 0 where there is none
abbrev pub greatest : ℕ → (ℕ → ℕ) → ℕ
greatest zero f = 0
greatest (suc n) f = max (greatest n f) (f n)

-- how many of the first PEs have no element
abbrev pub empty_of : List ℕ → ℕ → ℕ
empty_of places pes = total pes (λ p. if elements_of places p == 0 then 1 else 0)

-- the least of the values at the numbers below n, or this one where it is less
abbrev pub least : ℕ → ℕ → (ℕ → ℕ) → ℕ
least most zero f = most
least most (suc n) f = min (least most n f) (f n)

-- how many of the first PEs have no work, with elements or without
abbrev pub idle_of : ℕ → (ℕ → ℕ) → ℕ
idle_of pes loads = total pes (λ p. if loads p == 0 then 1 else 0)

abbrev pub billion : ℕ
billion = 1000000000

-- a quotient, rounded to the nearest number, and halves rounded up
abbrev pub nearest : ℕ → ℕ → ℕ
nearest above below = (2 * above + below) / (2 * below)

-- a load in billionths of the average of all loads, which is their sum over the number of PEs
abbrev pub billionths : ℕ → ℕ → ℕ → ℕ
billionths pes sum load = if sum == 0 then billion else nearest (billion * (load * pes)) sum

-- the square of the distance of two numbers
abbrev pub square_apart : ℕ → ℕ → ℕ
square_apart a b = ((a - b) + (b - a)) * ((a - b) + (b - a))

-- The sum of the squares of the distances of the loads of the PEs from their average, each in billionths of the average. Over
-- the number of PEs it is the square of the standard deviation.
abbrev pub squares_of : ℕ → ℕ → (ℕ → ℕ) → ℕ
squares_of pes sum loads = total pes (λ p. square_apart (billionths pes sum (loads p)) billion)

-- the square root, rounded down: how many of the squares 1, 4, 9 and so on are at most n
unfoldable pub root : ℕ → ℕ
root n = total n (λ k. if nat_le ((k + 1) * (k + 1)) n then 1 else 0)

-- The standard deviation of the loads of this number of PEs over their average, in thousandths, rounded to the nearest: half the
-- root of four times its square, and rounded up.
unfoldable pub deviation_of : ℕ → ℕ → (ℕ → ℕ) → ℕ
deviation_of pes sum loads =
    if pes == 0 then 0 else (root (4 * squares_of pes sum loads / (pes * (billion * 1000))) + 1) / 2

-- how elements with these loads, at these places on this number of PEs, spread their load
abbrev pub spread_of : List ℕ → List ℕ → ℕ → Spread
spread_of loads places pes = record {
  pes = pes;
  elements = length loads;
  greatest = greatest pes (load_of loads places);
  least = least (sum loads) pes (load_of loads places);
  total = sum loads;
  deviation = deviation_of pes (sum loads) (load_of loads places);
  heaviest = greatest (length loads) (slice_index loads);
  empty = empty_of places pes;
  idle = idle_of pes (load_of loads places);
}

-- the bytes of each element that moves to its place, and 0 for one that stays
abbrev pub moving : List (ℕ × ℕ) → List ℕ → List ℕ
moving sizes places = map (λ i. moved_bytes (slice_index_or sizes i (0, 0)) (slice_index places i)) (range_with_len 0 (length sizes))

-- the most bytes that leave a PE where the elements of a snapshot move to these places on this number of PEs, and the most that
-- enter one
abbrev pub traffic_of : Taken → List ℕ → ℕ → Traffic
traffic_of s places pes = record {
  leave = greatest s.procs (load_of (moving s.sizes places) (present_places s.sizes));
  enter = greatest pes (load_of (moving s.sizes places) places);
}

-- what blocks with these names change, with the least load and all bytes that there are to move
abbrev pub change_by : Taken → ℕ → List ℕ → List ℕ → Change
change_by s least cuts names = record {
  least = least;
  moved = length (moves_below s.sizes cuts names (length s.sizes));
  bytes = bytes_moved s.sizes cuts names;
  all_bytes = sum_by (λ size. size.0) s.sizes;
}

-- what a right decision changes
abbrev pub change_of : {A : Type 0} → Taken → Decision A → Change
change_of s d = change_by s d.division.bottleneck d.division.cuts d.naming

-- this is the decision for this number of PEs within some tolerance
abbrev pub IsRefinedFor : {A : Type 0} → List ℕ → List (ℕ × ℕ) → ℕ → Refined A → Type 0
IsRefinedFor loads sizes pes r = (tolerance : ℕ) × IsRefined loads sizes pes tolerance r

-- what this decision changes
abbrev pub refined_change : {A : Type 0} → Taken → Refined A → Change
refined_change s r = change_by s (refined_least r).bottleneck (refined_cuts r) (refined_names r)

-- each of the elements with these loads is placed on one of this number of PEs
pub record IsPlacement (loads places : List ℕ) (pes : ℕ) : Type 0 where
  pub paired : length places ≡ length loads
  pub placed : All (λ place. place < pes) places
  pub few_pes : pes ≤ PES
