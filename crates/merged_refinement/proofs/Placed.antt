-- Elements on ranks in their order, and the bytes of a range of them that move to a rank.
use Rattle.std.proofs.Common.{◌≡◌, ℕ, zero, suc, ◌+◌, ◌-◌, ◌<◌, ◌≤◌, Bool, true, false, cond, eqb, List, length, take, sum, slice_index, slice_index_or, sum_by, arith, ap, sym, ◌∙◌, subst, add-one}
use Rattle.std.proofs.lemmas.List.FromFn.{length-range_with_len, get_or-range_with_len, length-map-range_with_len, get_or-map-range_with_len}
use Rattle.lb_snapshot.specs.Measured.{load}
use Rattle.lb_certificates.specs.Chain.{IsDivision}
use Rattle.lb_certificates.specs.Naming.{block_of, moved_bytes, total, IsNaming}
use Rattle.lb_certificates.proofs.BlockSums.{block_of_is}
use Rattle.lb_certificates.proofs.Chains.{block_within, load_after}
use Rattle.lb_certificates.proofs.Totals.{total_agree, total_none, total_same, total_take}
use Rattle.chain_refinement.specs.Orders.{StandInOrder}
use Rattle.chain_refinement.proofs.Orders.{block_around}
use Rattle.merged_chains.specs.Merged.{AreRuns}
use Rattle.merged_chains.proofs.MergedPeaks.{start_rises}
use Rattle.merged_refinement.specs.InOrder.{in_order, sizes_on}

pub name_at : (ranks b : ℕ) → b < ranks → slice_index (in_order ranks) b ≡ b
name_at ranks b inside = get_or-range_with_len 0 ranks b 0 inside ∙ omega arith

pub names_counted : (ranks : ℕ) → length (in_order ranks) ≡ ranks
names_counted ranks = length-range_with_len 0 ranks

pub names_differ : (ranks : ℕ) → IsNaming ranks (in_order ranks)
names_differ ranks =
    record {
      counted = names_counted ranks;
      below = λ b inside. omega (arith, name_at ranks b inside);
      apart = λ a b before inside same. absurd (omega (arith, same, name_at ranks a (omega arith), name_at ranks b inside));
    }

pub sizes_counted : (bytes present : List ℕ) → length (sizes_on bytes present) ≡ length bytes
sizes_counted bytes present =
    length-map-range_with_len (λ i. (slice_index bytes i, block_of present i)) 0 (length bytes)

pub size_at : (bytes present : List ℕ) (i : ℕ) → i < length bytes → slice_index_or (sizes_on bytes present) i (0, 0) ≡ (slice_index bytes i, block_of present i)
size_at bytes present i inside =
    get_or-map-range_with_len (λ i. (slice_index bytes i, block_of present i)) 0 (length bytes) i i (0, 0) inside (omega arith)

-- the elements are in the order of the ranks
pub stand_in_order : (bytes present : List ℕ) (ranks : ℕ) → IsDivision 0 (length bytes) ranks present → StandInOrder (sizes_on bytes present) (in_order ranks) present
stand_in_order bytes present ranks divides =
    record {
      divides = subst (λ n. IsDivision 0 (length (sizes_on bytes present)) n present) (sym (names_counted ranks))
          (subst (λ n. IsDivision 0 n ranks present) (sym (sizes_counted bytes present)) divides);
      stands = λ b i inside from before.
          let few : b < ranks = omega (arith, inside, names_counted ranks) in
          let block = block_within (length bytes) ranks present b divides few in
          ap (λ (size : ℕ × ℕ). size.1) (size_at bytes present i (omega (arith, before, block.1)))
          ∙ block_of_is (length bytes) ranks present b i divides few from before ∙ sym (name_at ranks b few);
    }

-- a sum where all or none count
all_or_none : (t : Bool) (bytes : List ℕ) (n : ℕ) → n ≤ length bytes → total n (λ i. cond t 0 (slice_index bytes i)) ≡ cond t 0 (sum (take n bytes))
all_or_none true bytes n inside = total_none n
all_or_none false bytes n inside = total_take (λ x. x) bytes 0 n inside

-- the bytes of the first elements that move to a rank, if all are on one
pub moved_on_one : (bytes : List ℕ) (on to n : ℕ) → n ≤ length bytes → total n (λ i. moved_bytes (slice_index bytes i, on) to) ≡ moved_bytes (sum (take n bytes), on) to
moved_on_one bytes on to n inside = all_or_none (eqb on to) bytes n inside

add_where : (t : Bool) (a b c : ℕ) → a + b ≡ c → cond t 0 a + cond t 0 b ≡ cond t 0 c
add_where true a b c adds = omega arith
add_where false a b c adds = adds

moved_adds : (a b c on to : ℕ) → a + b ≡ c → moved_bytes (a, on) to + moved_bytes (b, on) to ≡ moved_bytes (c, on) to
moved_adds a b c on to adds = add_where (eqb on to) a b c adds

-- what the first n elements move to a rank
abbrev pub moved_up_to : List ℕ → List ℕ → ℕ → ℕ → ℕ
moved_up_to bytes present to n =
    total n (λ i. moved_bytes (slice_index bytes i, block_of present i) to)

-- elements of one rank move what their bytes together move
moved_of_block : (bytes present : List ℕ) (to on a b held : ℕ) → a ≤ b → b ≤ length bytes → ((i : ℕ) → a ≤ i → i < b → block_of present i ≡ on)
    → held ≡ load bytes a b → moved_up_to bytes present to b ≡ moved_up_to bytes present to a + moved_bytes (held, on) to
moved_of_block bytes present to on a b held onward inside stands is =
    let here : ℕ → ℕ = λ i. moved_bytes (slice_index bytes i, block_of present i) to in
    let same : ℕ → ℕ = λ i. moved_bytes (slice_index bytes i, on) to in
    let end : a + (b - a) ≡ b = omega arith in
    let agree : total b here + total a same ≡ total a here + total b same = subst
    (λ n. total n here + total a same ≡ total a here + total n same) end
    (total_agree a (b - a) here same (λ i low high. ap (λ q. moved_bytes (slice_index bytes i, q) to) (stands i low (omega arith)))) in
    omega (
      arith,
      agree,
      moved_on_one bytes on to a (omega arith),
      moved_on_one bytes on to b inside,
      moved_adds (sum (take a bytes)) held (sum (take b bytes)) on to (omega (arith, is, load_after bytes a b onward)),
    )

-- the first elements move to a rank what the list of their sizes says
pub moved_of_sizes : (bytes present : List ℕ) (to n : ℕ) → n ≤ length bytes
    → sum_by (λ size. moved_bytes size to) (take n (sizes_on bytes present)) ≡ moved_up_to bytes present to n
moved_of_sizes bytes present to n inside =
    sym (total_take (λ size. moved_bytes size to) (sizes_on bytes present) (0, 0) n (omega (arith, sizes_counted bytes present)))
    ∙ total_same n (λ i. moved_bytes (slice_index_or (sizes_on bytes present) i (0, 0)) to)
    (λ i. moved_bytes (slice_index bytes i, block_of present i) to) (λ i below. ap (λ size. moved_bytes size to) (size_at bytes present i (omega arith)))

-- the runs before one move to a rank what the elements before its start move
pub runs_move : (bytes run_bytes starts present standing : List ℕ) (ranks to : ℕ) → AreRuns bytes run_bytes starts
    → IsDivision 0 (length bytes) ranks present → IsDivision 0 (length run_bytes) ranks standing
    → ((b : ℕ) → b ≤ ranks → slice_index present b ≡ slice_index starts (slice_index standing b)) → (j : ℕ) → j ≤ length run_bytes
    → moved_up_to run_bytes standing to j ≡ moved_up_to bytes present to (slice_index starts j)
runs_move bytes run_bytes starts present standing ranks to runs divides standing_divides are zero inside =
    ap (λ n. moved_up_to bytes present to n) (sym runs.begins)
runs_move bytes run_bytes starts present standing ranks to runs divides standing_divides are (suc j) inside =
    let before : moved_up_to run_bytes standing to j ≡ moved_up_to bytes present to (slice_index starts j) = runs_move bytes run_bytes
    starts present standing ranks to runs divides standing_divides are j (omega arith) in
    let around = block_around standing ranks j (omega (arith, standing_divides.starts)) (omega (arith, standing_divides.ends)) in
    let on : ℕ = around.0 in
    let ends : slice_index standing (on + 1) ≤ length run_bytes = (block_within (length run_bytes) ranks standing on standing_divides around.1).1 in
    let low : slice_index present on ≤ slice_index starts j = omega
    (arith, are on (omega (arith, around.1)), start_rises bytes run_bytes starts (slice_index standing on) j runs around.2 (omega arith)) in
    let high : slice_index starts (j + 1) ≤ slice_index present (on + 1) = omega (
      arith,
      are (on + 1) (omega (arith, around.1)),
      start_rises bytes run_bytes starts (j + 1) (slice_index standing (on + 1)) runs
          (omega (arith, around.3)) ends,
    ) in
    let here : block_of standing j ≡ on = block_of_is (length run_bytes) ranks standing on j standing_divides around.1 around.2 around.3 in
    let last : slice_index starts (j + 1) ≤ length bytes = omega
    (arith, start_rises bytes run_bytes starts (j + 1) (length run_bytes) runs (omega arith) (omega arith), runs.ends) in
    let block : moved_up_to bytes present to (slice_index starts (j + 1)) ≡ moved_up_to bytes present to
    (slice_index starts j) + moved_bytes (slice_index run_bytes j, on) to = moved_of_block bytes present to on (slice_index starts j)
    (slice_index starts (j + 1)) (slice_index run_bytes j) (omega (arith, runs.onward j (omega arith))) last
    (λ i from to. block_of_is (length bytes) ranks present on i divides around.1 (omega (arith, low, from)) (omega (arith, high, to)))
    (runs.weighs j (omega arith)) in
    let run : moved_bytes (slice_index run_bytes j, block_of standing j) to ≡ moved_bytes (slice_index run_bytes j, on) to = ap
    (λ q. moved_bytes (slice_index run_bytes j, q) to) here in
    let done : moved_up_to run_bytes standing to (suc j) ≡ moved_up_to bytes present to (slice_index starts (j + 1)) = omega (arith, before, block, run) in
    subst (λ n. moved_up_to run_bytes standing to (suc j) ≡ moved_up_to bytes present to (slice_index starts n)) (add-one j) done
