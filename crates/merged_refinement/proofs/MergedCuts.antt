-- Cuts of a merged chain, and the cuts of the chain at which their runs start.
use Rattle.std.proofs.Common.{◌≡◌, ℕ, zero, suc, ◌+◌, ◌<◌, ◌≤◌, List, [], ◌∷◌, length, slice_index, slice_range, sum_by, arith, refl, ap, sym, ◌∙◌, subst, inl, inr}
use Rattle.std.proofs.lemmas.Bool.{cases_lt}
use Rattle.std.proofs.lemmas.List.{length-map, get_or-map}
use Rattle.std.proofs.lemmas.List.Sorted.{IsNonDecreasingBy-from_default}
use Rattle.lb_snapshot.specs.Measured.{load}
use Rattle.lb_certificates.specs.Chain.{IsDivision}
use Rattle.lb_certificates.specs.Naming.{block_cost, bytes_moved, moved_bytes}
use Rattle.lb_certificates.proofs.BlockSums.{moved_is_cost}
use Rattle.lb_certificates.proofs.Chains.{block_within}
use Rattle.lb_certificates.proofs.Totals.{sum_after, total_same}
use Rattle.chain_refinement.specs.Refinement.{AreWithin}
use Rattle.merged_chains.specs.Merged.{AreRuns, IsStart, unmerged}
use Rattle.merged_chains.proofs.MergedPeaks.{runs_weigh, start_rises}
use Rattle.merged_refinement.specs.InOrder.{sizes_on}
use Rattle.merged_refinement.proofs.Placed.{moved_of_sizes, moved_up_to, runs_move, sizes_counted}

-- a later run starts later
pub start_later : (loads runs starts : List ℕ) (a b : ℕ) → AreRuns loads runs starts → a < b → b ≤ length runs → slice_index starts a < slice_index starts b
start_later loads runs starts a b h before inside =
    omega (arith, h.onward a (omega arith), start_rises loads runs starts (a + 1) b h (omega arith) inside)

start_back : (loads runs starts : List ℕ) (a b : ℕ) → AreRuns loads runs starts → a ≤ length runs → slice_index starts a ≤ slice_index starts b → a ≤ b
start_back loads runs starts a b h inside below =
    elim (cases_lt b a) [
      | inl later ↦ absurd (omega (arith, below, start_later loads runs starts b a h later inside))
      | inr before ↦ before
    ]

-- two runs that start at one element are the same
pub same_run : (loads runs starts : List ℕ) (a b : ℕ) → AreRuns loads runs starts → a ≤ length runs → b ≤ length runs → slice_index starts a ≡ slice_index starts b → a ≡ b
same_run loads runs starts a b h one other same =
    omega (arith, start_back loads runs starts a b h one (omega (arith, same)), start_back loads runs starts b a h other (omega (arith, same)))

pub unmerged_at : (starts cuts : List ℕ) (b : ℕ) → b < length cuts → slice_index (unmerged starts cuts) b ≡ slice_index starts (slice_index cuts b)
unmerged_at starts cuts b inside = get_or-map (λ cut. slice_index starts cut) cuts b 0 0 inside

pub unmerged_counted : (starts cuts : List ℕ) → length (unmerged starts cuts) ≡ length cuts
unmerged_counted starts cuts = length-map cuts (λ cut. slice_index starts cut)

-- cuts of the merged chain within a limit are cuts of the chain within it
pub unmerged_within : (loads runs starts names cuts : List ℕ) (limit : ℕ) → AreRuns loads runs starts → AreWithin runs names limit cuts
    → AreWithin loads names limit (unmerged starts cuts)
unmerged_within loads runs starts names cuts limit h within =
    record {
      divides = record {
        counted = unmerged_counted starts cuts ∙ within.divides.counted;
        starts = unmerged_at starts cuts 0 (omega (arith, within.divides.counted)) ∙ ap (slice_index starts) within.divides.starts ∙ h.begins;
        ordered = IsNonDecreasingBy-from_default (λ x. x) (unmerged starts cuts) 0 (λ i j onward inside.
            let few : j < length cuts = omega (arith, inside, unmerged_counted starts cuts) in
            omega (
              arith,
              unmerged_at starts cuts i (omega (arith, onward, few)),
              unmerged_at starts cuts j few,
              start_rises loads runs starts (slice_index cuts i) (slice_index cuts j) h (within.divides.ordered i j 0 onward few)
                  (omega (
                    arith,
                    within.divides.ordered j (length names) 0 (omega (arith, few, within.divides.counted))
                        (omega (arith, within.divides.counted)),
                    within.divides.ends,
                  )),
            ));
        ends = unmerged_at starts cuts (length names) (omega (arith, within.divides.counted)) ∙ ap (slice_index starts) within.divides.ends ∙ h.ends;
      };
      within = λ b inside.
          let block = block_within (length runs) (length names) cuts b within.divides inside in
          rw (
            unmerged_at starts cuts b (omega (arith, within.divides.counted)),
            unmerged_at starts cuts (b + 1) (omega (arith, within.divides.counted)),
          )
          (omega (arith, within.within b inside, runs_weigh loads runs starts (slice_index cuts b) (slice_index cuts (b + 1)) h block.0 block.1));
    }

-- each of the cuts is that of a run that there is
abbrev pub AreInside : List ℕ → List ℕ → Type 0
AreInside runs cuts = (b : ℕ) → b < length cuts → slice_index cuts b ≤ length runs

-- and the other way round
pub merged_within : (loads runs starts names cuts : List ℕ) (limit : ℕ) → AreRuns loads runs starts → AreInside runs cuts
    → AreWithin loads names limit (unmerged starts cuts) → AreWithin runs names limit cuts
merged_within loads runs starts names cuts limit h inside within =
    let counted : length cuts ≡ length names + 1 = sym (unmerged_counted starts cuts) ∙ within.divides.counted in
    let rises : (i j : ℕ) → i ≤ j → j < length cuts → slice_index cuts i ≤ slice_index cuts j = λ i j onward few.
    start_back loads runs starts (slice_index cuts i) (slice_index cuts j) h (inside i (omega (arith, onward, few))) (omega (
      arith,
      unmerged_at starts cuts i (omega (arith, onward, few)),
      unmerged_at starts cuts j few,
      within.divides.ordered i j 0 onward (omega (arith, few, unmerged_counted starts cuts)),
    )) in
    record {
      divides = record {
        counted = counted;
        starts = same_run loads runs starts (slice_index cuts 0) 0 h (inside 0 (omega (arith, counted))) (omega arith)
            (sym (unmerged_at starts cuts 0 (omega (arith, counted))) ∙ within.divides.starts ∙ sym h.begins);
        ordered = IsNonDecreasingBy-from_default (λ x. x) cuts 0 rises;
        ends = same_run loads runs starts (slice_index cuts (length names)) (length runs) h (inside (length names) (omega (arith, counted)))
            (omega arith) (sym (unmerged_at starts cuts (length names) (omega (arith, counted))) ∙ within.divides.ends ∙ sym h.ends);
      };
      within = λ b block.
          let light : load loads (slice_index starts (slice_index cuts b)) (slice_index starts (slice_index cuts (b + 1))) ≤ limit = rw
          (unmerged_at starts cuts b (omega (arith, counted)), unmerged_at starts cuts (b + 1) (omega (arith, counted))) at (within.within b block) in
          omega (
            arith,
            light,
            runs_weigh loads runs starts (slice_index cuts b) (slice_index cuts (b + 1)) h
                (rises b (b + 1) (omega arith) (omega (arith, counted))) (inside (b + 1) (omega (arith, counted))),
          );
    }

inside_cons : (n x : ℕ) (xs : List ℕ) → x ≤ n → ((b : ℕ) → b < length xs → slice_index xs b ≤ n) → (b : ℕ) → b < length (x ∷ xs) → slice_index (x ∷ xs) b ≤ n
inside_cons n x xs first rest zero inside = first
inside_cons n x xs first rest (suc b) inside = rest b (omega arith)

-- cuts that each begin a run are cuts of the merged chain
pub runs_at : (starts cuts : List ℕ) (n : ℕ) → length starts ≡ n + 1 → ((b : ℕ) → b < length cuts → IsStart starts (slice_index cuts b))
    → (found : List ℕ) × (unmerged starts found ≡ cuts) × ((b : ℕ) → b < length found → slice_index found b ≤ n)
runs_at starts [] n counted kept = ([], refl, λ b inside. absurd (omega arith))
runs_at starts (cut ∷ cuts) n counted kept =
    let first = kept 0 (omega arith) in
    let rest = runs_at starts cuts n counted (λ b inside. kept (suc b) (omega arith)) in
    let here : slice_index starts first.0 ≡ cut = first.2 in
    let others : unmerged starts rest.0 ≡ cuts = rest.1 in
    (first.0 ∷ rest.0, cc, inside_cons n first.0 rest.0 (omega (arith, first.1, counted)) rest.2)

-- what a range of elements moves
range_moves : (bytes present : List ℕ) (to a b : ℕ) → a ≤ b → b ≤ length bytes
    → moved_up_to bytes present to a + sum_by (λ size. moved_bytes size to) (slice_range (sizes_on bytes present) a b) ≡ moved_up_to bytes present to b
range_moves bytes present to a b onward inside =
    omega (
      arith,
      sum_after (λ size. moved_bytes size to) (sizes_on bytes present) a b onward,
      moved_of_sizes bytes present to a (omega arith),
      moved_of_sizes bytes present to b inside,
    )

-- a block of runs moves to a rank what the block of their elements moves
block_moves : (bytes run_bytes starts present standing cuts : List ℕ) (ranks blocks to b : ℕ) → AreRuns bytes run_bytes starts
    → IsDivision 0 (length bytes) ranks present → IsDivision 0 (length run_bytes) ranks standing → present ≡ unmerged starts standing
    → IsDivision 0 (length run_bytes) blocks cuts → b < blocks
    → block_cost (sizes_on bytes present) (unmerged starts cuts) b to ≡ block_cost (sizes_on run_bytes standing) cuts b to
block_moves bytes run_bytes starts present standing cuts ranks blocks to b runs divides standing_divides are cut inside =
    let block = block_within (length run_bytes) blocks cuts b cut inside in
    let one : ℕ = slice_index cuts b in
    let other : ℕ = slice_index cuts (b + 1) in
    let placed : (k : ℕ) → k ≤ ranks → slice_index present k ≡ slice_index starts (slice_index standing k) = λ k few.
    ap (λ list. slice_index list k) are ∙ unmerged_at starts standing k (omega (arith, standing_divides.counted)) in
    let rises : slice_index starts one ≤ slice_index starts other = start_rises bytes run_bytes starts one other runs block.0 block.1 in
    let last : slice_index starts other ≤ length bytes = omega (arith, start_rises bytes run_bytes starts other (length run_bytes) runs block.1 (omega arith), runs.ends) in
    rw (unmerged_at starts cuts b (omega (arith, cut.counted)), unmerged_at starts cuts (b + 1) (omega (arith, cut.counted))) (omega (
      arith,
      range_moves bytes present to (slice_index starts one) (slice_index starts other) rises last,
      range_moves run_bytes standing to one other block.0 block.1,
      runs_move bytes run_bytes starts present standing ranks to runs divides standing_divides placed one (omega (arith, block.0, block.1)),
      runs_move bytes run_bytes starts present standing ranks to runs divides standing_divides placed other block.1,
    ))

-- so cuts of the merged chain move what those of the chain move
pub same_moved : (bytes run_bytes starts present standing cuts names : List ℕ) (ranks : ℕ) → AreRuns bytes run_bytes starts
    → IsDivision 0 (length bytes) ranks present → IsDivision 0 (length run_bytes) ranks standing → present ≡ unmerged starts standing
    → IsDivision 0 (length run_bytes) (length names) cuts → IsDivision 0 (length bytes) (length names) (unmerged starts cuts)
    → bytes_moved (sizes_on bytes present) (unmerged starts cuts) names ≡ bytes_moved (sizes_on run_bytes standing) cuts names
same_moved bytes run_bytes starts present standing cuts names ranks runs divides standing_divides are cut whole =
    let blocks : ℕ = length names in
    let long = moved_is_cost (sizes_on bytes present) (unmerged starts cuts) names blocks
    (subst (λ n. IsDivision 0 n blocks (unmerged starts cuts)) (sym (sizes_counted bytes present)) whole) in
    let short = moved_is_cost (sizes_on run_bytes standing) cuts names blocks (subst (λ n. IsDivision 0 n blocks cuts) (sym (sizes_counted run_bytes standing)) cut) in
    long ∙ total_same blocks (λ b. block_cost (sizes_on bytes present) (unmerged starts cuts) b (slice_index names b))
    (λ b. block_cost (sizes_on run_bytes standing) cuts b (slice_index names b))
    (λ b inside. block_moves bytes run_bytes starts present standing cuts ranks blocks (slice_index names b) b runs divides
    standing_divides are cut inside) ∙ sym short
