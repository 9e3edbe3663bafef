-- Cuts of a merged chain that move the fewest bytes are such cuts of the chain, where the cuts that need be looked at begin runs.
use Rattle.std.proofs.Common.{◌≡◌, ℕ, zero, suc, ◌+◌, ◌<◌, ◌≤◌, List, length, slice_index, arith, ap, sym, ◌∙◌, subst, inl, inr}
use Rattle.std.proofs.lemmas.Bool.{cases_eq, cases_lt}
use Rattle.lb_certificates.specs.Chain.{IsDivision}
use Rattle.lb_certificates.specs.Naming.{bytes_moved, IsNaming}
use Rattle.chain_refinement.specs.Refinement.{AreFewest, AreNearest, AreWithin, LiesBetween}
use Rattle.chain_refinement.proofs.Orders.{apart_from_order}
use Rattle.merged_chains.specs.Merged.{IsStart, unmerged}
use Rattle.merged_chains.proofs.MergedPeaks.{start_rises}
use Rattle.merged_refinement.specs.InOrder.{AreFewestInOrder, AreNearestInOrder, in_order, sizes_on}
use Rattle.merged_refinement.specs.Merged.{AreBounds, IsMergedInOrder}
use Rattle.merged_refinement.proofs.Clamped.{clamp, clamped, clamped_at, clamped_cheaper, clamped_within, IsBounded}
use Rattle.merged_refinement.proofs.MergedCuts.{merged_within, runs_at, same_moved, same_run, unmerged_at, unmerged_within}
use Rattle.merged_refinement.proofs.Placed.{names_counted, names_differ, sizes_counted, stand_in_order}

-- a chain and its merged chain
pub record Merging : Type 0 where
  pub loads : List ℕ
  pub bytes : List ℕ
  pub present : List ℕ
  pub runs : List ℕ
  pub run_bytes : List ℕ
  pub starts : List ℕ
  pub standing : List ℕ
  pub ranks : ℕ
  pub limit : ℕ

abbrev pub IsMerging : Merging → Type 0
IsMerging m =
    IsMergedInOrder m.loads m.bytes m.present m.runs m.run_bytes m.starts m.standing m.ranks m.limit

abbrev names : Merging → List ℕ
names m = in_order m.ranks

abbrev sizes : Merging → List (ℕ × ℕ)
sizes m = sizes_on m.bytes m.present

abbrev run_sizes : Merging → List (ℕ × ℕ)
run_sizes m = sizes_on m.run_bytes m.standing

bounded : (m : Merging) (h : IsMerging m) → IsBounded m.loads (sizes m) (names m) m.present m.limit h.near h.far
bounded m h =
    let by_bytes : IsDivision 0 (length m.bytes) m.ranks m.present = subst (λ n. IsDivision 0 n m.ranks m.present) (sym h.paired) h.divides in
    record {
      paired = sizes_counted m.bytes m.present ∙ h.paired;
      some_block = omega (arith, names_counted m.ranks, h.some_block);
      divides = subst (λ n. IsDivision 0 (length m.loads) n m.present) (sym (names_counted m.ranks)) h.divides;
      apart = λ b inside. apart_from_order (sizes m) (names m) m.present b
          (subst (λ n. IsNaming n (names m)) (sym (names_counted m.ranks)) (names_differ m.ranks)) (stand_in_order m.bytes m.present m.ranks by_bytes) inside;
      bounds = subst (λ n. AreBounds m.loads m.present n m.limit h.near h.far) (sym (names_counted m.ranks)) h.bounds;
    }

-- there are as many runs by their bytes as by their loads
same_runs : (m : Merging) → IsMerging m → length m.run_bytes ≡ length m.runs
same_runs m h = omega (arith, h.runs_weigh.counted, h.runs_hold.counted)

-- cuts within the limit, both of the merged chain and of the chain
moved_same : (m : Merging) (cuts : List ℕ) → IsMerging m → AreWithin m.runs (names m) m.limit cuts
    → AreWithin m.loads (names m) m.limit (unmerged m.starts cuts)
    → bytes_moved (sizes m) (unmerged m.starts cuts) (names m) ≡ bytes_moved (run_sizes m) cuts (names m)
moved_same m cuts h short long =
    same_moved m.bytes m.run_bytes m.starts m.present m.standing cuts (names m) m.ranks h.runs_hold
    (subst (λ n. IsDivision 0 n m.ranks m.present) (sym h.paired) h.divides)
    (subst (λ n. IsDivision 0 n m.ranks m.standing) (sym (same_runs m h)) h.standing_divides) h.standing_is
    (subst (λ n. IsDivision 0 n (length (names m)) cuts) (sym (same_runs m h)) short.divides)
    (subst (λ n. IsDivision 0 n (length (names m)) (unmerged m.starts cuts)) (sym h.paired) long.divides)

-- cuts of the merged chain that start where these ones do, once they are moved to the bounds
record AreMoved (m : Merging) (near far others found : List ℕ) : Type 0 where
  pub same : unmerged m.starts found ≡ clamped (length (names m)) near far others
  pub within : AreWithin m.runs (names m) m.limit found
  pub cheaper : bytes_moved (run_sizes m) found (names m) ≤ bytes_moved (sizes m) others (names m)

-- each of them begins a run
each_starts : (m : Merging) (h : IsMerging m) (cuts : List ℕ) → AreWithin m.loads (names m) m.limit (clamped (length (names m)) h.near h.far cuts)
    → (b : ℕ) → b < length (clamped (length (names m)) h.near h.far cuts)
    → IsStart m.starts (slice_index (clamped (length (names m)) h.near h.far cuts) b)
each_starts m h cuts within b inside =
    let all : List ℕ = clamped (length (names m)) h.near h.far cuts in
    let count : length (names m) ≡ m.ranks = names_counted m.ranks in
    let last : b ≤ length (names m) = omega (arith, inside, within.divides.counted) in
    let here : slice_index all b ≡ clamp h.near h.far cuts b = clamped_at (length (names m)) h.near h.far cuts b last in
    elim (cases_eq b 0) [
      | inl begin ↦ (0, omega (arith, h.runs_weigh.counted), h.runs_weigh.begins ∙ sym (ap (slice_index all) begin ∙ within.divides.starts))
      | inr behind ↦ elim (cases_eq b (length (names m))) [
        | inl end ↦ (length m.runs, omega (arith, h.runs_weigh.counted), h.runs_weigh.ends ∙ sym (ap (slice_index all) end ∙ within.divides.ends))
        | inr inner ↦
            let some : 0 < b = omega (arith, behind) in
            let few : b < m.ranks = omega (arith, inner, last, count) in
            let before = h.bounds.near_before b (omega (arith, few)) in
            let after = h.bounds.far_behind b (omega (arith, few)) in
            h.kept all b within some few (omega (arith, here)) (omega (arith, here, before, after))
      ]
    ]

moved_to_bounds : (m : Merging) (h : IsMerging m) (others : List ℕ) → AreWithin m.loads (names m) m.limit others → (found : List ℕ) × AreMoved m h.near h.far others found
moved_to_bounds m h others within =
    let all : List ℕ = clamped (length (names m)) h.near h.far others in
    let moved : AreWithin m.loads (names m) m.limit all = clamped_within m.loads (sizes m) (names m) m.present m.limit h.near h.far others (bounded m h) within in
    let found = runs_at m.starts all (length m.runs) h.runs_weigh.counted (each_starts m h others moved) in
    let list : List ℕ = found.0 in
    let same : unmerged m.starts list ≡ all = found.1 in
    let whole : AreWithin m.loads (names m) m.limit (unmerged m.starts list) = subst (λ cuts. AreWithin m.loads (names m) m.limit cuts) (sym same) moved in
    let short : AreWithin m.runs (names m) m.limit list = merged_within m.loads m.runs m.starts (names m) list m.limit h.runs_weigh found.2 whole in
    let cost = clamped_cheaper m.loads (sizes m) (names m) m.present m.limit h.near h.far others (bounded m h) within.divides in
    let by_all : bytes_moved (sizes m) (unmerged m.starts list) (names m) ≡ bytes_moved (sizes m) all (names m) = ap (λ cuts. bytes_moved (sizes m) cuts (names m)) same in
    (list, record { same = same; within = short; cheaper = omega (arith, cost, by_all, moved_same m list h short whole) })

kept_fewest_of : (m : Merging) (cuts : List ℕ) → IsMerging m → AreFewest m.runs (run_sizes m) (names m) m.limit cuts
    → AreFewest m.loads (sizes m) (names m) m.limit (unmerged m.starts cuts)
kept_fewest_of m cuts h one =
    let whole : AreWithin m.loads (names m) m.limit (unmerged m.starts cuts) = unmerged_within m.loads m.runs m.starts (names m) cuts m.limit h.runs_weigh one.within in
    record {
      within = whole;
      fewest = λ others within.
          let found = moved_to_bounds m h others within in
          omega (arith, one.fewest found.0 found.1.within, moved_same m cuts h one.within whole, found.1.cheaper);
    }

-- where these others move the fewest bytes, so do the cuts of the merged chain that stand for them
fewest_back : (m : Merging) (near far others found : List ℕ) → IsMerging m → AreFewest m.loads (sizes m) (names m) m.limit others
    → AreMoved m near far others found → AreFewest m.runs (run_sizes m) (names m) m.limit found
fewest_back m near far others found h other moved =
    record {
      within = moved.within;
      fewest = λ cuts within.
          let whole : AreWithin m.loads (names m) m.limit (unmerged m.starts cuts) = unmerged_within m.loads m.runs m.starts (names m) cuts m.limit h.runs_weigh within in
          omega (arith, moved.cheaper, other.fewest (unmerged m.starts cuts) whole, moved_same m cuts h within whole);
    }

-- a cut is between its bounds
abbrev IsBetween : (near far cuts : List ℕ) → ℕ → Type 0
IsBetween near far cuts b =
    (slice_index near b ≤ slice_index cuts b) × (slice_index cuts b ≤ slice_index far b)

-- where both lists are the same behind a cut, so are the runs
same_behind : (m : Merging) (h : IsMerging m) (cuts others found : List ℕ) (k : ℕ) → AreWithin m.runs (names m) m.limit cuts
    → AreMoved m h.near h.far others found → 0 < k → k ≤ length (names m) → slice_index others k ≡ slice_index (unmerged m.starts cuts) k
    → (k < length (names m) → IsBetween h.near h.far (unmerged m.starts cuts) k) → slice_index found k ≡ slice_index cuts k
same_behind m h cuts others found k within moved some inside same between =
    let count : length (names m) ≡ m.ranks = names_counted m.ranks in
    let at_found : slice_index (unmerged m.starts found) k ≡ slice_index m.starts (slice_index found k) = unmerged_at m.starts found k
    (omega (arith, moved.within.divides.counted)) in
    let at_cuts : slice_index (unmerged m.starts cuts) k ≡ slice_index m.starts (slice_index cuts k) = unmerged_at m.starts cuts k (omega (arith, within.divides.counted)) in
    let moved_to : slice_index (unmerged m.starts found) k ≡ clamp h.near h.far others k = ap (λ list. slice_index list k) moved.same
    ∙ clamped_at (length (names m)) h.near h.far others k inside in
    let found_in : slice_index found k ≤ length m.runs = omega
    (arith, moved.within.divides.ordered k (length (names m)) 0 inside (omega (arith, moved.within.divides.counted)), moved.within.divides.ends) in
    let cut_in : slice_index cuts k ≤ length m.runs = omega
    (arith, within.divides.ordered k (length (names m)) 0 inside (omega (arith, within.divides.counted)), within.divides.ends) in
    elim (cases_lt k (length (names m))) [
      | inl inner ↦
          let here = between inner in
          same_run m.loads m.runs m.starts (slice_index found k) (slice_index cuts k) h.runs_weigh found_in cut_in
          (omega (arith, at_found, at_cuts, moved_to, same, here.0, here.1))
      | inr end ↦
          let last : k ≡ length (names m) = omega (arith, end, inside) in
          ap (slice_index found) last ∙ moved.within.divides.ends ∙ sym (ap (slice_index cuts) last ∙ within.divides.ends)
    ]

-- and the cut before lies between the present one and that of the others, moved to its bounds
between_at : (m : Merging) (h : IsMerging m) (cuts others : List ℕ) (b : ℕ) → AreNearest m.runs (run_sizes m) (names m) m.standing m.limit cuts
    → AreFewest m.loads (sizes m) (names m) m.limit others → b < length (names m)
    → ((k : ℕ) → b < k → k ≤ length (names m) → slice_index others k ≡ slice_index (unmerged m.starts cuts) k)
    → ((k : ℕ) → b < k → k < length (names m) → IsBetween h.near h.far (unmerged m.starts cuts) k)
    → LiesBetween (slice_index m.present b) (slice_index (unmerged m.starts cuts) b) (clamp h.near h.far others b)
between_at m h cuts others b one other inside same between =
    let found = moved_to_bounds m h others other.within in
    let list : List ℕ = found.0 in
    let moved : AreMoved m h.near h.far others list = found.1 in
    let count : length (names m) ≡ m.ranks = names_counted m.ranks in
    let cuts_within = one.fewest.within in
    let behind : (k : ℕ) → b < k → k ≤ length (names m) → slice_index list k ≡ slice_index cuts k = λ k after within.
    same_behind m h cuts others list k cuts_within moved (omega (arith, after)) within (same k after within) (λ inner. between k after inner) in
    let near : LiesBetween (slice_index m.standing b) (slice_index cuts b) (slice_index list b) = one.nearest list b
    (fewest_back m h.near h.far others list h other moved) inside behind in
    let at_present : slice_index m.present b ≡ slice_index m.starts (slice_index m.standing b) = ap (λ cuts. slice_index cuts b)
    h.standing_is ∙ unmerged_at m.starts m.standing b (omega (arith, h.standing_divides.counted, count)) in
    let at_cuts : slice_index (unmerged m.starts cuts) b ≡ slice_index m.starts (slice_index cuts b) = unmerged_at m.starts cuts b (omega (arith, cuts_within.divides.counted)) in
    let at_found : slice_index m.starts (slice_index list b) ≡ clamp h.near h.far others b = sym
    (unmerged_at m.starts list b (omega (arith, moved.within.divides.counted))) ∙ ap (λ cuts. slice_index cuts b) moved.same
    ∙ clamped_at (length (names m)) h.near h.far others b (omega arith) in
    let standing_in : slice_index m.standing b ≤ length m.runs = omega
    (arith, h.standing_divides.ordered b m.ranks 0 (omega (arith, count)) (omega (arith, h.standing_divides.counted)), h.standing_divides.ends) in
    let found_in : slice_index list b ≤ length m.runs = omega
    (arith, moved.within.divides.ordered b (length (names m)) 0 (omega arith) (omega (arith, moved.within.divides.counted)), moved.within.divides.ends) in
    elim near [
      | inl up ↦
          let one_up = start_rises m.loads m.runs m.starts (slice_index m.standing b) (slice_index cuts b) h.runs_weigh up.0 (omega (arith, up.1, found_in)) in
          let other_up = start_rises m.loads m.runs m.starts (slice_index cuts b) (slice_index list b) h.runs_weigh up.1 found_in in
          inl (omega (arith, one_up, at_present, at_cuts), omega (arith, other_up, at_cuts, at_found))
      | inr down ↦
          let one_down = start_rises m.loads m.runs m.starts (slice_index list b) (slice_index cuts b) h.runs_weigh down.0 (omega (arith, down.1, standing_in)) in
          let other_down = start_rises m.loads m.runs m.starts (slice_index cuts b) (slice_index m.standing b) h.runs_weigh down.1 standing_in in
          inr (omega (arith, one_down, at_cuts, at_found), omega (arith, other_down, at_present, at_cuts))
    ]

-- a cut between the present one and itself, moved to its bounds, is between these
stays_between : (near far present cuts : List ℕ) (b : ℕ) → slice_index near b ≤ slice_index present b → slice_index present b ≤ slice_index far b
    → LiesBetween (slice_index present b) (slice_index cuts b) (clamp near far cuts b) → IsBetween near far cuts b
stays_between near far present cuts b before behind (inl up) =
    (omega (arith, up.0, up.1, before, behind), omega (arith, up.0, up.1, before, behind))
stays_between near far present cuts b before behind (inr down) =
    (omega (arith, down.0, down.1, before, behind), omega (arith, down.0, down.1, before, behind))

-- the nearest cuts are between the bounds
nearest_between : (m : Merging) (h : IsMerging m) (cuts : List ℕ) (left : ℕ) → AreNearest m.runs (run_sizes m) (names m) m.standing m.limit cuts
    → (k : ℕ) → length (names m) ≤ k + left → k < length (names m) → IsBetween h.near h.far (unmerged m.starts cuts) k
nearest_between m h cuts zero one k from inside = absurd (omega (arith, from, inside))
nearest_between m h cuts (suc left) one k from inside =
    let behind : (j : ℕ) → k < j → j < length (names m)
    → IsBetween h.near h.far (unmerged m.starts cuts) j = λ j after within. nearest_between m h cuts left one j (omega (arith, after, from)) within in
    let few : k ≤ m.ranks = omega (arith, inside, names_counted m.ranks) in
    stays_between h.near h.far m.present (unmerged m.starts cuts) k (h.bounds.near_before k few) (h.bounds.far_behind k few)
    (between_at m h cuts (unmerged m.starts cuts) k one (kept_fewest_of m cuts h one.fewest) inside (λ j after within. omega arith) behind)

-- what lies between the present cut and another that is moved to its bounds lies between these two
between_whole : (near far present others : List ℕ) (b cut : ℕ) → slice_index near b ≤ slice_index present b
    → slice_index present b ≤ slice_index far b → LiesBetween (slice_index present b) cut (clamp near far others b)
    → LiesBetween (slice_index present b) cut (slice_index others b)
between_whole near far present others b cut before behind between =
    elim (cases_lt (slice_index others b) (slice_index present b)) [
      | inl early ↦ elim between [
        | inl up ↦ inr (omega (arith, early, before, behind, up.0, up.1), omega (arith, early, before, behind, up.0, up.1))
        | inr down ↦ inr (omega (arith, early, before, behind, down.0, down.1), omega (arith, down.1))
      ]
      | inr late ↦ elim between [
        | inl up ↦ inl (omega (arith, up.0), omega (arith, late, before, behind, up.0, up.1))
        | inr down ↦ inl (omega (arith, late, before, behind, down.0, down.1), omega (arith, late, before, behind, down.0, down.1))
      ]
    ]

kept_nearest_of : (m : Merging) (cuts : List ℕ) → IsMerging m → AreNearest m.runs (run_sizes m) (names m) m.standing m.limit cuts
    → AreNearest m.loads (sizes m) (names m) m.present m.limit (unmerged m.starts cuts)
kept_nearest_of m cuts h one =
    record {
      fewest = kept_fewest_of m cuts h one.fewest;
      nearest = λ others b other inside same.
          let few : b ≤ m.ranks = omega (arith, inside, names_counted m.ranks) in
          between_whole h.near h.far m.present others b (slice_index (unmerged m.starts cuts) b) (h.bounds.near_before b few)
          (h.bounds.far_behind b few) (between_at m h cuts others b one other inside same
          (λ k after within. nearest_between m h cuts (length (names m)) one k (omega arith) within));
    }

pub kept_fewest : (loads bytes present runs run_bytes starts standing : List ℕ) (ranks limit : ℕ) (cuts : List ℕ)
    → IsMergedInOrder loads bytes present runs run_bytes starts standing ranks limit → AreFewestInOrder runs run_bytes standing ranks limit cuts
    → AreFewestInOrder loads bytes present ranks limit (unmerged starts cuts)
kept_fewest loads bytes present runs run_bytes starts standing ranks limit cuts h one =
    kept_fewest_of (record {
      loads = loads;
      bytes = bytes;
      present = present;
      runs = runs;
      run_bytes = run_bytes;
      starts = starts;
      standing = standing;
      ranks = ranks;
      limit = limit;
    }) cuts h one

pub kept_nearest : (loads bytes present runs run_bytes starts standing : List ℕ) (ranks limit : ℕ) (cuts : List ℕ)
    → IsMergedInOrder loads bytes present runs run_bytes starts standing ranks limit → AreNearestInOrder runs run_bytes standing ranks limit cuts
    → AreNearestInOrder loads bytes present ranks limit (unmerged starts cuts)
kept_nearest loads bytes present runs run_bytes starts standing ranks limit cuts h one =
    kept_nearest_of (record {
      loads = loads;
      bytes = bytes;
      present = present;
      runs = runs;
      run_bytes = run_bytes;
      starts = starts;
      standing = standing;
      ranks = ranks;
      limit = limit;
    }) cuts h one
