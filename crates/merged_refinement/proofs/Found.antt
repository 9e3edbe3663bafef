-- What the search has found.
use Rattle.std.proofs.Common.{◌≡◌, ℕ, zero, suc, ◌+◌, ◌-◌, ◌^◌, ◌<◌, ◌≤◌, List, length, slice_index, sum, arith, ap, sym, ◌∙◌, subst, add-one}
use Rattle.lb_snapshot.specs.Measured.{load}
use Rattle.lb_certificates.specs.Chain.{IsDivision}
use Rattle.lb_certificates.specs.Naming.{total, IsNaming}
use Rattle.lb_certificates.proofs.Chains.{block_within}
use Rattle.chain_partition.proofs.RunningSums.{load_split, load_within}
use Rattle.chain_refinement.proofs.Orders.{apart_from_order}
use Rattle.chain_refinement.specs.Refinement.{AreWithin, cut_cost, cuts_cost}
use Rattle.refinement_search.specs.Tables.{ArePiled, AreRead, AreSpans, IsSearch, Searched}
use Rattle.refinement_search.specs.Windows.{AreStarts}
use Rattle.merged_refinement.specs.InOrder.{AreNearestInOrder, in_order, sizes_on}
use Rattle.merged_refinement.specs.Merged.{AreBounds}
use Rattle.merged_refinement.specs.Rows.{ArePiledUp, IsReadOff, rows_at}
use Rattle.merged_refinement.specs.declared.pile.Table.{Table}
use Rattle.merged_refinement.proofs.Placed.{names_counted, names_differ, sizes_counted, stand_in_order}
use Rattle.merged_refinement.proofs.ReadNearest.{read_nearest}
use Rattle.merged_refinement.proofs.StandingCosts.{cost_few, cost_is}
use Rattle.merged_refinement.proofs.Tables.{cut_inside, read_begins}

-- between the bounds are places of rows
spans_of : (loads present near far : List ℕ) (blocks limit : ℕ) (start : ℕ → ℕ) → 0 < blocks → IsDivision 0 (length loads) blocks present
    → AreStarts loads limit start → AreBounds loads present blocks limit near far
    → AreSpans present blocks (length loads) start (slice_index near) (slice_index far)
spans_of loads present near far blocks limit start some divides starts h =
    let present_in : (b : ℕ) → b ≤ blocks → slice_index present b ≤ length loads = λ b inside. omega
    (arith, divides.ordered b blocks 0 inside (omega (arith, divides.counted)), divides.ends) in
    let near_rises : (b : ℕ) → b < blocks → slice_index near b ≤ slice_index near (b + 1) = λ b inside. h.near_divides.ordered b (b + 1) 0
    (omega arith) (omega (arith, h.near_divides.counted)) in
    let far_rises : (b : ℕ) → b < blocks → slice_index far b ≤ slice_index far (b + 1) = λ b inside. h.far_divides.ordered b (b + 1) 0
    (omega arith) (omega (arith, h.far_divides.counted)) in
    let far_in : (b : ℕ) → b ≤ blocks → slice_index far b ≤ length loads = λ b inside. omega
    (arith, h.far_divides.ordered b blocks 0 inside (omega (arith, h.far_divides.counted)), h.far_divides.ends) in
    let last : blocks - 1 + 1 ≡ blocks = omega arith in
    let end : slice_index far (blocks - 1 + 1) ≡ length loads = ap (slice_index far) last ∙ h.far_divides.ends in
    let light : load loads (slice_index far (blocks - 1)) (length loads) ≤ limit = subst
    (λ n. load loads (slice_index far (blocks - 1)) n ≤ limit) end (h.far_within (blocks - 1) (omega arith)) in
    record {
      first = h.near_divides.starts;
      near_before = λ b inside. h.near_before b (omega arith);
      near_rises = λ b inside. near_rises b (omega arith);
      near_reached = λ b inside.
          let before = h.near_before (b + 1) (omega arith) in
          (starts (slice_index near (b + 1)) (omega (arith, before, present_in (b + 1) (omega arith)))).least (slice_index near b)
          (near_rises b (omega arith)) (h.near_within b (omega arith));
      far_behind = λ b inside. h.far_behind b (omega arith);
      far_inside = λ b inside. far_in b (omega arith);
      far_reached = λ b inside. (starts (slice_index far (b + 1)) (far_in (b + 1) (omega arith))).least (slice_index far b)
          (far_rises b (omega arith)) (h.far_within b (omega arith));
      far_last = (starts (length loads) (omega arith)).least (slice_index far (blocks - 1)) (far_in (blocks - 1) (omega arith)) light;
    }

-- what is searched
pub record IsFound (loads bytes : List ℕ) (limit : ℕ) (t : Table) (cuts : List ℕ) : Type 0 where
  pub some_block : 2 ≤ length t.near.now
  pub paired : length bytes ≡ length loads
  pub light : sum bytes < 2 ^ 61
  pub counted : length t.starts.now ≡ length loads + 1
  pub divides : IsDivision 0 (length loads) (length t.near.now - 1) t.present.now
  pub starts : AreStarts loads limit (slice_index t.starts.now)
  pub bounds : AreBounds loads t.present.now (length t.near.now - 1) limit t.near.now t.far.now
  pub read : IsReadOff bytes t cuts

-- by the lists that the search keeps
pub found_of : (loads bytes : List ℕ) (limit : ℕ) (t : Table) (starts cuts : List ℕ) → t.starts.now ≡ starts → length starts ≡ length loads + 1
    → AreStarts loads limit (slice_index starts) → 2 ≤ length t.near.now → length bytes ≡ length loads → sum bytes < 2 ^ 61
    → IsDivision 0 (length loads) (length t.near.now - 1) t.present.now
    → AreBounds loads t.present.now (length t.near.now - 1) limit t.near.now t.far.now → IsReadOff bytes t cuts → IsFound loads bytes limit t cuts
found_of loads bytes limit t starts cuts same counted are some paired light divides bounds read =
    record {
      some_block = some;
      paired = paired;
      light = light;
      counted = omega (arith, ap length same, counted);
      divides = divides;
      starts = subst (λ list. AreStarts loads limit (slice_index list)) (sym same) are;
      bounds = bounds;
      read = read;
    }

abbrev blocks : Table → ℕ
blocks t = length t.near.now - 1

abbrev names : Table → List ℕ
names t = in_order (length t.near.now - 1)

abbrev searched : List ℕ → List ℕ → ℕ → Table → List (ℕ × List ℕ) → Searched
searched loads bytes limit t rows =
    record {
      loads = loads;
      sizes = sizes_on bytes t.present.now;
      names = names t;
      present = t.present.now;
      limit = limit;
      none = 2 ^ 62;
      start = slice_index t.starts.now;
      near = slice_index t.near.now;
      far = slice_index t.far.now;
      at = rows_at rows;
    }

by_bytes : (loads bytes : List ℕ) (limit : ℕ) (t : Table) (cuts : List ℕ) → IsFound loads bytes limit t cuts → IsDivision 0 (length bytes) (blocks t) t.present.now
by_bytes loads bytes limit t cuts h =
    subst (λ n. IsDivision 0 n (blocks t) t.present.now) (sym h.paired) h.divides

is_search : (loads bytes : List ℕ) (limit : ℕ) (t : Table) (cuts : List ℕ) (h : IsFound loads bytes limit t cuts) → IsSearch (searched loads bytes limit t h.read.rows)
is_search loads bytes limit t cuts h =
    let count : blocks t ≡ length (names t) = sym (names_counted (blocks t)) in
    let held : length bytes ≡ length (sizes_on bytes t.present.now) = sym (sizes_counted bytes t.present.now) in
    let stands = stand_in_order bytes t.present.now (blocks t) (by_bytes loads bytes limit t cuts h) in
    record {
      paired = sym h.paired ∙ held;
      some_block = omega (arith, count, h.some_block);
      divides = stands.divides;
      apart = λ b inside. apart_from_order (sizes_on bytes t.present.now) (names t) t.present.now b
          (subst (λ n. IsNaming n (names t)) count (names_differ (blocks t))) stands inside;
      starts = h.starts;
      spans = subst (λ n. AreSpans t.present.now n (length loads) (slice_index t.starts.now) (slice_index t.near.now)
          (slice_index t.far.now)) count (spans_of loads t.present.now t.near.now t.far.now (blocks t) limit (slice_index t.starts.now)
          (omega (arith, h.some_block)) h.divides h.starts h.bounds);
      table = subst (λ n. ArePiled (sizes_on bytes t.present.now) (names t) (2 ^ 62) (slice_index t.starts.now) (slice_index t.near.now)
          (slice_index t.far.now) n (rows_at h.read.rows)) count h.read.piled;
    }

reading : (loads bytes : List ℕ) (limit : ℕ) (t : Table) (cuts : List ℕ) (h : IsFound loads bytes limit t cuts)
    → AreRead (length (names t)) t.present.now (length loads) (slice_index t.starts.now) (rows_at h.read.rows) cuts
reading loads bytes limit t cuts h =
    subst (λ n. AreRead (length (names t)) t.present.now n (slice_index t.starts.now) (rows_at h.read.rows) cuts) h.paired
    (subst (λ n. AreRead n t.present.now (length bytes) (slice_index t.starts.now) (rows_at h.read.rows) cuts) (sym (names_counted (blocks t))) h.read.read)

-- what some cuts cost
costs_by : (bytes present cuts : List ℕ) (ranks n : ℕ) → IsDivision 0 (length bytes) ranks present → IsDivision 0 (length bytes) ranks cuts
    → n < ranks
    → total n (λ b. cut_cost (sizes_on bytes present) (in_order ranks) b (slice_index cuts (b + 1))) ≤ load bytes 0
    (slice_index present n) + load bytes 0 (slice_index present (n + 1))
costs_by bytes present cuts ranks zero divides within few = omega arith
costs_by bytes present cuts ranks (suc n) divides within few =
    let one = block_within (length bytes) ranks present n divides (omega arith) in
    let other = block_within (length bytes) ranks present (n + 1) divides (omega arith) in
    let cut_in = (block_within (length bytes) ranks cuts n within (omega arith)).1 in
    let before = costs_by bytes present cuts ranks n divides within (omega arith) in
    let done : total (suc n) (λ b. cut_cost (sizes_on bytes present) (in_order ranks) b (slice_index cuts (b + 1))) ≤ load bytes 0
    (slice_index present (n + 1)) + load bytes 0 (slice_index present (n + 1 + 1)) = omega (
      arith,
      before,
      cost_is bytes present ranks n (slice_index cuts (n + 1)) divides (omega arith) cut_in,
      cost_few bytes (slice_index present n) (slice_index present (n + 1)) (slice_index present (n + 1 + 1)) (slice_index cuts (n + 1)) one.0 other.0,
      load_split bytes (slice_index present n) (slice_index present (n + 1)) one.0,
      load_split bytes (slice_index present (n + 1)) (slice_index present (n + 1 + 1)) other.0,
    ) in
    subst (λ k. total (suc n) (λ b. cut_cost (sizes_on bytes present) (in_order ranks) b (slice_index cuts (b + 1))) ≤ load bytes 0
    (slice_index present k) + load bytes 0 (slice_index present (k + 1))) (add-one n) done

few_bytes : (loads bytes : List ℕ) (limit : ℕ) (t : Table) (cuts others : List ℕ) → IsFound loads bytes limit t cuts
    → AreWithin loads (names t) limit others → cuts_cost (sizes_on bytes t.present.now) (names t) others < 2 ^ 62
few_bytes loads bytes limit t cuts others h within =
    let count : length (names t) ≡ blocks t = names_counted (blocks t) in
    let by_length : IsDivision 0 (length bytes) (blocks t) others = subst (λ n. IsDivision 0 (length bytes) n others) count
    (subst (λ n. IsDivision 0 n (length (names t)) others) (sym h.paired) within.divides) in
    let last : length (names t) - 1 ≡ blocks t - 1 = omega (arith, count) in
    let costs : total (blocks t - 1) (λ b. cut_cost (sizes_on bytes t.present.now) (names t) b (slice_index others (b + 1))) ≤ load bytes 0
    (slice_index t.present.now (blocks t - 1)) + load bytes 0 (slice_index t.present.now (blocks t - 1 + 1)) = costs_by bytes
    t.present.now others (blocks t) (blocks t - 1) (by_bytes loads bytes limit t cuts h) by_length (omega (arith, h.some_block)) in
    let all : cuts_cost (sizes_on bytes t.present.now) (names t) others ≤ load bytes 0 (slice_index t.present.now (blocks t - 1)) + load
    bytes 0 (slice_index t.present.now (blocks t - 1 + 1)) = subst
    (λ n. total n (λ b. cut_cost (sizes_on bytes t.present.now) (names t) b (slice_index others (b + 1))) ≤ load bytes 0
    (slice_index t.present.now (blocks t - 1)) + load bytes 0 (slice_index t.present.now (blocks t - 1 + 1))) (sym last) costs in
    omega (
      arith,
      all,
      h.light,
      load_within bytes 0 (slice_index t.present.now (blocks t - 1)) (omega arith),
      load_within bytes 0 (slice_index t.present.now (blocks t - 1 + 1)) (omega arith),
    )

pub found_nearest : (loads bytes : List ℕ) (limit : ℕ) (t : Table) (cuts : List ℕ) → IsFound loads bytes limit t cuts
    → slice_index t.starts.now (slice_index cuts 1) ≤ 0 → AreNearestInOrder loads bytes t.present.now (length t.near.now - 1) limit cuts
found_nearest loads bytes limit t cuts h begins =
    read_nearest (searched loads bytes limit t h.read.rows) cuts (is_search loads bytes limit t cuts h) (reading loads bytes limit t cuts h) (omega (arith, begins))

pub none_found : (loads bytes : List ℕ) (limit : ℕ) (t : Table) (cuts others : List ℕ) → IsFound loads bytes limit t cuts
    → 0 < slice_index t.starts.now (slice_index cuts 1) → ¬ (AreWithin loads (in_order (length t.near.now - 1)) limit others)
none_found loads bytes limit t cuts others h late within =
    omega (
      arith,
      late,
      read_begins (searched loads bytes limit t h.read.rows) cuts others (is_search loads bytes limit t cuts h)
          (reading loads bytes limit t cuts h) within (few_bytes loads bytes limit t cuts others h within),
    )

-- the first cut between blocks is a place
pub first_inside : (loads bytes : List ℕ) (limit : ℕ) (t : Table) (cuts : List ℕ) → IsFound loads bytes limit t cuts → slice_index cuts 1 ≤ length loads
first_inside loads bytes limit t cuts h =
    cut_inside (searched loads bytes limit t h.read.rows) cuts 0 (is_search loads bytes limit t cuts h) (reading loads bytes limit t cuts h)
    (omega (arith, names_counted (blocks t), h.some_block))

-- rows never fall
pub rows_rise : (bytes : List ℕ) (t : Table) (ranks : ℕ) (rows : List (ℕ × List ℕ)) (b x y : ℕ) → ArePiledUp bytes t ranks rows → b < ranks → x ≤ y
    → rows_at rows b x ≤ rows_at rows b y
rows_rise bytes t ranks rows zero x y piled inside onward = piled.rises x y onward
rows_rise bytes t ranks rows (suc b) x y piled inside onward =
    subst (λ n. rows_at rows n x ≤ rows_at rows n y) (add-one b) ((piled.rows b (omega arith)).rises x y onward)
