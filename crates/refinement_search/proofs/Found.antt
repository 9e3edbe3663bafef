-- What a search has found.
use Rattle.std.proofs.Common.{◌≡◌, ℕ, zero, suc, ◌+◌, ◌-◌, ◌*◌, ◌^◌, ◌<◌, ◌≤◌, List, length, slice_index, arith, sym, subst}
use Rattle.lb_snapshot.specs.Measured.{IsSizes}
use Rattle.chare_index.specs.declared.limits.TheConstants.Limits.{PES}
use Rattle.lb_certificates.specs.Naming.{total, IsNaming}
use Rattle.chain_refinement.specs.Orders.{StandInOrder}
use Rattle.chain_refinement.proofs.Orders.{apart_from_order}
use Rattle.chain_refinement.specs.Refinement.{AreNearest, AreProved, AreWithin, cut_cost, cuts_cost, height_at}
use Rattle.refinement_search.specs.Chains.{ArePiledOn, IsSpanned}
use Rattle.refinement_search.specs.Tables.{AreRead, AreSpans, IsSearch, Searched}
use Rattle.refinement_search.specs.Windows.{AreStarts}
use Rattle.refinement_search.specs.declared.rows.RowInputs.{RowInputs}
use Rattle.refinement_search.proofs.CostsBack.{cost_few}
use Rattle.refinement_search.proofs.Nearest.{read_nearest}
use Rattle.refinement_search.specs.Spans.{AreFars, AreNears}
use Rattle.refinement_search.proofs.RowPlaces.{spans_of}
use Rattle.refinement_search.proofs.Tables.{read_begins, read_bound, read_within, starts_rise}

-- what is searched, with these heights as its table
abbrev searched : RowInputs → List ℕ → ℕ → List (List (ℕ × ℕ)) → Searched
searched c loads limit heights =
    record {
      loads = loads;
      sizes = c.sizes.now;
      names = c.names.now;
      present = c.present.now;
      limit = limit;
      none = 2 ^ 62;
      start = slice_index c.starts.now;
      near = slice_index c.near.now;
      far = slice_index c.far.now;
      at = height_at heights;
    }

-- what a search has found
pub record AreFound (c : RowInputs) (loads : List ℕ) (limit : ℕ) (heights : List (List (ℕ × ℕ))) (cuts : List ℕ) : Type 0 where
  pub chain : IsSpanned c
  pub paired : length loads ≡ length c.sizes.now
  pub starts : AreStarts loads limit (slice_index c.starts.now)
  pub counted : length heights ≡ length c.names.now
  pub piled : ArePiledOn c (length c.names.now) (height_at heights)
  pub read : AreRead (length heights) c.present.now (length c.starts.now - 1) (slice_index c.starts.now) (height_at heights) cuts
  pub some_within : (others : List ℕ) × AreWithin loads c.names.now limit others

is_search : (c : RowInputs) (loads : List ℕ) (limit : ℕ) (heights : List (List (ℕ × ℕ))) (cuts : List ℕ) → AreFound c loads limit heights cuts
    → IsSearch (searched c loads limit heights)
is_search c loads limit heights cuts h =
    record {
      paired = h.paired;
      some_block = h.chain.some_block;
      divides = h.chain.divides;
      apart = h.chain.apart;
      starts = h.starts;
      spans = subst (λ n. AreSpans c.present.now (length c.names.now) n (slice_index c.starts.now) (slice_index c.near.now) (slice_index c.far.now)) (sym h.paired) h.chain.spans;
      table = h.piled;
    }

reading : (c : RowInputs) (loads : List ℕ) (limit : ℕ) (heights : List (List (ℕ × ℕ))) (cuts : List ℕ) → AreFound c loads limit heights cuts
    → AreRead (length c.names.now) c.present.now (length loads) (slice_index c.starts.now) (height_at heights) cuts
reading c loads limit heights cuts h =
    let elements : length c.starts.now - 1 ≡ length loads = omega (arith, h.chain.counted, h.paired) in
    subst (λ n. AreRead (length c.names.now) c.present.now n (slice_index c.starts.now) (height_at heights) cuts) elements
    (subst (λ n. AreRead n c.present.now (length c.starts.now - 1) (slice_index c.starts.now) (height_at heights) cuts) h.counted h.read)

costs_by : (sizes : List (ℕ × ℕ)) (names cuts : List ℕ) (n : ℕ) → IsSizes sizes → total n (λ b. cut_cost sizes names b (slice_index cuts (b + 1))) ≤ n * 2 ^ 37
costs_by sizes names cuts zero valid = omega arith
costs_by sizes names cuts (suc n) valid =
    omega (arith, costs_by sizes names cuts n valid, cost_few sizes (slice_index names n) (slice_index names (n + 1)) (slice_index cuts (n + 1)) valid)

begins : (c : RowInputs) (loads : List ℕ) (limit : ℕ) (heights : List (List (ℕ × ℕ))) (cuts : List ℕ) → AreFound c loads limit heights cuts
    → slice_index c.starts.now (slice_index cuts 1) ≡ 0
begins c loads limit heights cuts h =
    let others : List ℕ = h.some_within.0 in
    let few : cuts_cost c.sizes.now c.names.now others < 2 ^ 62 = omega
    (arith, costs_by c.sizes.now c.names.now others (length c.names.now - 1) h.chain.sized, h.chain.few_blocks) in
    read_begins (searched c loads limit heights) cuts others (is_search c loads limit heights cuts h) (reading c loads limit heights cuts h) h.some_within.1 few

pub proved_where_found : (c : RowInputs) (loads : List ℕ) (limit : ℕ) (heights : List (List (ℕ × ℕ))) (cuts : List ℕ)
    → AreFound c loads limit heights cuts → AreProved loads c.sizes.now c.names.now limit cuts heights
proved_where_found c loads limit heights cuts h =
    let one = is_search c loads limit heights cuts h in
    let read = reading c loads limit heights cuts h in
    let from = begins c loads limit heights cuts h in
    record {
      some_block = h.chain.some_block;
      few_blocks = h.chain.few_blocks;
      counted = h.counted;
      within = read_within (searched c loads limit heights) cuts one read from;
      bound = read_bound (searched c loads limit heights) cuts one read from;
    }

pub nearest_where_found : (c : RowInputs) (loads : List ℕ) (limit : ℕ) (heights : List (List (ℕ × ℕ))) (cuts : List ℕ)
    → AreFound c loads limit heights cuts → AreNearest loads c.sizes.now c.names.now c.present.now limit cuts
nearest_where_found c loads limit heights cuts h =
    read_nearest (searched c loads limit heights) cuts (is_search c loads limit heights cuts h) (reading c loads limit heights cuts h) (begins c loads limit heights cuts h)

-- the least starts of a chain never fall
starts_onward : (loads : List ℕ) (limit : ℕ) (starts : List ℕ) (x y : ℕ) → length starts ≡ length loads + 1
    → AreStarts loads limit (slice_index starts) → x ≤ y → y < length starts → slice_index starts x ≤ slice_index starts y
starts_onward loads limit starts x y counted are onward inside =
    starts_rise loads limit (slice_index starts) x y are onward (omega arith)

-- the lists of a chain fit together, where each is what its maker promises
pub spanned : (c : RowInputs) (loads : List ℕ) (limit : ℕ) → IsSizes c.sizes.now → length loads ≡ length c.sizes.now → 0 < length c.names.now
    → length c.names.now ≤ PES → IsNaming (length c.names.now) c.names.now → StandInOrder c.sizes.now c.names.now c.present.now
    → length c.starts.now ≡ length loads + 1 → AreStarts loads limit (slice_index c.starts.now) → length c.near.now ≡ length c.names.now
    → AreNears c.present.now (length c.names.now) (slice_index c.starts.now) (slice_index c.near.now)
    → length c.far.now ≡ length c.names.now → AreFars c.present.now (length c.names.now) (length c.starts.now - 1)
    (slice_index c.starts.now) (slice_index c.far.now) → IsSpanned c
spanned c loads limit sized paired some few naming order counted starts nears near fars far =
    let elements : length c.starts.now - 1 ≡ length c.sizes.now = omega arith in
    record {
      sized = sized;
      some_block = some;
      few_blocks = few;
      counted = omega arith;
      before = λ x inside. (starts x (omega arith)).inside;
      onward = λ x y onward inside. starts_onward loads limit c.starts.now x y counted starts onward inside;
      divides = order.divides;
      apart = λ b inside. apart_from_order c.sizes.now c.names.now c.present.now b naming order inside;
      nears = nears;
      fars = fars;
      spans = spans_of c.present.now (length c.names.now) (length c.sizes.now) (slice_index c.starts.now) (slice_index c.near.now)
          (slice_index c.far.now) near (subst (λ n. AreFars c.present.now (length c.names.now) n (slice_index c.starts.now)
          (slice_index c.far.now)) elements far);
    }
