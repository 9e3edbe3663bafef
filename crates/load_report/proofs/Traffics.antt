-- The bytes of elements that move are loads, which are placed.
use Rattle.std.proofs.Common.{◌≡◌, ℕ, ◌+◌, ◌<◌, ◌≤◌, Bool, true, false, cond, List, length, map, ◌++◌, [], ◌∷◌, slice_index, slice_index_or, arith, subst, sym, ◌∙◌}
use Rattle.std.specs.List.{range_with_len}
use Rattle.std.proofs.lemmas.List.FromFn.{get_or-map-range_with_len, length-map-range_with_len, map-range_with_len_more}
use Rattle.chare_index.specs.declared.limits.TheConstants.Limits.{LOAD}
use Rattle.lb_certificates.specs.Naming.{moved_bytes}
use Rattle.lb_snapshot.specs.Measured.{IsLoads, IsSizes}
use Rattle.load_report.specs.Figures.{IsPlacement, moving}

-- the bytes of the elements below n
abbrev pub moving_below : List (ℕ × ℕ) → List ℕ → ℕ → List ℕ
moving_below sizes places n = map (λ i. moved_bytes (slice_index_or sizes i (0, 0)) (slice_index places i)) (range_with_len 0 n)

pub moving_more : (sizes : List (ℕ × ℕ)) (places : List ℕ) (i : ℕ)
    → moving_below sizes places (i + 1) ≡ moving_below sizes places i ++ moved_bytes (slice_index_or sizes i (0, 0)) (slice_index places i) ∷ []
moving_more sizes places i =
    map-range_with_len_more (λ k. moved_bytes (slice_index_or sizes k (0, 0)) (slice_index places k)) 0 i i (omega arith)

pub moving_len : (sizes : List (ℕ × ℕ)) (places : List ℕ) → length (moving sizes places) ≡ length sizes
moving_len sizes places = length-map-range_with_len (λ k. moved_bytes (slice_index_or sizes k (0, 0)) (slice_index places k)) 0 (length sizes)

moved_or_none : (b : Bool) (bytes most : ℕ) → bytes ≤ most → cond b 0 bytes ≤ most
moved_or_none true bytes most h = omega arith
moved_or_none false bytes most h = h

pub moving_loads : (sizes : List (ℕ × ℕ)) (places : List ℕ) → IsSizes sizes → IsLoads (moving sizes places)
moving_loads sizes places is =
    let f : ℕ → ℕ = λ k. moved_bytes (slice_index_or sizes k (0, 0)) (slice_index places k) in
    record {
      few = omega (arith, moving_len sizes places, is.few);
      small = λ i e inside.
          let below : i < length sizes = omega (arith, moving_len sizes places, inside) in
          let bytes : (slice_index_or sizes i (0, 0)).0 ≤ LOAD = omega (arith, is.small i (0, 0) below) in
          subst (λ units. units ≤ LOAD) (sym (get_or-map-range_with_len f 0 (length sizes) i i e below (omega arith))) (moved_or_none _ _ LOAD bytes);
    }

-- other loads of the same number of elements are placed too
pub also_placed : (loads others places : List ℕ) (pes : ℕ) → IsPlacement loads places pes → length others ≡ length loads → IsPlacement others places pes
also_placed loads others places pes is same = record { paired = is.paired ∙ sym same; placed = is.placed; few_pes = is.few_pes }
