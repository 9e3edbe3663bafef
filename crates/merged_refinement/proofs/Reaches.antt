-- How far cuts within a limit reach.
use Rattle.std.proofs.Common.{◌≡◌, ℕ, zero, suc, ◌+◌, ◌-◌, ◌<◌, ◌≤◌, List, length, slice_index, arith, sym, subst, add-one, inl, inr}
use Rattle.std.proofs.lemmas.Bool.{cases_lt}
use Rattle.lb_snapshot.specs.Measured.{load}
use Rattle.lb_certificates.proofs.Chains.{block_within, load_wider}
use Rattle.chain_refinement.specs.Refinement.{AreWithin}
use Rattle.merged_chains.proofs.MergedPeaks.{load_back}
use Rattle.merged_refinement.specs.Merged.{AreReaches, KeepsCuts, KeepsPlaces}
use Rattle.merged_refinement.specs.InOrder.{in_order}
use Rattle.merged_refinement.proofs.Placed.{names_counted}

-- a range that is above a limit is no wider than one within it
not_inside : (loads : List ℕ) (limit a b c d : ℕ) → limit < load loads a b → load loads c d ≤ limit → c ≤ a → b ≤ d → ⊥
not_inside loads limit a b c d heavy light before behind =
    elim (cases_lt b a) [
      | inl back ↦ omega (arith, heavy, load_back loads a b (omega (arith, back)))
      | inr onward ↦ omega (arith, heavy, light, load_wider loads a b c d before onward behind)
    ]

-- no cut lies before its first place
pub not_before : (loads names cuts first last : List ℕ) (limit : ℕ) (left : ℕ) → AreReaches loads (length names) limit first last
    → AreWithin loads names limit cuts → (b : ℕ) → length names ≤ b + left → b ≤ length names → slice_index first b ≤ slice_index cuts b
not_before loads names cuts first last limit zero h within b from inside =
    let end : length names ≡ b = omega (arith, from, inside) in
    subst (λ n. slice_index first n ≤ slice_index cuts n) end (omega (arith, h.first_ends, within.divides.ends))
not_before loads names cuts first last limit (suc left) h within b from inside =
    elim (cases_lt b (length names)) [
      | inr end ↦ not_before loads names cuts first last limit left h within b (omega (arith, end)) inside
      | inl inner ↦
          let next : slice_index first (b + 1) ≤ slice_index cuts (b + 1) = not_before loads names cuts first last limit left h within
          (b + 1) (omega (arith, from)) (omega (arith, inner)) in
          elim (cases_lt (slice_index cuts b) (slice_index first b)) [
            | inr on ↦ on
            | inl early ↦ elim (h.first_heavy b inner) [
              | inl begin ↦ absurd (omega (arith, early, begin))
              | inr heavy ↦ absurd (not_inside loads limit (slice_index first b - 1) (slice_index first (b + 1)) (slice_index cuts b)
                  (slice_index cuts (b + 1)) heavy (within.within b inner) (omega (arith, early)) next)
            ]
          ]
    ]

-- and none behind its last place
pub not_behind : (loads names cuts first last : List ℕ) (limit : ℕ) → AreReaches loads (length names) limit first last
    → AreWithin loads names limit cuts → (b : ℕ) → b ≤ length names → slice_index cuts b ≤ slice_index last b
not_behind loads names cuts first last limit h within zero inside = omega (arith, within.divides.starts)
not_behind loads names cuts first last limit h within (suc b) inside =
    let inner : b < length names = omega (arith, inside) in
    let before : slice_index cuts b ≤ slice_index last b = not_behind loads names cuts first last limit h within b (omega (arith, inside)) in
    let cut_in = (block_within (length loads) (length names) cuts b within.divides inner).1 in
    let here : slice_index cuts (b + 1) ≤ slice_index last (b + 1) = elim (cases_lt (slice_index last (b + 1)) (slice_index cuts (b + 1))) [
      | inr on ↦ on
      | inl late ↦ elim (h.last_heavy b inner) [
        | inl end ↦ absurd (omega (arith, late, end, cut_in))
        | inr heavy ↦ absurd (not_inside loads limit (slice_index last b) (slice_index last (b + 1) + 1) (slice_index cuts b)
            (slice_index cuts (b + 1)) heavy (within.within b inner) before (omega (arith, late)))
      ]
    ] in
    subst (λ n. slice_index cuts n ≤ slice_index last n) (add-one b) here

pub places_keep : (loads starts near far first last : List ℕ) (blocks limit : ℕ) → AreReaches loads blocks limit first last
    → KeepsPlaces starts blocks near far first last → KeepsCuts loads starts blocks limit near far
places_keep loads starts near far first last blocks limit h kept cuts b within some few from to =
    let count : length (in_order blocks) ≡ blocks = names_counted blocks in
    let reaches : AreReaches loads (length (in_order blocks)) limit first last = subst (λ n. AreReaches loads n limit first last) (sym count) h in
    kept b (slice_index cuts b) some few from (not_before loads (in_order blocks) cuts first last limit (length (in_order blocks)) reaches
    within b (omega arith) (omega (arith, few, count))) to
    (not_behind loads (in_order blocks) cuts first last limit reaches within b (omega (arith, few, count)))
