-- What the walk along the chain keeps, and where it ends.
use Rattle.std.proofs.Common.{◌≡◌, ◌≢◌, ℕ, ◌+◌, ◌-◌, ◌^◌, ◌<◌, ◌≤◌, inl, inr, true, eqb, cond, ◌||◌, List, length, get_or, slice_index, slice_set, slice_range, sum_by, IsFalse, arith, refl, subst, sym, ap, ◌∙◌, get_or-set_same, get_or-set_other}
use Rattle.std.proofs.lemmas.Bool.{cases_eq, cases_lt, eq-eqb, ne_eqb}
use Rattle.std.proofs.lemmas.Bool.Decides.{eqb_tells, leb_tells}
use Rattle.std.proofs.lemmas.List.{length-set}
use Rattle.std.proofs.lemmas.List.Sums.{sum_by_more, sum_by-le, sum_by-take-le}
use Rattle.std.proofs.Math.Nat.{mul-le-mul_right}
use Rattle.chare_index.specs.declared.limits.TheConstants.Limits.{PES, STATE_BYTES}
use Rattle.lb_snapshot.specs.Measured.{IsSizes, load}
use Rattle.lb_certificates.proofs.Totals.{sum_after}
use Rattle.lb_certificates.proofs.Chains.{load_wider}
use Rattle.chain_refinement.specs.Refinement.{held_bytes}
use Rattle.chain_refinement.proofs.CutCosts.{elements_whole}
use Rattle.chain_refinement.proofs.Windows.{empty_load}
use Rattle.any_order.specs.AnyOrder.{home, brought, level_at, RisesTo}
use Rattle.any_order.specs.Internal.{AreMeasured, bytes_between, Claimed, held_between, high_at, is_high_level, is_low_level, IsAt, IsCornerOf, IsFirstEnd, IsHolding, IsMost, IsRisen, IsWalk, low_at, RisesAt, RisesFrom}
use Rattle.any_order.specs.declared.block.Pair.{Pair}
use Rattle.any_order.specs.declared.most.Most.{Most}
use Rattle.any_order.specs.declared.row.At.{At}
use Rattle.any_order.proofs.Mosts.{nothing_held}
use Rattle.any_order.proofs.Corners.{none_rises_here, rises_here}

-- a sum over one more element
pub between_more : {X : Type 0} (f : X → ℕ) (xs : List X) (y x : ℕ) (d : X) → y ≤ x → x < length xs
    → sum_by f (slice_range xs y (x + 1)) ≡ sum_by f (slice_range xs y x) + f (get_or xs x d)
between_more f xs y x d onward inside =
    omega (arith, sum_after f xs y (x + 1) (omega arith), sum_after f xs y x onward, sum_by_more f xs x d inside)

-- what a block brings to a PE, and what is on that PE already, are its bytes
pub block_whole : (sizes : List (ℕ × ℕ)) (y x pe : ℕ) → brought sizes y x pe + held_between sizes y x pe ≡ bytes_between sizes y x
block_whole sizes y x pe = elements_whole (slice_range sizes y x) pe

-- all bytes are few
pub bytes_few : (sizes : List (ℕ × ℕ)) (y x : ℕ) (d : ℕ × ℕ) → IsSizes sizes → y ≤ x → x < length sizes → bytes_between sizes y x + (get_or sizes x d).0 ≤ 2 ^ 36
bytes_few sizes y x d h onward inside =
    omega (
      arith,
      between_more (λ (size : ℕ × ℕ). size.0) sizes y x d onward inside,
      sum_after (λ (size : ℕ × ℕ). size.0) sizes y (x + 1) (omega arith),
      sum_by-take-le (λ (size : ℕ × ℕ). size.0) sizes (x + 1),
      sum_by-le (λ (size : ℕ × ℕ). size.0) STATE_BYTES sizes h.small,
      mul-le-mul_right STATE_BYTES h.few,
    )

pub bytes_fit : (sizes : List (ℕ × ℕ)) (y x bytes : ℕ) (d : ℕ × ℕ) → IsSizes sizes → y ≤ x → x < length sizes → bytes ≡ bytes_between sizes y x
    → bytes + (get_or sizes x d).0 < 2 ^ 64
bytes_fit sizes y x bytes d h onward inside same = omega (arith, same, bytes_few sizes y x d h onward inside)

pub kept_fit : (sizes : List (ℕ × ℕ)) (y x own bytes : ℕ) (kept : List ℕ) (most : Most) (d : ℕ × ℕ) → IsSizes sizes → y ≤ x → x < length sizes
    → IsHolding sizes y x own kept most bytes → (get_or sizes x d).1 < PES → slice_index kept (get_or sizes x d).1 + (get_or sizes x d).0 < 2 ^ 64
kept_fit sizes y x own bytes kept most d h onward inside holding pe_low =
    omega (arith, holding.kept_is (get_or sizes x d).1 pe_low, block_whole sizes y x (get_or sizes x d).1, bytes_few sizes y x d h onward inside)

held_at : (element : ℕ × ℕ) (pe : ℕ) → pe ≡ element.1 → held_bytes element pe ≡ element.0
held_at element pe same = grind (arith, eqb_tells)

held_not_at : (element : ℕ × ℕ) (pe : ℕ) → pe ≢ element.1 → held_bytes element pe ≡ 0
held_not_at element pe apart = grind (arith, eqb_tells)

-- one more element
pub next_holding : (sizes : List (ℕ × ℕ)) (y x own bytes : ℕ) (kept : List ℕ) (most result : Most) (d : ℕ × ℕ) → y ≤ x → x < length sizes
    → IsHolding sizes y x own kept most bytes → (get_or sizes x d).1 < PES
    → ((held next : ℕ → ℕ) → IsMost held own most → held (get_or sizes x d).1 ≡ slice_index kept (get_or sizes x d).1
    → ((pe : ℕ) → next pe ≡ held pe + held_bytes (get_or sizes x d) pe) → IsMost next own result)
    → IsHolding sizes y (x + 1) own (slice_set kept (get_or sizes x d).1 (slice_index kept (get_or sizes x d).1 + (get_or sizes x d).0)) result (bytes + (get_or sizes x d).0)
next_holding sizes y x own bytes kept most result d onward inside holding pe_low joins =
    let element : ℕ × ℕ = get_or sizes x d in
    let now : ℕ = slice_index kept element.1 + element.0 in
    let more : (pe : ℕ) → held_between sizes y (x + 1) pe ≡ held_between sizes y x pe + held_bytes element pe = λ pe. between_more
    (λ size. held_bytes size pe) sizes y x d onward inside in
    let there : element.1 < length kept = omega (arith, holding.counted, pe_low) in
    record {
      counted = length-set kept element.1 now ∙ holding.counted;
      kept_is = λ pe low. elim (cases_eq pe element.1) [
        | inl same ↦ subst (λ p. slice_index (slice_set kept element.1 now) p ≡ held_between sizes y (x + 1) p) (sym same)
            (omega (arith, get_or-set_same kept element.1 now 0 there, more element.1, held_at element element.1 refl, holding.kept_is element.1 pe_low))
        | inr apart ↦ omega (arith, get_or-set_other kept element.1 pe now 0 apart, more pe, held_not_at element pe apart, holding.kept_is pe low)
      ];
      most_is = joins (held_between sizes y x) (held_between sizes y (x + 1)) holding.most_is (sym (holding.kept_is element.1 pe_low)) more;
      bytes_is = omega (arith, holding.bytes_is, between_more (λ (size : ℕ × ℕ). size.0) sizes y x d onward inside);
    }

-- bounds that pass the test rise by no more than the block brings to any PE
pub rises_by_block : (sizes : List (ℕ × ℕ)) (any free next_any next_free : ℕ → ℕ) (y x bytes own_bytes : ℕ) (most : Most)
    → own_bytes ≡ held_between sizes y x (home sizes y) → IsMost (held_between sizes y x) (home sizes y) most → bytes ≡ bytes_between sizes y x
    → IsRisen (record { any = any y; free = free y }) (record { any = next_any x; free = next_free x }) (home sizes y) (home sizes x)
    (record { bytes = bytes; own = own_bytes; most = most }) → RisesTo sizes any free next_any next_free y x
rises_by_block sizes any free next_any next_free y x bytes own_bytes most own_is most_is bytes_is risen =
    let held : ℕ → ℕ = held_between sizes y x in
    let whole : (pe : ℕ) → brought sizes y x pe + held pe ≡ bytes_between sizes y x = block_whole sizes y x in
    let at_own : (pe : ℕ) → home sizes y ≡ pe → held pe ≡ own_bytes = λ pe same. ap held (sym same) ∙ sym own_is in
    record {
      of_any = λ pe. elim (eqb_tells (home sizes y) pe) [
        | inl same ↦ rw same.0 (omega (arith, risen.on_own, whole pe, at_own pe same.1, bytes_is))
        | inr apart ↦ rw apart.0 (omega (arith, risen.on_other, whole pe, most_is.above pe (λ e. apart.1 (sym e)), bytes_is))
      ];
      of_free = λ pe elsewhere. elim (eqb_tells (home sizes y) pe) [
        | inl same ↦ rw same.0 (omega (arith, risen.free_on_own (λ e. elsewhere (sym e ∙ same.1)), whole pe, at_own pe same.1, bytes_is))
        | inr apart ↦ rw apart.0 (elim (eqb_tells (home sizes y) (home sizes x)) [
          | inl level ↦ rw level.0 (omega (arith, risen.free_kept level.1, whole pe, most_is.above pe (λ e. apart.1 (sym e)), bytes_is))
          | inr other ↦ rw other.0 (elim (cases_eq (home sizes x) most.pe) [
            | inl top ↦ omega (arith, risen.free_but_most other.1 top, whole pe, most_is.others_above pe (λ e. apart.1 (sym e)) (λ e. elsewhere (top ∙ sym e)), bytes_is)
            | inr not_top ↦ omega (arith, risen.free_on_other other.1 not_top, whole pe, most_is.above pe (λ e. apart.1 (sym e)), bytes_is)
          ])
        ])
      ];
    }

-- and bounds that rise by no more than the block brings to any PE pass the test
pub risen_by_rises : (sizes : List (ℕ × ℕ)) (any free next_any next_free : ℕ → ℕ) (y x bytes own_bytes : ℕ) (most : Most)
    → own_bytes ≡ held_between sizes y x (home sizes y) → IsMost (held_between sizes y x) (home sizes y) most → bytes ≡ bytes_between sizes y x
    → RisesTo sizes any free next_any next_free y x → IsRisen (record { any = any y; free = free y })
    (record { any = next_any x; free = next_free x }) (home sizes y) (home sizes x) (record { bytes = bytes; own = own_bytes; most = most })
risen_by_rises sizes any free next_any next_free y x bytes own_bytes most own_is most_is bytes_is rises =
    let own : ℕ = home sizes y in
    let there : ℕ = home sizes x in
    let held : ℕ → ℕ = held_between sizes y x in
    let whole : (pe : ℕ) → brought sizes y x pe + held pe ≡ bytes_between sizes y x = block_whole sizes y x in
    let (other, away, below, reached) = most_is.others_reached in
    let foreign : own ≢ most.pe = λ e. most_is.apart (sym e) in
    let any_own : next_any x ≤ free y + brought sizes y x own = subst (λ t. next_any x ≤ cond t (free y) (any y) + brought sizes y x own)
    (eq-eqb own own refl) (rises.of_any own) in
    let any_most : next_any x ≤ any y + brought sizes y x most.pe = subst
    (λ t. next_any x ≤ cond t (free y) (any y) + brought sizes y x most.pe) (ne_eqb own most.pe foreign) (rises.of_any most.pe) in
    let free_own : there ≢ own → next_free x ≤ free y + brought sizes y x own = λ apart. subst
    (λ t. next_free x ≤ cond (t || eqb own there) (free y) (any y) + brought sizes y x own) (eq-eqb own own refl) (rises.of_free own apart) in
    let free_same : own ≡ there → there ≢ most.pe → next_free x ≤ free y + brought sizes y x most.pe = λ same apart. subst
    (λ t. next_free x ≤ cond t (free y) (any y) + brought sizes y x most.pe) (eq-eqb own there same)
    (subst (λ t. next_free x ≤ cond (t || eqb own there) (free y) (any y) + brought sizes y x most.pe) (ne_eqb own most.pe foreign)
    (rises.of_free most.pe apart)) in
    let free_at : (pe : ℕ) → own ≢ pe → own ≢ there → there ≢ pe
    → next_free x ≤ any y + brought sizes y x pe = λ pe off apart apart_too. subst
    (λ t. next_free x ≤ cond t (free y) (any y) + brought sizes y x pe) (ne_eqb own there apart)
    (subst (λ t. next_free x ≤ cond (t || eqb own there) (free y) (any y) + brought sizes y x pe) (ne_eqb own pe off) (rises.of_free pe apart_too)) in
    record {
      on_own = omega (arith, any_own, whole own, own_is, bytes_is);
      on_other = omega (arith, any_most, whole most.pe, most_is.reached, bytes_is);
      free_kept = λ same. omega (arith, free_same same (λ e. foreign (same ∙ e)), whole most.pe, most_is.reached, bytes_is);
      free_on_own = λ apart. omega (arith, free_own (λ e. apart (sym e)), whole own, own_is, bytes_is);
      free_but_most = λ apart top. omega (arith, free_at other (λ e. away (sym e)) apart (λ e. below (sym e ∙ top)), whole other, reached, bytes_is);
      free_on_other = λ apart away. omega (arith, free_at most.pe foreign apart away, whole most.pe, most_is.reached, bytes_is);
    }

-- an empty block
pub empty_rises : (claim : Claimed) (y : ℕ) → (high_at claim y).any ≤ (low_at claim y).any → (high_at claim y).any ≤ (low_at claim y).free
    → (high_at claim y).free ≤ (low_at claim y).free → RisesFrom claim y (y + 1)
empty_rises claim y any_here kept_here free_here x low high within light corner =
    subst (λ z. RisesAt claim y z) (omega arith) (rises_here claim.sizes (level_at claim.any 0) (level_at claim.free 0)
    (level_at claim.next_any 0) (level_at claim.next_free 0) y any_here kept_here free_here)

pub empty_steep : (claim : Claimed) (y : ℕ) → y ≤ length claim.loads
    → ¬ (((high_at claim y).any ≤ (low_at claim y).any) × ((high_at claim y).any ≤ (low_at claim y).free) × ((high_at claim y).free ≤ (low_at claim y).free))
    → IsFirstEnd claim y y
empty_steep claim y inside rises =
    record {
      steep = record {
        onward = omega arith;
        inside = inside;
        light = omega (arith, empty_load claim.loads y);
        corner = inl refl;
        steep = λ h. rises (none_rises_here claim.sizes (level_at claim.any 0) (level_at claim.free 0) (level_at claim.next_any 0) (level_at claim.next_free 0) y h);
      };
      earlier = λ x low high. absurd (omega (arith, low, high));
    }

-- where the bounds are on a level, or at the end of the chain, no other block has to be looked at
pub none_ahead : (claim : Claimed) (y : ℕ) → RisesFrom claim y (y + 1) → (y < length claim.loads → is_low_level claim y ≡ true) → RisesFrom claim y (length claim.loads + 1)
none_ahead claim y here level x low high within light (inl same) = here x low (omega (arith, same)) within light (inl same)
none_ahead claim y here level x low high within light (inr (edge, ends)) =
    elim (cases_lt y x) [
      | inl before ↦
          let flat : is_low_level claim y ≡ true = level (omega (arith, before, within)) in
          absurd cc
      | inr at ↦ here x low (omega (arith, at)) within light (inr (edge, ends))
    ]

-- bounds that rise as they should as far as a place also do at the next one
pub next_risen : (claim : Claimed) (y x : ℕ) → RisesFrom claim y (x + 1) → (IsFalse (is_high_level claim x) → RisesAt claim y (x + 1)) → y ≤ x → RisesFrom claim y (x + 1 + 1)
next_risen claim y x before here onward z low high within light corner =
    elim (leb_tells z x) [
      | inl earlier ↦ before z low (omega (arith, earlier.1)) within light corner
      | inr last ↦
          let same : x + 1 ≡ z = omega (arith, last.1, high) in
          let back : z - 1 ≡ x = omega (arith, same) in
          subst (λ n. RisesAt claim y n) same (here (at_end z back (omega (arith, same, onward)) corner))
    ]
  where
    at_end : (z : ℕ) → z - 1 ≡ x → y < z → IsCornerOf claim y z → IsFalse (is_high_level claim x)
    at_end z back ahead (inl same) = absurd (omega (arith, same, ahead))
    at_end z back ahead (inr (edge, ends)) = subst (λ n. IsFalse (is_high_level claim n)) back ends

-- behind a block that is too heavy all blocks are too heavy
pub too_heavy : (claim : Claimed) (y x weight : ℕ) → y ≤ x → x < length claim.loads → RisesFrom claim y (x + 1) → weight ≡ load claim.loads y x
    → claim.limit < weight + get_or claim.loads x 0 → RisesFrom claim y (length claim.loads + 1)
too_heavy claim y x weight onward inside before weighed heavy z low high within light corner =
    elim (leb_tells z x) [
      | inl earlier ↦ before z low (omega (arith, earlier.1)) within light corner
      | inr last ↦ absurd (omega (
        arith,
        weighed,
        heavy,
        light,
        between_more (λ n. n) claim.loads y x 0 onward inside,
        load_wider claim.loads y (x + 1) y z (omega arith) (omega arith) (omega (arith, last.1)),
      ))
    ]

-- what is held behind one more element
pub held_next : (claim : Claimed) (y x own bytes size : ℕ) (kept joined : List ℕ) (most result : Most) → AreMeasured claim.loads claim.sizes
    → y ≤ x → x < length claim.loads → IsHolding claim.sizes y x own kept most bytes
    → (get_or claim.sizes x (0, 0)).1 < PES → size ≡ (get_or claim.sizes x (0, 0)).0
    → joined ≡ slice_set kept (get_or claim.sizes x (0, 0)).1 (slice_index kept (get_or claim.sizes x (0, 0)).1 + (get_or claim.sizes x (0, 0)).0)
    → ((held next : ℕ → ℕ) → IsMost held own most → held (get_or claim.sizes x (0, 0)).1 ≡ slice_index kept (get_or claim.sizes x (0, 0)).1
    → ((pe : ℕ) → next pe ≡ held pe + held_bytes (get_or claim.sizes x (0, 0)) pe) → IsMost next own result)
    → IsHolding claim.sizes y (x + 1) own joined result (bytes + size)
held_next claim y x own bytes size kept joined most result measured onward inside holding pe_low size_is joined_is joins =
    let at_element : IsHolding claim.sizes y (x + 1) own
    (slice_set kept (get_or claim.sizes x (0, 0)).1 (slice_index kept
    (get_or claim.sizes x (0, 0)).1 + (get_or claim.sizes x (0, 0)).0)) result (bytes + (get_or claim.sizes x (0, 0)).0) =
    next_holding claim.sizes y x own bytes kept most result (0, 0) onward (omega (arith, measured.paired, inside)) holding pe_low joins in
    let at_size : IsHolding claim.sizes y (x + 1) own (slice_set kept (get_or claim.sizes x (0, 0)).1
    (slice_index kept (get_or claim.sizes x (0, 0)).1 + (get_or claim.sizes x (0, 0)).0)) result (bytes + size) = subst
    (λ n. IsHolding claim.sizes y (x + 1) own (slice_set kept (get_or claim.sizes x (0, 0)).1
    (slice_index kept (get_or claim.sizes x (0, 0)).1 + (get_or claim.sizes x (0, 0)).0)) result (bytes + n)) (sym size_is) at_element in
    subst (λ l. IsHolding claim.sizes y (x + 1) own l result (bytes + size)) (sym joined_is) at_size

-- one more element on the walk
pub next_walk : (claim : Claimed) (y x own bytes weight units own_bytes : ℕ) (kept : List ℕ) (most : Most) (next : At) → y ≤ x → x < length claim.loads
    → weight ≡ load claim.loads y x → RisesFrom claim y (x + 1) → units ≡ get_or claim.loads x 0
    → IsHolding claim.sizes y (x + 1) own kept most bytes → own ≡ home claim.sizes y → own < PES → own_bytes ≡ slice_index kept own
    → IsAt claim.next_any claim.next_free (x + 1) next
    → (IsFalse (is_high_level claim x) → IsRisen (low_at claim y) (high_at claim (x + 1)) own (home claim.sizes (x + 1)) (record { bytes = bytes; own = own_bytes; most = most }))
    → IsWalk claim y (x + 1) own kept most bytes (weight + units) next
next_walk claim y x own bytes weight units own_bytes kept most next onward inside weighed before units_is holding own_is own_low own_bytes_is there risen =
    let kept_own : own_bytes ≡ held_between claim.sizes y (x + 1) own = own_bytes_is ∙ holding.kept_is own own_low in
    record {
      holding = holding;
      weighed = omega (arith, weighed, units_is, between_more (λ n. n) claim.loads y x 0 onward inside);
      risen = next_risen claim y x before (λ level.
          rises_by_block claim.sizes (level_at claim.any 0) (level_at claim.free 0) (level_at claim.next_any 0) (level_at claim.next_free 0) y (x + 1) bytes own_bytes most
          (subst (λ o. own_bytes ≡ held_between claim.sizes y (x + 1) o) own_is kept_own)
          (subst (λ o. IsMost (held_between claim.sizes y (x + 1)) o most) own_is holding.most_is)
          holding.bytes_is
          (subst (λ o. IsRisen (low_at claim y) (high_at claim (x + 1)) o (home claim.sizes (x + 1))
          (record { bytes = bytes; own = own_bytes; most = most })) own_is (risen level))) onward;
      high_is = there;
    }

-- the first end of a block at which bounds rise by more
pub steep_end : (claim : Claimed) (y x own bytes weight units own_bytes : ℕ) (kept : List ℕ) (most : Most) → y ≤ x → x < length claim.loads → IsFalse (is_low_level claim y)
    → weight ≡ load claim.loads y x → RisesFrom claim y (x + 1) → units ≡ get_or claim.loads x 0 → weight + units ≤ claim.limit
    → IsHolding claim.sizes y (x + 1) own kept most bytes → own ≡ home claim.sizes y → own < PES → own_bytes ≡ slice_index kept own
    → IsFalse (is_high_level claim x) → ¬ (IsRisen (low_at claim y) (high_at claim (x + 1)) own (home claim.sizes (x + 1)) (record { bytes = bytes; own = own_bytes; most = most }))
    → IsFirstEnd claim y (x + 1)
steep_end claim y x own bytes weight units own_bytes kept most onward inside edge weighed before units_is light holding own_is own_low own_bytes_is level steep =
    let kept_own : own_bytes ≡ held_between claim.sizes y (x + 1) own = own_bytes_is ∙ holding.kept_is own own_low in
    let back : x ≡ x + 1 - 1 = omega arith in
    record {
      steep = record {
        onward = omega arith;
        inside = omega arith;
        light = omega (arith, light, weighed, units_is, between_more (λ n. n) claim.loads y x 0 onward inside);
        corner = inr (edge, subst (λ n. IsFalse (is_high_level claim n)) back level);
        steep = λ rises. steep (subst (λ o. IsRisen (low_at claim y) (high_at claim (x + 1)) o (home claim.sizes (x + 1))
            (record { bytes = bytes; own = own_bytes; most = most })) (sym own_is)
            (risen_by_rises claim.sizes (level_at claim.any 0) (level_at claim.free 0) (level_at claim.next_any 0) (level_at claim.next_free 0) y (x + 1) bytes own_bytes most
            (subst (λ o. own_bytes ≡ held_between claim.sizes y (x + 1) o) own_is kept_own)
            (subst (λ o. IsMost (held_between claim.sizes y (x + 1)) o most) own_is holding.most_is)
            holding.bytes_is rises));
      };
      earlier = before;
    }

-- the beginning of a walk
pub begin_walk : (claim : Claimed) (y own : ℕ) (kept : List ℕ) (high : At) → length kept ≡ PES → ((k : ℕ) → k < PES → slice_index kept k ≡ 0)
    → own < PES → RisesFrom claim y (y + 1) → IsAt claim.next_any claim.next_free y high
    → IsWalk claim y y own kept (record { pe = PES; bytes = 0; others = 0 }) 0 0 high
begin_walk claim y own kept high counted zeros low here there =
    let none : (pe : ℕ) → held_between claim.sizes y y pe ≡ 0 = λ pe. omega (arith, sum_after (λ size. held_bytes size pe) claim.sizes y y (omega arith)) in
    record {
      holding = record {
        counted = counted;
        kept_is = λ pe inside. zeros pe inside ∙ sym (none pe);
        most_is = nothing_held claim.sizes y own low none;
        bytes_is = omega (arith, sum_after (λ (size : ℕ × ℕ). size.0) claim.sizes y y (omega arith));
      };
      weighed = omega (arith, empty_load claim.loads y);
      risen = here;
      high_is = there;
    }

-- the bounds at the place to which they are followed
pub pair_of : (any free : List (ℕ × ℕ)) (x : ℕ) (at : At) (pair : Pair) → IsAt any free x at
    → pair ≡ record { any = at.any.level; free = at.free.level } → pair ≡ record { any = level_at any 0 x; free = level_at free 0 x }
pair_of any free x at pair there same = rw (← there.any_is, ← there.free_is) same

-- where a bound rises by an empty block
pub here_steep : (claim : Claimed) (y : ℕ) (low high : Pair) → y ≤ length claim.loads → low ≡ low_at claim y → high ≡ high_at claim y
    → ¬ ((high.any ≤ low.any) × (high.any ≤ low.free) × (high.free ≤ low.free)) → IsFirstEnd claim y y
here_steep claim y low high inside low_is high_is rises =
    empty_steep claim y inside
    (subst (λ (p : Pair). ¬ ((p.any ≤ (low_at claim y).any) × (p.any ≤ (low_at claim y).free) × (p.free ≤ (low_at claim y).free))) high_is
    (subst (λ (p : Pair). ¬ ((high.any ≤ p.any) × (high.any ≤ p.free) × (high.free ≤ p.free))) low_is rises))
