-- Where elements are in the order of the PEs, what a cut costs falls up to the present cut and rises behind it.
use Rattle.std.proofs.Common.{◌≡◌, ◌≢◌, ℕ, zero, suc, ◌+◌, ◌-◌, ◌<◌, ◌≤◌, List, length, slice_index, slice_index_or, slice_range, arith, refl, ap, sym, ◌∙◌, subst, add-zero, add-one, inl, inr}
use Rattle.std.proofs.lemmas.Bool.{cases_lt}
use Rattle.std.proofs.lemmas.Bool.Decides.{nat_tests}
use Rattle.std.proofs.lemmas.List.Sums.{sum_by_more}
use Rattle.std.proofs.Math.Seq.{take-length}
use Rattle.lb_certificates.specs.Naming.{IsNaming}
use Rattle.lb_certificates.proofs.Totals.{sum_after}
use Rattle.chain_refinement.specs.Orders.{AreApartAt, place_of, StandInOrder}
use Rattle.chain_refinement.specs.Refinement.{cut_cost, held, held_before, held_bytes}
use Rattle.chain_refinement.proofs.CutCosts.{held_whole}

held_elsewhere : (size : ℕ × ℕ) (pe : ℕ) → size.1 ≢ pe → held_bytes size pe ≡ 0
held_elsewhere size pe elsewhere = grind (arith, nat_tests)

-- one more element
held_with_next : (sizes : List (ℕ × ℕ)) (pe x : ℕ) → x < length sizes → held_before sizes pe (x + 1) ≡ held_before sizes pe x + held_bytes (slice_index_or sizes x (0, 0)) pe
held_with_next sizes pe x inside = sum_by_more (λ size. held_bytes size pe) sizes x (0, 0) inside

-- no more bytes of a PE are before a place than before a later one
before_rises_by : (sizes : List (ℕ × ℕ)) (pe x more : ℕ) → x + more ≤ length sizes → held_before sizes pe x ≤ held_before sizes pe (x + more)
before_rises_by sizes pe x zero within = subst (λ n. held_before sizes pe x ≤ held_before sizes pe n) (sym (add-zero x)) (omega arith)
before_rises_by sizes pe x (suc more) within =
    let before : held_before sizes pe x ≤ held_before sizes pe (x + more) = before_rises_by sizes pe x more (omega arith) in
    let there : held_before sizes pe x ≤ held_before sizes pe (x + more + 1) = omega (arith, before, held_with_next sizes pe (x + more) (omega arith)) in
    subst (λ n. held_before sizes pe x ≤ held_before sizes pe n) (omega arith) there

pub before_rises : (sizes : List (ℕ × ℕ)) (pe x y : ℕ) → x ≤ y → y ≤ length sizes → held_before sizes pe x ≤ held_before sizes pe y
before_rises sizes pe x y onward within =
    subst (λ n. held_before sizes pe x ≤ held_before sizes pe n) (omega arith) (before_rises_by sizes pe x (y - x) (omega arith))

-- and as many, where no element between them is on the PE
none_between_by : (sizes : List (ℕ × ℕ)) (pe x more : ℕ) → x + more ≤ length sizes
    → ((i : ℕ) → x ≤ i → i < x + more → place_of sizes i ≢ pe) → held_before sizes pe x ≡ held_before sizes pe (x + more)
none_between_by sizes pe x zero within none = ap (held_before sizes pe) (sym (add-zero x))
none_between_by sizes pe x (suc more) within none =
    let before : held_before sizes pe x ≡ held_before sizes pe (x + more) = none_between_by sizes pe x more (omega arith) (λ i low high. none i low (omega arith)) in
    let nothing : held_bytes (slice_index_or sizes (x + more) (0, 0)) pe ≡ 0 = held_elsewhere (slice_index_or sizes (x + more) (0, 0)) pe
    (none (x + more) (omega arith) (omega arith)) in
    let there : held_before sizes pe x ≡ held_before sizes pe (x + more + 1) = omega (arith, before, nothing, held_with_next sizes pe (x + more) (omega arith)) in
    subst (λ n. held_before sizes pe x ≡ held_before sizes pe n) (omega arith) there

pub none_between : (sizes : List (ℕ × ℕ)) (pe x y : ℕ) → x ≤ y → y ≤ length sizes → ((i : ℕ) → x ≤ i → i < y → place_of sizes i ≢ pe)
    → held_before sizes pe x ≡ held_before sizes pe y
none_between sizes pe x y onward within none =
    subst (λ n. held_before sizes pe x ≡ held_before sizes pe n) (omega arith) (none_between_by sizes pe x (y - x) (omega arith) (λ i low high. none i low (omega arith)))

-- up to the present cut a later cut costs no more
pub cost_falls : (sizes : List (ℕ × ℕ)) (names present : List ℕ) (b x y : ℕ) → AreApartAt sizes names present b → x ≤ y
    → y ≤ slice_index present (b + 1) → slice_index present (b + 1) ≤ length sizes → cut_cost sizes names b y ≤ cut_cost sizes names b x
cost_falls sizes names present b x y apart onward before within =
    let from : ℕ = slice_index names b in
    let to : ℕ = slice_index names (b + 1) in
    let stays = none_between sizes to x y onward (omega arith) (λ i low high. apart.before i (omega arith) (omega arith)) in
    omega (
      arith,
      stays,
      before_rises sizes from x y onward (omega arith),
      held_whole sizes from x,
      held_whole sizes from y,
    )

-- and behind it no less
pub cost_rises : (sizes : List (ℕ × ℕ)) (names present : List ℕ) (b x y : ℕ) → AreApartAt sizes names present b
    → slice_index present (b + 1) ≤ x → x ≤ y → y ≤ length sizes → cut_cost sizes names b x ≤ cut_cost sizes names b y
cost_rises sizes names present b x y apart behind onward within =
    let from : ℕ = slice_index names b in
    let to : ℕ = slice_index names (b + 1) in
    let stays = none_between sizes from x y onward within (λ i low high. apart.behind i (omega arith) (omega arith)) in
    omega (
      arith,
      stays,
      before_rises sizes to x y onward within,
      held_whole sizes from x,
      held_whole sizes from y,
    )

all_before : (sizes : List (ℕ × ℕ)) (pe : ℕ) → held_before sizes pe (length sizes) ≡ held sizes pe
all_before sizes pe = ap (λ all. held all pe) (take-length sizes)

none_before : (sizes : List (ℕ × ℕ)) (pe : ℕ) → held_before sizes pe 0 ≡ 0
none_before sizes pe = refl

-- before the present cut it costs the bytes between the two that are on the PE of the block before it
pub cost_before : (sizes : List (ℕ × ℕ)) (names present : List ℕ) (b x cut : ℕ) → AreApartAt sizes names present b
    → slice_index present (b + 1) ≡ cut → x ≤ cut → cut ≤ length sizes → held (slice_range sizes x cut) (slice_index names b) ≡ cut_cost sizes names b x
cost_before sizes names present b x cut apart same before within =
    let from : ℕ = slice_index names b in
    let to : ℕ = slice_index names (b + 1) in
    let none_of_next = none_between sizes to 0 x (omega arith) (omega arith) (λ i low high. apart.before i (omega arith) (omega arith)) in
    let none_behind = none_between sizes from cut (length sizes) within (omega arith) (λ i low high. apart.behind i (omega arith) high) in
    omega (
      arith,
      none_of_next,
      none_behind,
      none_before sizes to,
      all_before sizes from,
      sum_after (λ size. held_bytes size from) sizes x cut before,
      held_whole sizes from x,
    )

-- and behind it the bytes between the two that are on the PE of the next block
pub cost_behind : (sizes : List (ℕ × ℕ)) (names present : List ℕ) (b x cut : ℕ) → AreApartAt sizes names present b
    → slice_index present (b + 1) ≡ cut → cut ≤ x → x ≤ length sizes → held (slice_range sizes cut x) (slice_index names (b + 1)) ≡ cut_cost sizes names b x
cost_behind sizes names present b x cut apart same behind within =
    let from : ℕ = slice_index names b in
    let to : ℕ = slice_index names (b + 1) in
    let none_of_next = none_between sizes to 0 cut (omega arith) (omega arith) (λ i low high. apart.before i (omega arith) (omega arith)) in
    let none_behind = none_between sizes from x (length sizes) within (omega arith) (λ i low high. apart.behind i (omega arith) high) in
    omega (
      arith,
      none_of_next,
      none_behind,
      none_before sizes to,
      all_before sizes from,
      sum_after (λ size. held_bytes size to) sizes cut x behind,
      held_whole sizes from x,
    )

-- the block that contains an element
pub block_around : (cuts : List ℕ) (blocks i : ℕ) → slice_index cuts 0 ≤ i → i < slice_index cuts blocks → (b : ℕ) × (b < blocks)
    × (slice_index cuts b ≤ i) × (i < slice_index cuts (b + 1))
block_around cuts zero i from to = absurd (omega arith)
block_around cuts (suc blocks) i from to =
    elim (cases_lt i (slice_index cuts blocks)) [
      | inl before ↦
          let earlier = block_around cuts blocks i from before in
          (earlier.0, omega (arith, earlier.1), earlier.2, earlier.3)
      | inr behind ↦ (blocks, omega arith, behind, rw add-one to)
    ]

-- where elements are in the order of different names, they are apart at each cut
pub apart_from_order : (sizes : List (ℕ × ℕ)) (names present : List ℕ) (b : ℕ) → IsNaming (length names) names
    → StandInOrder sizes names present → b + 1 < length names → AreApartAt sizes names present b
apart_from_order sizes names present b naming order inside =
    record {
      before = λ i early within here.
          let around = block_around present (length names) i (omega (arith, order.divides.starts)) (omega (arith, order.divides.ends)) in
          let block : around.0 < b + 1 = elim (cases_lt around.0 (b + 1)) [
            | inl below ↦ below
            | inr above ↦ absurd (omega (arith, around.2, order.divides.ordered (b + 1) around.0 0 above (omega (arith, around.1, order.divides.counted))))
          ] in
          naming.apart around.0 (b + 1) block inside (sym (order.stands around.0 i around.1 around.2 around.3) ∙ here);
      behind = λ i late within here.
          let around = block_around present (length names) i (omega (arith, order.divides.starts)) (omega (arith, order.divides.ends)) in
          let block : b < around.0 = elim (cases_lt b around.0) [
            | inl above ↦ above
            | inr below ↦ absurd (omega (arith, around.3, order.divides.ordered (around.0 + 1) (b + 1) 0 (omega arith) (omega (arith, order.divides.counted))))
          ] in
          naming.apart b around.0 block around.1 (sym here ∙ order.stands around.0 i around.1 around.2 around.3);
    }
