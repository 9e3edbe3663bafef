-- Bounds that stay on a level rise everywhere by no more than blocks bring, if they do so at the ends of the level.
use Rattle.std.proofs.Common.{◌≡◌, ◌≢◌, ℕ, zero, suc, ◌+◌, ◌-◌, ◌≤◌, Bool, true, false, inl, inr, eqb, cond, ◌||◌, ◌&&◌, List, length, arith, refl, subst, sym, add-zero}
use Rattle.std.proofs.lemmas.Bool.{eq-eqb, ne_eqb}
use Rattle.std.proofs.lemmas.Bool.Decides.{nat_tests}
use Rattle.lb_snapshot.specs.Measured.{load}
use Rattle.lb_certificates.specs.Naming.{moved_bytes}
use Rattle.lb_certificates.proofs.Totals.{sum_after}
use Rattle.lb_certificates.proofs.Chains.{load_wider}
use Rattle.chain_refinement.proofs.Windows.{empty_load}
use Rattle.any_order.specs.AnyOrder.{home, brought, RisesTo, IsRise, is_level, IsRiseAtCorners}

-- a wider block brings no fewer bytes
pub brought_wider : (sizes : List (ℕ × ℕ)) (a b c d pe : ℕ) → c ≤ a → a ≤ b → b ≤ d → brought sizes a b pe ≤ brought sizes c d pe
brought_wider sizes a b c d pe low onward high =
    omega (
      arith,
      sum_after (λ size. moved_bytes size pe) sizes c d (omega arith),
      sum_after (λ size. moved_bytes size pe) sizes a b onward,
      sum_after (λ size. moved_bytes size pe) sizes c a low,
      sum_after (λ size. moved_bytes size pe) sizes b d high,
    )

-- what a test of a level shows
pub record IsLevel (sizes : List (ℕ × ℕ)) (any free : ℕ → ℕ) (x : ℕ) : Type 0 where
  pub home_same : home sizes x ≡ home sizes (x + 1)
  pub any_same : any x ≡ any (x + 1)
  pub free_same : free x ≡ free (x + 1)

three_tests : (a b c d e f : ℕ) → (eqb a b && (eqb c d && eqb e f)) ≡ true → (a ≡ b) × (c ≡ d) × (e ≡ f)
three_tests a b c d e f passed = grind (arith, nat_tests)

level_is : (sizes : List (ℕ × ℕ)) (any free : ℕ → ℕ) (x : ℕ) → is_level sizes any free x ≡ true → IsLevel sizes any free x
level_is sizes any free x passed =
    let all = three_tests (home sizes x) (home sizes (x + 1)) (any x) (any (x + 1)) (free x) (free (x + 1)) passed in
    record { home_same = all.0; any_same = all.1; free_same = all.2 }

-- what is below two numbers is below either
below_either : (test : Bool) (one other low : ℕ) → low ≤ one → low ≤ other → low ≤ cond test one other
below_either true one other low first second = first
below_either false one other low first second = second

below_first : (test : Bool) (one other low : ℕ) → low ≤ one → low ≤ cond (test || true) one other
below_first true one other low first = first
below_first false one other low first = first

-- an empty block, where no bound rises
pub rises_here : (sizes : List (ℕ × ℕ)) (any free next_any next_free : ℕ → ℕ) (x : ℕ) → next_any x ≤ any x → next_any x ≤ free x
    → next_free x ≤ free x → RisesTo sizes any free next_any next_free x x
rises_here sizes any free next_any next_free x any_here kept_here free_here =
    record {
      of_any = λ pe.
          let low : next_any x ≤ cond (eqb (home sizes x) pe) (free x) (any x) = below_either (eqb (home sizes x) pe) (free x) (any x) (next_any x) kept_here any_here in
          omega (arith, low);
      of_free = λ pe elsewhere.
          let low : next_free x ≤ cond (eqb (home sizes x) pe || eqb (home sizes x) (home sizes x)) (free x) (any x) = rw
          (eq-eqb (home sizes x) (home sizes x) refl) (below_first (eqb (home sizes x) pe) (free x) (any x) (next_free x) free_here) in
          omega (arith, low);
    }

-- and where one rises it is by more than an empty block brings
pub none_rises_here : (sizes : List (ℕ × ℕ)) (any free next_any next_free : ℕ → ℕ) (x : ℕ) → RisesTo sizes any free next_any next_free x x
    → (next_any x ≤ any x) × (next_any x ≤ free x) × (next_free x ≤ free x)
none_rises_here sizes any free next_any next_free x rises =
    let own : ℕ = home sizes x in
    let none : (pe : ℕ) → brought sizes x x pe ≡ 0 = λ pe. omega (arith, sum_after (λ size. moved_bytes size pe) sizes x x (omega arith)) in
    let away : own ≢ own + 1 = λ same. absurd (omega (arith, same)) in
    let at_other : next_any x ≤ any x + brought sizes x x (own + 1) = subst
    (λ t. next_any x ≤ cond t (free x) (any x) + brought sizes x x (own + 1)) (ne_eqb own (own + 1) away) (rises.of_any (own + 1)) in
    let at_own : next_any x ≤ free x + brought sizes x x own = subst (λ t. next_any x ≤ cond t (free x) (any x) + brought sizes x x own) (eq-eqb own own refl) (rises.of_any own) in
    let kept : next_free x ≤ free x + brought sizes x x (own + 1) = either (eqb own (own + 1)) (free x) (any x) (next_free x)
    (brought sizes x x (own + 1)) (subst (λ t. next_free x ≤ cond (eqb own (own + 1) || t) (free x) (any x) + brought sizes x x
    (own + 1)) (eq-eqb own own refl) (rises.of_free (own + 1) away)) in
    (omega (arith, at_other, none (own + 1)), omega (arith, at_own, none own), omega (arith, kept, none (own + 1)))
  where
    either : (test : Bool) (one other low more : ℕ) → low ≤ cond (test || true) one other + more → low ≤ one + more
    either true one other low more h = h
    either false one other low more h = h

-- a block that begins on a level
rises_before : (sizes : List (ℕ × ℕ)) (any free next_any next_free : ℕ → ℕ) (y x : ℕ) → y + 1 ≤ x → IsLevel sizes any free y
    → RisesTo sizes any free next_any next_free (y + 1) x → RisesTo sizes any free next_any next_free y x
rises_before sizes any free next_any next_free y x inside level after =
    record {
      of_any = λ pe.
          let wider : brought sizes (y + 1) x pe ≤ brought sizes y x pe = brought_wider sizes (y + 1) x y x pe (omega arith) inside (omega arith) in
          let low : next_any x ≤ cond (eqb (home sizes y) pe) (free y) (any y) + brought sizes (y + 1) x pe = rw
          (level.home_same, level.any_same, level.free_same) (after.of_any pe) in
          omega (arith, wider, low);
      of_free = λ pe elsewhere.
          let wider : brought sizes (y + 1) x pe ≤ brought sizes y x pe = brought_wider sizes (y + 1) x y x pe (omega arith) inside (omega arith) in
          let low : next_free x ≤ cond (eqb (home sizes y) pe || eqb (home sizes y) (home sizes x)) (free y) (any y) + brought sizes (y + 1)
          x pe = rw (level.home_same, level.any_same, level.free_same) (after.of_free pe elsewhere) in
          omega (arith, wider, low);
    }

-- a block that ends on a level
rises_behind : (sizes : List (ℕ × ℕ)) (any free next_any next_free : ℕ → ℕ) (y x : ℕ) → y ≤ x → IsLevel sizes next_any next_free x
    → RisesTo sizes any free next_any next_free y x → RisesTo sizes any free next_any next_free y (x + 1)
rises_behind sizes any free next_any next_free y x inside level before =
    record {
      of_any = λ pe.
          let wider : brought sizes y x pe ≤ brought sizes y (x + 1) pe = brought_wider sizes y x y (x + 1) pe (omega arith) inside (omega arith) in
          omega (arith, wider, before.of_any pe, level.any_same);
      of_free = λ pe elsewhere.
          let wider : brought sizes y x pe ≤ brought sizes y (x + 1) pe = brought_wider sizes y x y (x + 1) pe (omega arith) inside (omega arith) in
          let low : next_free x ≤ cond (eqb (home sizes y) pe || eqb (home sizes y) (home sizes (x + 1))) (free y) (any y) + brought sizes y
          x pe = subst (λ h. h ≢ pe → next_free x ≤ cond (eqb (home sizes y) pe || eqb (home sizes y) h) (free y) (any y) + brought
          sizes y x pe) level.home_same (before.of_free pe) elsewhere in
          omega (arith, wider, low, level.free_same);
    }

-- a block that is not empty
rises_by_test : (sizes : List (ℕ × ℕ)) (any free next_any next_free : ℕ → ℕ) (y x : ℕ) (low high : Bool) → is_level sizes any free y ≡ low
    → is_level sizes next_any next_free x ≡ high → y ≤ x → RisesTo sizes any free next_any next_free (y + 1) (x + 1)
    → RisesTo sizes any free next_any next_free y x
    → (is_level sizes any free y ≡ false → is_level sizes next_any next_free x ≡ false → RisesTo sizes any free next_any next_free y (x + 1))
    → RisesTo sizes any free next_any next_free y (x + 1)
rises_by_test sizes any free next_any next_free y x true high low_is high_is inside later earlier ends =
    rises_before sizes any free next_any next_free y (x + 1) (omega arith) (level_is sizes any free y low_is) later
rises_by_test sizes any free next_any next_free y x false true low_is high_is inside later earlier ends =
    rises_behind sizes any free next_any next_free y x inside (level_is sizes next_any next_free x high_is) earlier
rises_by_test sizes any free next_any next_free y x false false low_is high_is inside later earlier ends = ends low_is high_is

few : (loads : List ℕ) (sizes : List (ℕ × ℕ)) (limit : ℕ) (any free next_any next_free : ℕ → ℕ)
    → IsRiseAtCorners loads sizes limit any free next_any next_free → (d y : ℕ) → y + d ≤ length loads → load loads y (y + d) ≤ limit
    → RisesTo sizes any free next_any next_free y (y + d)
few loads sizes limit any free next_any next_free looked zero y inside light = subst (λ x. RisesTo sizes any free next_any next_free y x)
    (sym (add-zero y)) (looked y y (omega arith) (omega arith) (omega (arith, empty_load loads y)) (inl refl))
few loads sizes limit any free next_any next_free looked (suc d) y inside light =
    let more : y + d + 1 ≡ y + suc d = omega arith in
    let moved : y + 1 + d ≡ y + d + 1 = omega arith in
    let wide : load loads y (y + d + 1) ≤ limit = subst (λ x. load loads y x ≤ limit) (sym more) light in
    let narrow : load loads y (y + d) ≤ limit = omega (arith, wide, load_wider loads y (y + d) y (y + d + 1) (omega arith) (omega arith) (omega arith)) in
    let behind : load loads (y + 1) (y + d + 1) ≤ limit = omega (arith, wide, load_wider loads (y + 1) (y + d + 1) y (y + d + 1) (omega arith) (omega arith) (omega arith)) in
    let earlier : RisesTo sizes any free next_any next_free y (y + d) = few loads sizes limit any free next_any next_free looked d y (omega arith) narrow in
    let later : RisesTo sizes any free next_any next_free (y + 1) (y + d + 1) = subst
    (λ x. RisesTo sizes any free next_any next_free (y + 1) x) moved
    (few loads sizes limit any free next_any next_free looked d (y + 1) (omega arith) (subst (λ x. load loads (y + 1) x ≤ limit) (sym moved) behind)) in
    let before : y + d + 1 - 1 ≡ y + d = omega arith in
    let done : RisesTo sizes any free next_any next_free y (y + d + 1) = rises_by_test sizes any free next_any next_free y (y + d)
    (is_level sizes any free y) (is_level sizes next_any next_free (y + d)) refl refl (omega arith) later earlier
    (λ low high. looked y (y + d + 1) (omega arith) (omega arith) wide (inr (low, subst (λ x. is_level sizes next_any next_free x ≡ false) (sym before) high))) in
    subst (λ x. RisesTo sizes any free next_any next_free y x) more done

pub few_places : (loads : List ℕ) (sizes : List (ℕ × ℕ)) (limit : ℕ) (any free next_any next_free : ℕ → ℕ)
    → IsRiseAtCorners loads sizes limit any free next_any next_free → IsRise loads sizes limit any free next_any next_free
few_places loads sizes limit any free next_any next_free looked y x inside within light =
    let same : y + (x - y) ≡ x = omega arith in
    subst (λ z. RisesTo sizes any free next_any next_free y z) same
    (few loads sizes limit any free next_any next_free looked (x - y) y (omega arith) (subst (λ z. load loads y z ≤ limit) (sym same) light))
