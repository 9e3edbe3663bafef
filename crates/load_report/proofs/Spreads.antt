-- The figures of placed loads are those of the loads that were added up.
use Rattle.std.proofs.Common.{◌≡◌, ℕ, inl, inr, ◌+◌, ◌*◌, ◌/◌, ◌<◌, ◌≤◌, List, length, take, slice_index, sum, sum_by, ap, arith, refl, ◌∙◌}
use Rattle.std.specs.Prelude.{◌==◌, if◌then◌else◌}
use Rattle.std.proofs.lemmas.Bool.{cases_eq}
use Rattle.std.proofs.lemmas.List.{take_all}
use Rattle.lb_certificates.specs.Naming.{total}
use Rattle.lb_certificates.proofs.Chains.{load_after}
use Rattle.lb_snapshot.specs.Measured.{load}
use Rattle.lb_certificates.proofs.Totals.{total_le, total_same, total_take}
use Rattle.load_report.specs.Figures.{billion, billionths, deviation_of, empty_of, greatest, idle_of, least, load_at, load_of, root, spread_of, square_apart}
use Rattle.load_report.specs.declared.figures.Spread.{Spread}
use Rattle.load_report.proofs.PlacedLoads.{greatest_same, least_same, load_elsewhere, load_here}

-- the loads of all elements
pub all_loads : (loads : List ℕ) → total (length loads) (slice_index loads) ≡ sum loads
all_loads loads = total_take (λ x. x) loads 0 (length loads) (omega arith) ∙ ap (sum_by (λ x. x)) (take_all (length loads) loads (omega arith))

-- no element has more load on a PE than its own load
load_part : (loads places : List ℕ) (p i : ℕ) → load_at loads places p i ≤ slice_index loads i
load_part loads places p i =
    elim (cases_eq (slice_index places i) p) [
      | inl here ↦ omega (arith, load_here loads places p i here)
      | inr other ↦ omega (arith, load_elsewhere loads places p i other)
    ]

-- a PE has no more load than all PEs together
pub part_of_all : (loads places : List ℕ) (p : ℕ) → load_of loads places p ≤ sum loads
part_of_all loads places p =
    omega (arith, total_le (length loads) (load_at loads places p) (slice_index loads) (λ i _. load_part loads places p i), all_loads loads)

same_deviation : (pes s : ℕ) (f g : ℕ → ℕ) → ((p : ℕ) → p < pes → f p ≡ g p) → deviation_of pes s f ≡ deviation_of pes s g
unfolding deviation_of
same_deviation pes s f g same =
    ap (λ n. if pes == 0 then 0 else (root (4 * n / (pes * (billion * 1000))) + 1) / 2)
    (total_same pes _ _ (λ p inside. ap (λ n. square_apart (billionths pes s n) billion) (same p inside)))

-- the figures of loads that were added up, PE by PE
abbrev pub added_spread : List ℕ → List ℕ → ℕ → (ℕ → ℕ) → Spread
added_spread loads places pes f = record {
  pes = pes;
  elements = length loads;
  greatest = greatest pes f;
  least = least (sum loads) pes f;
  total = sum loads;
  deviation = deviation_of pes (sum loads) f;
  heaviest = greatest (length loads) (slice_index loads);
  empty = empty_of places pes;
  idle = idle_of pes f;
}

abbrev figures : List ℕ → List ℕ → ℕ → ℕ → ℕ → ℕ → ℕ → Spread
figures loads places pes most low far none = record {
  pes = pes;
  elements = length loads;
  greatest = most;
  least = low;
  total = sum loads;
  deviation = far;
  heaviest = greatest (length loads) (slice_index loads);
  empty = empty_of places pes;
  idle = none;
}

same_figures : (loads places : List ℕ) (pes m m' l l' d d' i i' : ℕ) → m ≡ m' → l ≡ l' → d ≡ d' → i ≡ i' → figures loads places pes m l d i ≡ figures loads places pes m' l' d' i'
same_figures loads places pes m m' l l' d d' i i' a b c e = rw (a, b, c, e) refl

pub spread_is : (loads places : List ℕ) (pes : ℕ) (f : ℕ → ℕ) → ((p : ℕ) → p < pes → f p ≡ load_of loads places p) → added_spread loads places pes f ≡ spread_of loads places pes
spread_is loads places pes f same =
    let g : ℕ → ℕ = load_of loads places in
    same_figures loads places pes (greatest pes f) (greatest pes g) (least (sum loads) pes f) (least (sum loads) pes g)
    (deviation_of pes (sum loads) f) (deviation_of pes (sum loads) g) (idle_of pes f) (idle_of pes g)
    (greatest_same pes f g same) (least_same (sum loads) pes f g same) (same_deviation pes (sum loads) f g same)
    (total_same pes _ _ (λ p inside. ap (λ n. if n == 0 then 1 else 0) (same p inside)))

pub whole_load : (loads : List ℕ) (n : ℕ) → n ≡ length loads → load loads 0 n ≡ sum loads
whole_load loads n is =
    let none : sum (take 0 loads) ≡ 0 = refl in
    omega (arith, none, load_after loads 0 n (omega arith), ap sum (take_all n loads (omega arith)))

-- the figures, one by one
pub spread_from : (loads places : List ℕ) (pes : ℕ) (f : ℕ → ℕ) (n most low all far heavy none idle : ℕ) → n ≡ length loads → most ≡ greatest pes f → low ≡ least all pes f
    → all ≡ sum loads → far ≡ deviation_of pes all f → heavy ≡ greatest (length loads) (slice_index loads) → none ≡ empty_of places pes → idle ≡ idle_of pes f
    → ((p : ℕ) → p < pes → f p ≡ load_of loads places p)
    → ◌≡◌ {A = Spread} (record {
      pes = pes;
      elements = n;
      greatest = most;
      least = low;
      total = all;
      deviation = far;
      heaviest = heavy;
      empty = none;
      idle = idle;
    }) (spread_of loads places pes)
spread_from loads places pes f n most low all far heavy none idle a b c d e h k l same =
    rw (a, b, c, e, h, k, l, d) (spread_is loads places pes f same)
