-- What an answer of the check implies.
use Rattle.std.proofs.Common.{◌≡◌, ℕ, ◌-◌, ◌<◌, ◌≤◌, ◌↔◌, List, [], length, slice_index_or, Result, Ok, Err, IsOk, OnOk, IfErr, arith, refl, sym, ◌∙◌}
use Rattle.lb_snapshot.specs.Measured.{load}
use Rattle.lb_certificates.specs.Certificate.{IsCertified}
use Rattle.lb_certificates.specs.Chain.{peak}
use Rattle.lb_certificates.proofs.LeastDivisions.{peak_within}
use Rattle.chain_refinement.specs.declared.flaw.RefinementFlaw.{RefinementFlaw}
use Rattle.chain_refinement.specs.declared.refinement.Refinement.{Refinement}
use Rattle.chain_refinement.specs.Flaws.{EndsLow, HasRefinementFlaw, IsFirstRefinementFlaw}
use Rattle.chain_refinement.specs.Internal.{AreGentle, AreOrdered, claim_of}
use Rattle.chain_refinement.specs.Refinement.{AreFewest, AreWithin, cuts_cost, height_at, IsRefinement, refined_limit}
use Rattle.chain_refinement.specs.Walks.{IsLeastStart}
use Rattle.chain_refinement.proofs.Bounds.{fewest_from_proved}
use Rattle.chain_refinement.proofs.Climbs.{height_rises}
use Rattle.chain_refinement.proofs.FirstFlaws.{right_is_flawless}

-- the height of the last block at the first place where it may begin is below what the cuts cost
pub last_height_low : (loads : List ℕ) (sizes : List (ℕ × ℕ)) (names : List ℕ) (limit : ℕ) (cuts : List ℕ) (heights : List (List (ℕ × ℕ)))
    (start bound cost : ℕ) → IsLeastStart loads (length loads) limit start → bound ≡ height_at heights (length names - 1) start
    → cost ≡ cuts_cost sizes names cuts → bound < cost → EndsLow loads sizes names limit cuts heights
last_height_low loads sizes names limit cuts heights start bound cost least bound_is cost_is low =
    (start, least.inside, least.light, omega (arith, bound_is, cost_is, low))

-- or it is not, and then it is below at no other
pub last_height_enough : (loads : List ℕ) (sizes : List (ℕ × ℕ)) (names : List ℕ) (limit : ℕ) (cuts : List ℕ)
    (heights : List (List (ℕ × ℕ))) (start bound cost : ℕ) → IsLeastStart loads (length loads) limit start
    → bound ≡ height_at heights (length names - 1) start → cost ≡ cuts_cost sizes names cuts → cost ≤ bound → (y : ℕ) → y ≤ length loads
    → load loads y (length loads) ≤ limit → cuts_cost sizes names cuts ≤ height_at heights (length names - 1) y
last_height_enough loads sizes names limit cuts heights start bound cost least bound_is cost_is enough y inside light =
    let rises = height_rises (slice_index_or heights (length names - 1) []) start y (least.least y inside light) in
    omega (arith, bound_is, cost_is, enough, rises)

-- a refinement whose parts are right
pub right_by_parts : {A : Type 0} (loads : List ℕ) (sizes : List (ℕ × ℕ)) (pes : ℕ) (r : Refinement A) → IsCertified loads pes r.least
    → AreOrdered pes r.order → AreWithin loads r.order (refined_limit r) r.cuts → length r.heights ≡ pes → height_at r.heights 0 0 ≡ 0
    → AreGentle (claim_of loads sizes r) (length r.order - 1)
    → ((y : ℕ) → y ≤ length loads → load loads y (length loads) ≤ refined_limit r
    → cuts_cost sizes r.order r.cuts ≤ height_at r.heights (length r.order - 1) y) → IsRefinement loads sizes pes r
right_by_parts loads sizes pes r least order within counted starts gentle ends =
    record {
      least = least;
      some_pe = order.some_pe;
      few_pes = order.few_pes;
      order = order.naming;
      proved = record {
        some_block = omega (arith, order.some_pe, order.naming.counted);
        few_blocks = omega (arith, order.few_pes, order.naming.counted);
        counted = counted ∙ sym order.naming.counted;
        within = within;
        bound = record {
          starts = starts;
          rises = λ b x y inside before stays light. gentle b (omega arith) x (omega arith) stays y before light;
          ends = ends;
        };
      };
    }

-- a check that accepts only what is right, and otherwise names a flaw that applies, is exact
pub accepts_exactly : {A T : Type 0} (loads : List ℕ) (sizes : List (ℕ × ℕ)) (pes : ℕ) (r : Refinement A) (answer : Result T RefinementFlaw)
    → OnOk answer (IsRefinement loads sizes pes r) → IfErr answer (IsFirstRefinementFlaw (HasRefinementFlaw loads sizes pes r))
    → IsOk answer ↔ IsRefinement loads sizes pes r
accepts_exactly loads sizes pes r (Ok _) right first = (λ _. right, λ _. refl)
accepts_exactly loads sizes pes r (Err flaw) right first =
    (λ accepted. absurd cc, λ holds. absurd (right_is_flawless loads sizes pes r holds flaw first.applies_itself))

-- no block of a refinement that is right is above the limit
pub peak_where_right : {A : Type 0} (loads : List ℕ) (sizes : List (ℕ × ℕ)) (pes : ℕ) (r : Refinement A) → IsRefinement loads sizes pes r → peak loads r.cuts ≤ refined_limit r
peak_where_right loads sizes pes r right =
    peak_within loads (length r.order) (refined_limit r) r.cuts right.proved.within.divides right.proved.within.within

-- and its cuts move the fewest bytes
pub fewest_where_right : {A T : Type 0} (loads : List ℕ) (sizes : List (ℕ × ℕ)) (pes : ℕ) (r : Refinement A)
    (answer : Result T RefinementFlaw) → OnOk answer (length loads ≡ length sizes) → OnOk answer (IsRefinement loads sizes pes r)
    → OnOk answer (AreFewest loads sizes r.order (refined_limit r) r.cuts)
fewest_where_right loads sizes pes r (Ok _) paired right =
    fewest_from_proved loads sizes r.order (refined_limit r) r.cuts r.heights paired right.proved
fewest_where_right loads sizes pes r (Err _) paired right = tt
