-- What one place shows of heights and costs.
use Rattle.std.proofs.Common.{◌≡◌, ℕ, ◌+◌, ◌<◌, ◌≤◌, ◌↔◌, Bool, false, IsTrue, sym, ◌∙◌, [], length, slice_index_or, arith, inl, inr, subst}
use Rattle.std.proofs.lemmas.Bool.{cases_lt, false≢true}
use Rattle.chain_refinement.specs.declared.place.Cut.{Cut}
use Rattle.chain_refinement.specs.Internal.{AllGentle, Claimed, IsGentle, IsPlace, RisesAt}
use Rattle.chain_refinement.specs.Refinement.{height_at}
use Rattle.chain_refinement.proofs.Climbs.{height_rises}

-- the heights of a block never fall
pub at_rises : (claim : Claimed) (b x y : ℕ) → x ≤ y → height_at claim.heights b x ≤ height_at claim.heights b y
at_rises claim b x y onward = height_rises (slice_index_or claim.heights b []) x y onward

-- what a test whether a place is steep says where it is not
pub gentle_where_not : (steep : Bool) (low high : ℕ) → IsTrue steep ↔ (low < high) → steep ≡ false → high ≤ low
gentle_where_not steep low high exact not =
    elim (cases_lt low high) [
      | inl higher ↦ absurd (false≢true (sym not ∙ exact.1 higher))
      | inr gentle ↦ gentle
    ]

-- a place that is not steep from the beginning of the widest block is so from no other
pub gentle_here : (claim : Claimed) (b x : ℕ) (place : Cut) → IsPlace claim b x place → place.high.height ≤ place.low.height + place.cost → IsGentle claim b x
gentle_here claim b x place here low y before light =
    let start : place.window.start ≤ y = here.window.start_is.least y before light in
    omega (arith, low, here.cost_is, here.low_is, here.high_is, at_rises claim b place.window.start y start)

pub gentle_at_first : (claim : Claimed) (b : ℕ) (place : Cut) → IsPlace claim b 0 place → place.high.height ≤ place.low.height + place.cost → AllGentle claim b 1
gentle_at_first claim b place here low x first _ =
    subst (IsGentle claim b) (omega arith) (gentle_here claim b 0 place here low)

pub gentle_so_far : (claim : Claimed) (b x : ℕ) (place : Cut) → IsPlace claim b x place
    → place.high.height ≤ place.low.height + place.cost → AllGentle claim b x → AllGentle claim b (x + 1)
gentle_so_far claim b x place here low before z inside within =
    elim (cases_lt z x) [
      | inl earlier ↦ before z earlier within
      | inr last ↦ subst (IsGentle claim b) (omega arith) (gentle_here claim b x place here low)
    ]

pub rises_here : (claim : Claimed) (b x : ℕ) (place : Cut) → IsPlace claim b x place → x ≤ length claim.loads
    → place.low.height + place.cost < place.high.height → RisesAt claim b x
rises_here claim b x place here within high = (
  place.window.start,
  here.window.start_is.inside,
  within,
  here.window.start_is.light,
  omega (arith, high, here.cost_is, here.low_is, here.high_is),
)
