-- Where elements are in order, the places around the present cut show that no place is steep.
use Rattle.std.proofs.Common.{ℕ, ◌+◌, ◌<◌, ◌≡◌, ◌≤◌, List, length, slice_index, arith, inl, inr}
use Rattle.std.proofs.lemmas.Bool.{cases_lt}
use Rattle.lb_snapshot.specs.Measured.{load}
use Rattle.lb_certificates.proofs.Chains.{block_within, load_wider}
use Rattle.chain_refinement.specs.declared.few_places.Base.{Base}
use Rattle.chain_refinement.specs.declared.walk.Climb.{Climb}
use Rattle.chain_refinement.specs.Internal.{AllGentle, Claimed, IsBase, IsClaim, IsGentle, IsWalked}
use Rattle.chain_refinement.specs.Orders.{AreApartAt, StandInOrder}
use Rattle.chain_refinement.specs.Refinement.{height_at}
use Rattle.chain_refinement.proofs.Orders.{apart_from_order, cost_falls, cost_rises}
use Rattle.chain_refinement.proofs.Steeps.{at_rises}
use Rattle.chain_refinement.proofs.Windows.{empty_load}

-- A place before the first one that was looked at: the height there is no greater, the cut costs no less, and the heights from
-- which it rises are as low as at the beginning of the chain.
before_walk : (claim : Claimed) (present : List ℕ) (b from start x : ℕ) → AreApartAt claim.sizes claim.names present b
    → slice_index present (b + 1) ≤ length claim.sizes → from ≤ slice_index present (b + 1) → IsGentle claim b from → start ≤ from
    → load claim.loads start from ≤ claim.limit → height_at claim.heights b start ≤ height_at claim.heights b 0 → x ≤ from → IsGentle claim b x
before_walk claim present b from start x apart within early gentle inside light level before y below _ =
    omega (
      arith,
      gentle start inside light,
      level,
      at_rises claim b 0 y (omega arith),
      at_rises claim (b + 1) x from before,
      cost_falls claim.sizes claim.names present b x from apart before early within,
    )

-- a place behind the last one: the height is the same there, and the cut costs no less
behind_walk : (claim : Claimed) (present : List ℕ) (b to x : ℕ) → AreApartAt claim.sizes claim.names present b
    → slice_index present (b + 1) ≤ to → IsGentle claim b to → height_at claim.heights (b + 1) x ≤ height_at claim.heights (b + 1) to
    → to ≤ x → x ≤ length claim.sizes → IsGentle claim b x
behind_walk claim present b to x apart late gentle level onward within y before light =
    let dearer = cost_rises claim.sizes claim.names present b to x apart late onward within in
    elim (cases_lt to y) [
      | inl above ↦
          let nothing = empty_load claim.loads to in
          omega (arith, dearer, level, gentle to (omega arith) (omega (arith, nothing)), at_rises claim b to y (omega arith))
      | inr inner ↦
          let lighter = load_wider claim.loads y to y x (omega arith) inner onward in
          omega (arith, dearer, level, gentle y inner (omega (arith, lighter, light)))
    ]

-- so a walk past the present cut is enough, from a place up to which a block may begin where the lower heights have not risen
pub walk_is_enough : (claim : Claimed) (present : List ℕ) (b from to start : ℕ) → length claim.loads ≡ length claim.sizes
    → AreApartAt claim.sizes claim.names present b → slice_index present (b + 1) ≤ length claim.sizes → from ≤ slice_index present (b + 1)
    → slice_index present (b + 1) ≤ to → start ≤ from → load claim.loads start from ≤ claim.limit
    → height_at claim.heights b start ≤ height_at claim.heights b 0 → IsWalked claim b from to → AllGentle claim b (length claim.loads + 1)
walk_is_enough claim present b from to start paired apart within early late inside light level walked x _ stays =
    elim (cases_lt x from) [
      | inl before ↦
          before_walk claim present b from start x apart within early (walked.gentle from (omega arith) (omega arith)) inside light level (omega arith)
      | inr onward ↦ elim (cases_lt to x) [
        | inl behind ↦
            behind_walk claim present b to x apart late (walked.gentle to (omega arith) (omega arith)) (walked.level x (omega arith) stays) (omega arith) (omega arith)
        | inr between ↦ walked.gentle x onward between
      ]
    ]

-- a walk past the present cut is enough, by what the test knows
pub few_are_enough : (claim : Claimed) (present : List ℕ) (b to bottom : ℕ) (base : Base) (low : Climb) → IsClaim claim
    → StandInOrder claim.sizes claim.names present → b + 1 < length claim.names → IsBase claim base
    → low.height ≡ height_at claim.heights b base.window.start → bottom ≡ height_at claim.heights b 0 → low.height ≤ bottom
    → base.end ≤ slice_index present (b + 1) → slice_index present (b + 1) ≤ to → IsWalked claim b base.end to → AllGentle claim b (length claim.loads + 1)
few_are_enough claim present b to bottom base low claimed order inside found low_is bottom_is level early late walked =
    let apart : AreApartAt claim.sizes claim.names present b = apart_from_order claim.sizes claim.names present b claimed.order order inside in
    let within : slice_index present (b + 1) ≤ length claim.sizes = (block_within (length claim.sizes) (length claim.names) present b order.divides (omega arith)).1 in
    walk_is_enough claim present b base.end to base.window.start claimed.paired apart within early late found.window.start_is.inside
    found.window.start_is.light (omega (arith, level, low_is, bottom_is)) walked
