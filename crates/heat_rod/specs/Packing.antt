-- What a strip packs into.
use Rattle.std.specs.Prelude.{◌≡◌, ℕ, ◌+◌, ◌*◌, ◌≤◌, List, [], ◌∷◌, ◌++◌, length, flat_map, All, Option, None, Some, IfSome, true}
use Rattle.std.specs.Float.{Float}
use Rattle.std.specs.Int.{w32, to_be_bytes}
use Rattle.std.proofs.Common.{refl, arith, length-append, lit≤}
use Rattle.std.proofs.lemmas.Bool.Decides.{nat_tests}
use Rattle.std.proofs.lemmas.List.Concat.{flat_map-cons}
use Rattle.chare_index.specs.declared.limits.TheConstants.Limits.{STATE_BYTES}
use Rattle.pup_pack.specs.Lists.{IsCounted, pack_list}
use Rattle.pup_pack.specs.Options.{pack_option}
use Rattle.reductions.specs.Reactions.{NODE_BYTES}
use Rattle.heat_rod.specs.declared.sweep.TheConstants.{CELLS}
use Rattle.heat_rod.specs.GhostCells.{pack_f64}
use Rattle.heat_rod.specs.Strips.{RodStripView, is_strip}

-- the fields, as they are packed
abbrev pub Parts : Type 0
Parts = (ℕ × ℕ × Float) × (ℕ × ℕ × Float × Option Float × Option Float) × List Float

abbrev pub parts : RodStripView → Parts
parts s = ((s.plan.steps, s.plan.every, s.plan.small), (s.stage.begun, s.stage.done, s.stage.residual, s.stage.left, s.stage.right), s.cells)

abbrev pub of_parts : Parts → RodStripView
of_parts x =
    record {
      plan = record { steps = x.0.0; every = x.0.1; small = x.0.2 };
      stage = record { begun = x.1.0; done = x.1.1; residual = x.1.2; left = x.1.3; right = x.1.4 };
      cells = x.2;
    }

abbrev pub head_pack : RodStripView → List ℕ
head_pack s = to_be_bytes w32 s.plan.steps ++ (to_be_bytes w32 s.plan.every ++ pack_f64 s.plan.small)

abbrev pub stage_pack : RodStripView → List ℕ
stage_pack s =
    to_be_bytes w32 s.stage.begun
    ++ (to_be_bytes w32 s.stage.done ++ (pack_f64 s.stage.residual ++ (pack_option pack_f64 s.stage.left ++ pack_option pack_f64 s.stage.right)))

abbrev pub strip_pack : RodStripView → List ℕ
strip_pack s = head_pack s ++ (stage_pack s ++ pack_list pack_f64 s.cells)

abbrev pub Nothing : Type 0
Nothing = Unit {0}

abbrev pub IsEmptyOr : Option Float → Type 0
IsEmptyOr x = IfSome x (λ _. Nothing)

abbrev pub AreCounted : RodStripView → Type 0
AreCounted s =
    (Nothing × (Nothing × Nothing))
    × ((Nothing × (Nothing × (Nothing × (IsEmptyOr s.stage.left × IsEmptyOr s.stage.right)))) × (IsCounted s.cells × All (λ _. Nothing) s.cells))

all_nothing : (xs : List Float) → All (λ _. Nothing) xs
all_nothing xs = λ k d inside. tt

empty_or : (x : Option Float) → IsEmptyOr x
empty_or None = tt
empty_or (Some heat) = tt

option_len : (x : Option Float) → length (pack_option pack_f64 x) ≤ 9
option_len None = lit≤ tt
option_len (Some heat) = lit≤ tt

cells_len : (xs : List Float) → length (flat_map pack_f64 xs) ≡ 8 * length xs
cells_len [] = refl
cells_len (x ∷ xs) = grind (arith, flat_map-cons, length-append, cells_len xs)

-- every strip packs, into at most 54 bytes and 8 for each cell
pub strip_packs : (s : RodStripView) → is_strip s ≡ true → AreCounted s × (length (strip_pack s) + NODE_BYTES ≤ STATE_BYTES)
strip_packs s right =
    let few : length s.cells ≤ CELLS = grind (arith, nat_tests, right) in (
      ((tt, (tt, tt)), ((tt, (tt, (tt, (empty_or s.stage.left, empty_or s.stage.right)))), (omega (arith, few), all_nothing s.cells))),
      grind (arith, length-append, option_len s.stage.left, option_len s.stage.right, cells_len s.cells, few),
    )
