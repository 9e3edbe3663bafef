-- Columns of figures that are the same.
use Rattle.std.proofs.Common.{◌≡◌, ℕ, refl}
use Rattle.load_report.specs.Text.{changes_of, placement_columns}
use Rattle.load_report.specs.declared.cell.Cell.{Cell}
use Rattle.load_report.specs.declared.changes.Changes.{Changes}
use Rattle.load_report.specs.declared.figures.Change.{Change}
use Rattle.load_report.specs.declared.figures.Spread.{Spread}
use Rattle.load_report.specs.declared.traffic.Traffic.{Traffic}

pub same_columns : (word : Cell) (n m : ℕ) (s t : Spread) (c d : Changes) → n ≡ m → s ≡ t → c ≡ d → placement_columns word n s c ≡ placement_columns word m t d
same_columns word n m s t c d steps spreads changes = rw (steps, spreads, changes) refl

pub same_changes : (s t : Spread) (c d : Change) (a b : Traffic) → s ≡ t → c ≡ d → a ≡ b → changes_of s c a ≡ changes_of t d b
same_changes s t c d a b spreads changes traffics = rw (spreads, changes, traffics) refl
