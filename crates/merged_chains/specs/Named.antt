-- What is claimed of the names of the blocks of a table, and what is wrong with it.
use Rattle.std.specs.Prelude.{◌≡◌, ◌≢◌, ◌⊎◌, ℕ, List, ℤ}
use Rattle.lb_certificates.specs.Flaws.{IsFirst}
use Rattle.lb_certificates.specs.Held.{held_moved, HasHeldFlaw, IsNamedBy}
use Rattle.lb_certificates.specs.declared.flaw.Flaw.{Flaw}
use Rattle.lb_certificates.specs.declared.flaw.Flaw.TheVariants.{MovedWrong}

-- the names and the prices are right by the table, and so is the number of bytes that move
pub record AreRightBy (blocks : ℕ) (held names : List ℕ) (u v : List ℤ) (moved : ℕ) : Type 0 where
  pub named : IsNamedBy blocks held names u v
  pub moved_is : moved ≡ held_moved blocks held names

-- the first flaw: one of the names and the prices; or none of these, and the number of bytes is wrong
abbrev pub IsFirstNamesFlaw : ℕ → List ℕ → List ℕ → List ℤ → List ℤ → ℕ → Flaw → Type 0
IsFirstNamesFlaw blocks held names u v moved flaw =
    IsFirst (HasHeldFlaw blocks held names u v) flaw ⊎ ((flaw ≡ MovedWrong) × IsNamedBy blocks held names u v × (moved ≢ held_moved blocks held names))
