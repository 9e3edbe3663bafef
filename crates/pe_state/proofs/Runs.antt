-- A PE of a run that is seen otherwise.
use Rattle.std.proofs.Common.{◌≡◌, ℕ, List, sym, subst}
use Rattle.chares.specs.Steps.{Step}
use Rattle.pe_state.specs.Pes.{PeView}
use Rattle.pe_state.specs.Standing.{IsOfRun}

module _ {C : Type 0} {step : Step C} {fits : C → Type 0} {pack : C → List ℕ} {opened : List C} {pes : ℕ} where
  pub same_run : {v w : PeView C} → v ≡ w → IsOfRun step fits pack opened pes w → IsOfRun step fits pack opened pes v
  same_run {v} {w} e h = subst (λ (x : PeView C). IsOfRun step fits pack opened pes x) (sym e) h
