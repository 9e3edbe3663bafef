-- Verdicts by one seed after another: one more.
use Rattle.std.proofs.Common.{◌≡◌, ℕ, ◌+◌, List, [], ◌∷◌, ◌++◌, length, subst, arith}
use Rattle.std.specs.Prelude.{Result}
use Rattle.chares.specs.Elements.{Refuses}
use Rattle.chares.specs.Steps.{Step}
use Rattle.pup_pack.specs.declared.error.PupError.{PupError}
use Rattle.schedules.specs.declared.schedule.Schedule.{Schedule}
use Rattle.schedule_run.specs.Seeds.{AreVerdicts, IsVerdict}
use Rattle.schedule_run.specs.declared.verdict.Verdict.{Verdict}

module _ {C : Type 0} (A : Type 0) (step : Step C) (fits : C → Type 0) (pack : C → List ℕ) (refuses : Refuses C)
    (unpack : List ℕ → Result (C × ℕ) PupError) (chares : List C) (schedule : Schedule) where
  pub verdicts_more : (seed : ℕ) (vs : List Verdict) (v : Verdict) (next : ℕ) → next ≡ seed + length vs → AreVerdicts A step fits pack refuses unpack chares schedule seed vs
      → IsVerdict A step fits pack refuses unpack chares schedule next v → AreVerdicts A step fits pack refuses unpack chares schedule seed (vs ++ v ∷ [])
  verdicts_more seed [] v next is all one =
      let same : next ≡ seed = omega (arith, is) in
      (subst (λ (s : ℕ). IsVerdict A step fits pack refuses unpack chares schedule s v) same one, tt)
  verdicts_more seed (x ∷ vs) v next is (here, all) one =
      let same : next ≡ seed + 1 + length vs = omega (arith, is) in
      (here, verdicts_more (seed + 1) vs v next same all one)
