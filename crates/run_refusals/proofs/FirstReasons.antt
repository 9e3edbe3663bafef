-- What follows from the first reason of a run.
use Rattle.std.proofs.Common.{◌↔◌, ℕ, ◌<◌, ◌≤◌, Bool, List, Option, None, Some, arith, sum}
use Rattle.std.specs.Prelude.{IfSome, MatchOption}
use Rattle.std.proofs.lemmas.Grind.{common_steps}
use Rattle.lb_lists.specs.Runs.{AreSmall, FitsSnapshot, IsAsked, Listed}
use Rattle.run_refusals.specs.Refusals.{refusal_number, IsPlannable, IsRefusedFor, PassesAt}
use Rattle.run_refusals.specs.declared.refusal.RunRefusal.{RunRefusal}

-- numbers that pass a limit at some entry add up to more
pub passes_limit : (numbers : List ℕ) (limit i : ℕ) → PassesAt numbers limit i → limit < sum numbers
passes_limit numbers limit i p = let behind = p.behind in grind (arith, common_steps)

-- a run that can be planned, and fits a tolerance where none of its reasons is found
pub plannable : (found : Option RunRefusal) (run : Listed) (pes : ℕ) (within : Bool) → IsAsked run pes → AreSmall run.loads
    → MatchOption found (FitsSnapshot run pes) (IsRefusedFor run pes within)
    → MatchOption found (IsPlannable run pes within) (IsRefusedFor run pes within)
plannable None run pes within asked small fits = record { asked = asked; small = small; fits = λ _. fits }
plannable (Some refusal) run pes within asked small refused = refused

-- a reason of a tolerance is no bad input
pub no_input : (found : Option RunRefusal) (run : Listed) (pes : ℕ) → IsAsked run pes → IfSome found (λ refusal. 10 < refusal_number refusal)
    → IfSome found (λ refusal. (refusal_number refusal ≤ 9) ↔ ¬ (IsAsked run pes))
no_input None run pes asked late = tt
no_input (Some refusal) run pes asked late = (λ early. absurd (omega (arith, early, late)), λ unasked. absurd (unasked asked))

-- and the run is too large for it
pub too_large : (found : Option RunRefusal) (run : Listed) (pes : ℕ) → IsAsked run pes → AreSmall run.loads
    → IfSome found (λ refusal. 10 < refusal_number refusal) → IfSome found (λ _. ¬ (FitsSnapshot run pes))
    → IfSome found (λ refusal. (10 < refusal_number refusal) ↔ (IsAsked run pes × AreSmall run.loads × ¬ (FitsSnapshot run pes)))
too_large None run pes asked small late unfit = tt
too_large (Some refusal) run pes asked small late unfit = (λ _. (asked, small, unfit), λ _. late)
