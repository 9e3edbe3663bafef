-- What the sum of an element is: that of the tally which it opened with, after all that it has handled.
use Rattle.std.specs.Prelude.{◌≡◌, ℕ, ◌==◌, List, [], ◌∷◌, length, slice_get, Some}
use Rattle.std.specs.Map.{lookup}
use Rattle.chares.specs.Letters.{Done, input_of}
use Rattle.chares.specs.Steps.{Step}
use Rattle.rts_core.specs.Places.{lives}
use Rattle.rts_core.specs.Histories.{AreHistories}
use Rattle.rts_run.specs.Outcomes.{OutcomeView}
use Rattle.run_account.specs.RunAccounts.{IsRunAccount, left_world}
use Rattle.tally.specs.Tallies.{TallyView, tally_pack, tally_step}
use Rattle.run_text.specs.Sums.{sum_of}

-- What a run left that opened with these tallies, of which their type says what fits it: the account holds, and every
-- element is what its journal says.
pub record IsTallyRun {A : Type 0} (fits : TallyView → Type 0) (opened : List TallyView) (o : OutcomeView TallyView A) : Type 0 where
  pub account : IsRunAccount tally_step opened (left_world o.ends o.left)
  pub histories : AreHistories tally_step fits tally_pack opened (left_world o.ends o.left)

-- the chare of element e of n after these entries, from this chare on
abbrev pub chare_after : {C : Type 0} → Step C → ℕ → ℕ → C → List Done → C
chare_after step e n chare [] = chare
chare_after step e n chare (done ∷ journal) = chare_after step e n (step chare e n (input_of done)).state journal

-- Element e of a run that opened with these tallies is somewhere with its journal, and the sum that is found there is
-- that of the tally which it opened with, after the entries of the journal.
pub record IsAddedUp {A : Type 0} (opened : List TallyView) (o : OutcomeView TallyView A) (e : ℕ) : Type 0 where
  pub opening : TallyView
  pub opens : slice_get opened e ≡ Some opening
  pub journal : List Done
  pub stands : lookup (λ i. i == e) (lives (left_world o.ends o.left)) ≡ Some journal
  pub sum : sum_of o e ≡ (chare_after tally_step e (length opened) opening journal).sum
