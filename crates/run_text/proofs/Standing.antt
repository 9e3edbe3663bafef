-- The list of the sums of all elements, once it is filled in.
use Rattle.std.proofs.Common.{◌≡◌, ℕ, ◌<◌, List, ◌++◌, length, get_or, replicate, take, sym, ap, ◌∙◌, subst, zero-add}
use Rattle.std.proofs.lemmas.List.{ext_get_or, length-replicate}
use Rattle.std.proofs.lemmas.List.FromFn.{get_or-map-range_with_len, length-map-range_with_len}
use Rattle.rts_core.specs.Places.{lives}
use Rattle.rts_run.specs.Outcomes.{OutcomeView}
use Rattle.run_account.specs.RunAccounts.{left_world}
use Rattle.tally.specs.Tallies.{TallyView}
use Rattle.run_account.specs.Noting.{with_noted}
use Rattle.run_text.specs.Sums.{AreTallies, all_sums, element_sums, sum_of}
use Rattle.run_account.proofs.Noting.{length-with_noted, written_back}
use Rattle.run_text.proofs.Filling.{named_once}
use Rattle.run_text.proofs.Places.{named_alike, same_all}

module _ {A : Type 0} (n : ℕ) (o : OutcomeView TallyView A) (tallies : AreTallies n o) where
  filled_length : length (with_noted (replicate n 0) (all_sums o)) ≡ n
  filled_length = length-with_noted (replicate n 0) (all_sums o) ∙ length-replicate n 0

  filled_at : (e : ℕ) → e < n → get_or (with_noted (replicate n 0) (all_sums o)) e 0 ≡ sum_of o e
  filled_at e inside =
      named_once e (replicate n 0) (all_sums o)
      (subst (λ m. e < m) (sym (length-replicate n 0)) inside)
      (sym (named_alike e (lives (left_world o.ends o.left)) (all_sums o) (same_all o)) ∙ tallies.stands e inside)

  -- once all are noted, the sum of each element is at its index
  pub all_noted : with_noted (replicate n 0) (all_sums o) ≡ element_sums o n
  all_noted =
      ext_get_or 0 (with_noted (replicate n 0) (all_sums o)) (element_sums o n)
      (filled_length ∙ sym (length-map-range_with_len (sum_of o) 0 n))
      (λ e inside.
      let within : e < n = subst (λ m. e < m) filled_length inside in
      filled_at e within ∙ sym (get_or-map-range_with_len (sum_of o) 0 n e e 0 within (zero-add e)))

  -- and so it is once they are written back to the whole list
  pub all_filled : (len : ℕ) (start filled rest : List ℕ)
      → start ≡ replicate n 0
      → length start ≡ len
      → filled ≡ with_noted start (all_sums o)
      → take len (filled ++ rest) ≡ element_sums o n
  all_filled len start filled rest zeros long noted =
      let same : length filled ≡ len = ap length noted ∙ length-with_noted start (all_sums o) ∙ long in
      written_back len filled rest same ∙ noted ∙ ap (λ (v : List ℕ). with_noted v (all_sums o)) zeros ∙ all_noted
