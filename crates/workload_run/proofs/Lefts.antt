-- What a run of the tallies of a workload left.
use Rattle.std.proofs.Common.{◌≡◌, ℕ, List, length, subst, sym, ◌∙◌}
use Rattle.std.proofs.lemmas.List.FromFn.{length-map-range_with_len}
use Rattle.sync_board.specs.declared.strategy.Strategy.{Strategy}
use Rattle.rts_run.specs.Outcomes.{IsOutcome, OutcomeView}
use Rattle.run_text.specs.Sums.{AreTallies}
use Rattle.run_text.proofs.Histories as of_runs
use Rattle.std.specs.Prelude.{◌<◌, ◌^◌}
use Rattle.tally.specs.Tallies.{TallyRefuses, TallyView, tally_pack, tally_step}
use Rattle.workload.specs.Text.{WorkloadView}
use Rattle.workload_run.specs.Driving.{IsLeftBy}
use Rattle.workload_run.specs.Tallies.{tallies_of, tally_of}

-- what a run of these chares on this number of PEs left
pub left_by : {A : Type 0} (fits : TallyView → Type 0) (chares chares' : List TallyView) (pes pes' : ℕ) (strategy : Strategy)
    (o : OutcomeView TallyView A) → chares ≡ chares' → pes ≡ pes'
    → IsOutcome tally_step fits tally_pack TallyRefuses chares pes strategy o
    → IsLeftBy fits chares' pes' strategy o
left_by fits chares chares' pes pes' strategy o same_chares same_pes left =
    subst (λ cs. IsLeftBy fits cs pes' strategy o) same_chares (subst (λ (p : ℕ). IsLeftBy fits chares p strategy o) same_pes left)

-- what is reported are tallies, as many as the workload has chares
pub are_tallies : {A : Type 0} (fits : TallyView → Type 0) → ((t : TallyView) → fits t → t.sum < 2 ^ 64)
    → (w : WorkloadView) (n : ℕ) (strategy : Strategy) (o : OutcomeView TallyView A) → n ≡ w.chares → IsLeftBy fits (tallies_of w) w.pes strategy o
    → AreTallies n o
are_tallies fits numbered w n strategy o same left =
    let counted : length (tallies_of w) ≡ n = length-map-range_with_len (tally_of w) 0 w.chares ∙ sym same in
    subst (λ m. AreTallies m o) counted (of_runs.tallies_of fits numbered (tallies_of w) o (record { account = left.account; histories = left.histories }))
