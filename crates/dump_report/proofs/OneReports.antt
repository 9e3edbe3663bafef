-- What is reported is a function of the bytes read, the name, the numbers of PEs, the tolerance and the style.
use Rattle.std.proofs.Common.{◌≡◌, ℕ, List, [], ◌∷◌, ◌++◌, Option, None, Some, ap, sym, ◌∙◌, subst, inl, inr}
use Rattle.chain_partition.proofs.ChosenOnce.{only_from_chosen}
use Rattle.dump_format.specs.Dumps.{Dumped}
use Rattle.dump_format.specs.declared.recorded.Recorded.{Recorded}
use Rattle.dump_format.proofs.OneText.{one_dump}
use Rattle.lb_certificates.specs.declared.division.Division.{Division}
use Rattle.lb_refinement.specs.Refined.{AreSame, as_planned, refined_cuts, refined_least, refined_moved, refined_moves, refined_names, refined_prices}
use Rattle.lb_refinement.specs.declared.refined.Refined.{Refined}
use Rattle.lb_refinement.proofs.OneRefined.{one_refined}
use Rattle.lb_replay.proofs.RefinedTexts.{chosen_from_refined}
use Rattle.lb_snapshot.specs.Measured.{Taken}
use Rattle.lb_strategy.specs.declared.decision.Decision.{Decision}
use Rattle.lb_strategy.proofs.OneDecisions.{IsSame, one_decision}
use Rattle.load_report.specs.Text.{IsRecordedText, planned_text, present_text, refined_text}
use Rattle.load_report.specs.declared.style.Style.{Style}
use Rattle.dump_report.specs.Reports.{ArePlans, IsBeside, IsDecided, IsPast, IsPlan, IsReport, IsSaid, IsWithin, numbers_of}

module _ (A : Type 0) (style : Style) (name : List ℕ) (s : Taken) where
  -- a decision with other parts, except for those that no text depends on
  abbrev with_parts : Decision A → ℕ → List (ℕ × ℕ × ℕ) → List ℕ → List ℕ → Decision A
  with_parts d least moves cuts names = record {
    division = record { bottleneck = least; cuts = cuts; floor = d.division.floor };
    naming = names;
    prices = d.prices;
    moved = d.moved;
    moves = moves;
  }

  -- what is reported of it
  abbrev told : ℕ → Decision A → ℕ → List (ℕ × ℕ × ℕ) → List ℕ → List ℕ → List ℕ
  told pes d least moves cuts names = planned_text style name s pes (with_parts d least moves cuts names)

  -- decisions that agree in this have one text
  same_text : (pes : ℕ) (d e : Decision A) → IsSame d e → planned_text style name s pes d ≡ planned_text style name s pes e
  same_text pes d e same =
      ap (λ moves. told pes d d.division.bottleneck moves d.division.cuts d.naming) same.moves
      ∙ ap (λ n. told pes d n e.moves d.division.cuts d.naming) same.bottleneck
      ∙ ap (λ xs. told pes d e.division.bottleneck e.moves xs d.naming) same.cuts
      ∙ ap (λ xs. told pes d e.division.bottleneck e.moves e.division.cuts xs) same.naming

  one_plan : (pes : ℕ) (text other : List ℕ) → IsPlan A style name s pes text → IsPlan A style name s pes other → text ≡ other
  one_plan pes text other this that =
      let same : IsSame this.decision that.decision = one_decision s.loads s.sizes pes this.decision that.decision this.chosen that.chosen
      this.least that.least this.right that.right in
      this.printed ∙ same_text pes this.decision that.decision same ∙ sym that.printed

  -- a decision within a tolerance with other parts, except for those that no text depends on
  abbrev refined_with : Refined A → ℕ → List (ℕ × ℕ × ℕ) → List ℕ → List ℕ → Refined A
  refined_with r least moves cuts names = as_planned (record {
    division = record { bottleneck = least; cuts = cuts; floor = (refined_least r).floor };
    naming = names;
    prices = refined_prices r;
    moved = refined_moved r;
    moves = moves;
  })

  -- what is reported of it
  abbrev told_within : ℕ → Refined A → ℕ → List (ℕ × ℕ × ℕ) → List ℕ → List ℕ → List ℕ
  told_within pes r least moves cuts names = refined_text style name s pes (refined_with r least moves cuts names)

  -- decisions that agree in this have one text
  same_within : (pes : ℕ) (d e : Refined A) → refined_least d ≡ refined_least e → AreSame d e → refined_text style name s pes d ≡ refined_text style name s pes e
  same_within pes d e least same =
      ap (λ (division : Division A). told_within pes d division.bottleneck (refined_moves d) (refined_cuts d) (refined_names d)) least
      ∙ ap (λ moves. told_within pes d (refined_least e).bottleneck moves (refined_cuts d) (refined_names d)) same.moves
      ∙ ap (λ cuts. told_within pes d (refined_least e).bottleneck (refined_moves e) cuts (refined_names d)) same.cuts
      ∙ ap (λ names. told_within pes d (refined_least e).bottleneck (refined_moves e) (refined_cuts e) names) same.names

  one_within : (pes tolerance : ℕ) (text other : List ℕ) → IsWithin A style name s pes tolerance text → IsWithin A style name s pes tolerance other → text ≡ other
  one_within pes tolerance text other this that =
      let chosen = chosen_from_refined s.loads s.sizes pes tolerance that.decision that.refined in
      let also = chosen_from_refined s.loads s.sizes pes tolerance this.decision this.refined in
      let least : refined_least this.decision ≡ refined_least that.decision = only_from_chosen s.loads pes (refined_least that.decision)
      chosen (refined_least this.decision) also in
      let same : AreSame this.decision that.decision = one_refined s.loads s.sizes pes tolerance this.decision that.decision this.refined that.refined in
      this.printed ∙ same_within pes this.decision that.decision least same ∙ sym that.printed

  one_beside : (pes : ℕ) (text other : List ℕ) → IsBeside A style name s pes text → IsBeside A style name s pes other → text ≡ other
  one_beside pes text other (inl (moves, this)) (inl (also, that)) = this ∙ sym that
  one_beside pes text other (inl (moves, this)) (inr (figures, that)) = cc
  one_beside pes text other (inr (figures, this)) (inl (moves, that)) = cc
  one_beside pes text other (inr (figures, this)) (inr (also, that)) = one_plan pes text other this that

  one_decided : (tolerance : Option ℕ) (pes : ℕ) (text other : List ℕ) → IsDecided A style name s tolerance pes text → IsDecided A style name s tolerance pes other → text ≡ other
  one_decided None pes text other this that = one_plan pes text other this that
  one_decided (Some tolerance) pes text other this that =
      this.4 ∙ ap (λ t. t ++ this.1) (one_beside pes this.0 that.0 this.2 that.2) ∙ ap (λ t. that.0 ++ t) (one_within pes tolerance this.1 that.1 this.3 that.3) ∙ sym that.4

  one_list : (tolerance : Option ℕ) (procs : List ℕ) (text other : List ℕ) → ArePlans A style name s tolerance procs text
      → ArePlans A style name s tolerance procs other → text ≡ other
  one_list tolerance [] text other this that = this ∙ sym that
  one_list tolerance (p ∷ procs) text other this that =
      this.4 ∙ ap (λ t. t ++ this.1) (one_decided tolerance p this.0 that.0 this.2 that.2)
      ∙ ap (λ t. that.0 ++ t) (one_list tolerance procs this.1 that.1 this.3 that.3) ∙ sym that.4

  -- a recorded decision has one text
  one_recorded : (pes : ℕ) (d : Decision A) (text other : List ℕ) → IsRecordedText style name s pes d text → IsRecordedText style name s pes d other → text ≡ other
  one_recorded pes d text other (inl (moves, this)) (inl (also, that)) = this ∙ sym that
  one_recorded pes d text other (inl (moves, this)) (inr (figures, that)) = cc
  one_recorded pes d text other (inr (figures, this)) (inl (moves, that)) = cc
  one_recorded pes d text other (inr (figures, inl (right, this))) (inr (also, inl (rightly, that))) = this ∙ sym that
  one_recorded pes d text other (inr (figures, inl (right, this))) (inr (also, inr (wrong, that))) = absurd (wrong right)
  one_recorded pes d text other (inr (figures, inr (wrong, this))) (inr (also, inl (right, that))) = absurd (wrong right)
  one_recorded pes d text other (inr (figures, inr (wrong, this))) (inr (also, inr (wrongly, that))) = this ∙ sym that

  one_past : (recorded : Option (Recorded A)) (text other : List ℕ) → IsPast style name s recorded text → IsPast style name s recorded other → text ≡ other
  one_past None text other this that = this ∙ sym that
  one_past (Some r) text other this that = one_recorded r.target r.decision text other this that

one_said : {A : Type 0} (style : Style) (name procs : List ℕ) (tolerance : Option ℕ) (d : Dumped A) (text other : List ℕ)
    → IsSaid style name procs tolerance d text → IsSaid style name procs tolerance d other → text ≡ other
one_said {A} style name procs tolerance d text other this that =
    let past : this.past ≡ that.past = one_past A style name d.snapshot d.recorded this.past that.past this.recorded that.recorded in
    let plans : this.plans ≡ that.plans = one_list A style name d.snapshot tolerance (numbers_of procs d.snapshot.procs) this.plans that.plans this.planned that.planned in
    this.printed
    ∙ ap (λ t. present_text style name d.snapshot ++ (t ++ this.plans)) past
    ∙ ap (λ t. present_text style name d.snapshot ++ (that.past ++ t)) plans
    ∙ sym that.printed

pub one_report : (A : Type 0) (style : Style) (name procs : List ℕ) (tolerance : Option ℕ) (bytes text other : List ℕ)
    → IsReport A (Some bytes) style name procs tolerance text → IsReport A (Some bytes) style name procs tolerance other → text ≡ other
one_report A style name procs tolerance bytes text other this that =
    let same : that.dump ≡ this.dump = one_dump that.dump this.dump bytes that.read this.read in
    one_said style name procs tolerance this.dump text other this.said (subst (λ (d : Dumped A). IsSaid style name procs tolerance d other) same that.said)
