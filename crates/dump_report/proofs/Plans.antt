-- What is reported of decisions, one beside another, and one after another.
use Rattle.std.proofs.Common.{◌≡◌, ℕ, List, [], ◌∷◌, ◌++◌, Option, Some, ap, refl, sym, ◌∙◌, append_assoc}
use Rattle.std.proofs.lemmas.List.{append-nil}
use Rattle.lb_snapshot.specs.Measured.{Taken}
use Rattle.load_report.specs.declared.style.Style.{Style}
use Rattle.dump_report.specs.Reports.{ArePlans, IsBeside, IsDecided, IsWithin}

module _ (A : Type 0) (style : Style) (name : List ℕ) (s : Taken) where
  -- one more
  pub plans_more : (tolerance : Option ℕ) (procs : List ℕ) (p : ℕ) (made more : List ℕ) → ArePlans A style name s tolerance procs made
      → IsDecided A style name s tolerance p more → ArePlans A style name s tolerance (procs ++ p ∷ []) (made ++ more)
  plans_more tolerance [] p made more are plan =
      (more, [], plan, refl, ap (λ t. t ++ more) are ∙ sym (append-nil more))
  plans_more tolerance (q ∷ procs) p made more are plan = (
    are.0,
    are.1 ++ more,
    are.2,
    plans_more tolerance procs p are.1 more are.3 plan,
    ap (λ t. t ++ more) are.4 ∙ append_assoc are.0 are.1 more,
  )

  -- the decision within a tolerance, behind the plan
  pub both_said : (tolerance pes : ℕ) (old middle new plan within : List ℕ) → IsBeside A style name s pes plan
      → IsWithin A style name s pes tolerance within → middle ≡ old ++ plan → new ≡ middle ++ within
      → (said : List ℕ) × IsDecided A style name s (Some tolerance) pes said × (new ≡ old ++ said)
  both_said tolerance pes old middle new plan within beside is first second =
      (plan ++ within, (plan, within, beside, is, refl), second ∙ ap (λ t. t ++ within) first ∙ append_assoc old plan within)
