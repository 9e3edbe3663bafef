-- A checkpoint behind its first line, part by part.
use Rattle.std.proofs.Common.{◌≡◌, ℕ, ◌+◌, ◌⊎◌, inl, inr, List, ◌++◌, sym, ap, subst, ◌∙◌}
use Rattle.workload.specs.Text.{IsText, WorkloadView}
use Rattle.run_checkpoint.specs.declared.checkpoint.DecidedRound.{DecidedRound}
use Rattle.run_checkpoint.specs.declared.error.CheckpointError.{CheckpointError}
use Rattle.run_checkpoint.specs.declared.error.CheckpointError.TheVariants.{OutOfMemory}
use Rattle.run_checkpoint.specs.Text.{places_line, round_lines}
use Rattle.run_checkpoint.specs.Faults.{AreBadPlaces, AreBadRounds, AreItsPlaces, AreItsRounds, ArePlaces, AreRounds, IsApart, IsBadWorkload, IsBodyFault}
use Rattle.run_checkpoint.specs.Bodies.{IsBody}
use Rattle.run_checkpoint.specs.Scanning.{IsFront}

-- why there is no body
abbrev pub IsNoBody : ℕ → List ℕ → CheckpointError → Type 0
IsNoBody rounds bytes e = (e ≡ OutOfMemory) ⊎ IsBodyFault rounds bytes e

module _ (rounds : ℕ) (bytes : List ℕ) where
  -- the lines of the rounds have a fault
  pub no_rounds : (e : CheckpointError) → (e ≡ OutOfMemory) ⊎ AreBadRounds rounds bytes e → IsNoBody rounds bytes e
  no_rounds e (inl none) = inl none
  no_rounds e (inr bad) = inr (inl bad)

  module _ (decided : List DecidedRound) (behind_rounds : List ℕ) (front : IsFront (AreRounds rounds) (round_lines 1) bytes decided behind_rounds) where
    -- the line of the places has a fault
    pub no_places : (e : CheckpointError) → (e ≡ OutOfMemory) ⊎ AreBadPlaces (rounds + 2) behind_rounds e → IsNoBody rounds bytes e
    no_places e (inl none) = inl none
    no_places e (inr bad) =
        inr (inr (record {
          value = decided;
          rest = behind_rounds;
          good = front.good;
          spelled = front.spelled;
          next = inl (subst (λ n. AreBadPlaces (n + 2) behind_rounds e) (sym front.good.counted) bad);
        }))

    module _ (places behind_places : List ℕ) (placed : IsFront ArePlaces places_line behind_rounds places behind_places) where
      -- the workload has a fault
      pub no_workload : (e : CheckpointError) → (e ≡ OutOfMemory) ⊎ IsBadWorkload (rounds + 2) behind_places e → IsNoBody rounds bytes e
      no_workload e (inl none) = inl none
      no_workload e (inr bad) =
          inr (inr (record {
            value = decided;
            rest = behind_rounds;
            good = front.good;
            spelled = front.spelled;
            next = inr (record {
              value = places;
              rest = behind_places;
              good = placed.good;
              spelled = placed.spelled;
              next = inl (subst (λ n. IsBadWorkload (n + 2) behind_places e) (sym front.good.counted) bad);
            });
          }))

      module _ (w : WorkloadView) (text : IsText w behind_places) where
        -- the rounds or the places are not of this workload
        pub not_of : (e : CheckpointError) → IsApart decided places w e → IsNoBody rounds bytes e
        not_of e apart =
            inr (inr (record {
              value = decided;
              rest = behind_rounds;
              good = front.good;
              spelled = front.spelled;
              next = inr (record {
                value = places;
                rest = behind_places;
                good = placed.good;
                spelled = placed.spelled;
                next = inr (record { workload = w; text = text; apart = apart });
              });
            }))

        -- they are
        pub body_of : AreItsRounds decided w → AreItsPlaces places w → IsBody rounds bytes (record { decided = decided; places = places; workload = w })
        body_of few are =
            record {
              counted = front.good.counted;
              within = record {
                workload = text.within;
                few_rounds = few;
                decided = front.good.all;
                each_chare = are.each_chare;
                placed = are.placed;
              };
              spelled =
                  front.spelled
                  ∙ ap (λ t. round_lines 1 decided ++ t) (placed.spelled ∙ ap (λ t. places_line places ++ t) text.spelled);
              workload = subst (IsText w) text.spelled text;
            }
