-- Bytes are the text of one checkpoint at most.
use Rattle.std.proofs.Common.{◌≡◌, ◌⊎◌, inl, inr, ℕ, ◌+◌, List, ◌++◌, length, replicate, Result, Ok, Err, sym, subst, ◌∙◌, refl, arith}
use Rattle.std.specs.Prelude.{MatchResult}
use Rattle.tally.specs.Tallies.{TallyView}
use Rattle.workload.specs.Text.{IsText, WorkloadView, workload_text}
use Rattle.workload.proofs.Texts.{one_workload}
use Rattle.run_checkpoint.specs.declared.checkpoint.DecidedRound.{DecidedRound}
use Rattle.run_checkpoint.specs.declared.error.CheckpointError.{CheckpointError}
use Rattle.run_checkpoint.specs.declared.error.CheckpointError.TheVariants.{OutOfMemory}
use Rattle.run_checkpoint.specs.Faults.{IsFault, IsHead}
use Rattle.run_checkpoint.specs.Reading.{IsAnswer}
use Rattle.run_checkpoint.specs.Tallies.{amounts_of, tally_after}
use Rattle.run_checkpoint.specs.Text.{CheckpointView, IsCheckpointText, IsWithin, body_text, checkpoint_text, places_line}
use Rattle.run_checkpoint.proofs.Fronts.{one_head}
use Rattle.run_checkpoint.proofs.PlacesLine.{one_places, places_form}
use Rattle.run_checkpoint.proofs.Lone.{head_short, no_fault, one_fault, one_rounds, places_within}

-- the rounds of a checkpoint within its limits
few_rounds : (c : CheckpointView) → IsWithin c → IsHead (length c.decided)
few_rounds c is = omega (arith, is.few_rounds, is.workload.few_rounds)

pub one_checkpoint : (c d : CheckpointView) (bytes : List ℕ) → IsCheckpointText c bytes → IsCheckpointText d bytes → c ≡ d
one_checkpoint c d bytes one other =
    let head = one_head (length c.decided) (length d.decided) (body_text c) (body_text d) (head_short (length c.decided) (few_rounds c one.within))
    (head_short (length d.decided) (few_rounds d other.within)) (sym one.spelled ∙ other.spelled) in
    let rounds = one_rounds 1 c.decided d.decided (places_line c.places ++ workload_text c.workload) (places_line d.places ++ workload_text d.workload)
    (omega (arith, one.within.few_rounds, one.within.workload.few_rounds)) head.0 one.within.decided other.within.decided head.1 in
    let places = one_places c.places d.places (workload_text c.workload) (workload_text d.workload) (places_form c.places (places_within c one.within)) (places_form d.places (places_within d other.within)) rounds.1 in
    let second : IsText d.workload (workload_text c.workload) = subst (IsText d.workload) (sym places.1) other.workload in
    joined c.decided d.decided c.places d.places c.workload d.workload rounds.0 places.0 (one_workload c.workload d.workload (workload_text c.workload) one.workload second)
  where
    joined : (a b : List DecidedRound) (p q : List ℕ) (v w : WorkloadView) → a ≡ b → p ≡ q → v ≡ w
        → ◌≡◌ {A = CheckpointView} (record { decided = a; places = p; workload = v }) (record { decided = b; places = q; workload = w })
    joined a b p q v w x y z = rw (x, y, z) refl

pub one_text : (c : CheckpointView) (a b : List ℕ) → IsCheckpointText c a → IsCheckpointText c b → a ≡ b
one_text c a b one other = one.spelled ∙ sym other.spelled

pub written : (c : CheckpointView) → IsWithin c → IsText c.workload (workload_text c.workload) → IsCheckpointText c (checkpoint_text c)
written c within text = record { spelled = refl; within = within; workload = text }

pub opening : (w : WorkloadView) (i : ℕ) → ◌≡◌ {A = TallyView} (tally_after w 0 i) (record { posted = 0; got = 0; sum = 0; amounts = amounts_of w i; pad = replicate w.pad 0 })
opening w i = refl

-- the answer to a text is its checkpoint, and the answer to bytes with a fault is that
pub answered : (bytes : List ℕ) (result : Result CheckpointView CheckpointError) → IsAnswer bytes result → (c : CheckpointView) → IsCheckpointText c bytes
    → MatchResult result (λ d. d ≡ c) (λ e. e ≡ OutOfMemory)
answered bytes (Ok d) answer c is = one_checkpoint d c bytes answer is
answered bytes (Err e) (inl none) c is = none.0
answered bytes (Err e) (inr fault) c is = absurd (no_fault c bytes e is fault)

pub refused : (bytes : List ℕ) (result : Result CheckpointView CheckpointError) → IsAnswer bytes result → (e : CheckpointError) → IsFault bytes e
    → MatchResult result (λ _. ⊥) (λ f. (f ≡ OutOfMemory) ⊎ (f ≡ e))
refused bytes (Ok c) answer e fault = no_fault c bytes e answer fault
refused bytes (Err f) (inl none) e fault = inl none.0
refused bytes (Err f) (inr also) e fault = inr (one_fault bytes f e also fault)
