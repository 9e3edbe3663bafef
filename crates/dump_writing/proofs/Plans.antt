-- The parts in which a text is written.
use Rattle.std.proofs.Common.{◌≡◌, ℕ, List, ◌∷◌, ◌++◌, ◌∙◌, ap, append_assoc, length, refl}
use Rattle.std.specs.Prelude.{flat_map}
use Rattle.std.specs.Int.{w64}
use Rattle.lb_snapshot.specs.Measured.{Taken}
use Rattle.dump_format.specs.declared.recorded.Recorded.{Recorded}
use Rattle.dump_format.specs.Dumps.{Dumped}
use Rattle.dump_format.specs.Text.{word, long, elements_text, floor_text, plan_text, ending_text, lbd2_text}
use Rattle.dump_writing.specs.Parts.{front_text, division_text, naming_text}

-- a head, and the elements after it
pub front_parts : (s : Taken) (head loads : List ℕ) (step procs : ℕ) → step ≡ s.step → procs ≡ s.procs → loads ≡ s.loads
    → head ≡ 76 ∷ 66 ∷ 68 ∷ 50 ∷ (word step ++ (word procs ++ word (length loads)))
    → head ++ elements_text w64 s.loads s.sizes ≡ front_text s
unfolding front_text
front_parts s head loads step procs of_step of_procs of_loads is =
    ap (λ h. h ++ elements_text w64 s.loads s.sizes)
    (is ∙ ap (λ n. 76 ∷ 66 ∷ 68 ∷ 50 ∷ (word n ++ (word procs ++ word (length loads)))) of_step
    ∙ ap (λ n. 76 ∷ 66 ∷ 68 ∷ 50 ∷ (word s.step ++ (word n ++ word (length loads)))) of_procs
    ∙ ap (λ (xs : List ℕ). 76 ∷ 66 ∷ 68 ∷ 50 ∷ (word s.step ++ (word s.procs ++ word (length xs)))) of_loads)

-- the target, the division, and what follows it
pub plan_parts : {A : Type 0} (r : Recorded A) → word r.target ++ (division_text r.decision.division ++ naming_text r.decision) ≡ plan_text r
unfolding plan_text division_text naming_text
plan_parts r =
    let d = r.decision.division in
    ap (λ t. word r.target ++ (long d.bottleneck ++ t)) (append_assoc (flat_map word d.cuts) (floor_text d.floor) (naming_text r.decision))

-- all up to the last element, and what follows that
pub dump_parts : {A : Type 0} (d : Dumped A) → front_text d.snapshot ++ ending_text d.recorded ≡ lbd2_text d
unfolding front_text
dump_parts d = refl
