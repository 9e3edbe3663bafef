-- The lines of runs by seeds, one after another.
use Rattle.std.proofs.Common.{◌≡◌, ℕ, ◌+◌, ◌<◌, ◌≤◌, List, [], ◌∷◌, ◌++◌, length, take, get_or, Option, None, Some, arith, ap, sym, ◌∙◌, refl, append_assoc, append-nil}
use Rattle.std.specs.Option.{option_or}
use Rattle.std.proofs.lemmas.List.{length-take-le, take_more}
use Rattle.pe_worker.specs.declared.fault.Fault.{Fault}
use Rattle.schedule_run.specs.Seeds.{fault_count, fault_line, fault_lines, fault_of_first, faults_among}
use Rattle.schedule_run.specs.declared.verdict.Verdict.{Verdict}

-- one more line
pub lines_more : (seed : ℕ) (vs : List Verdict) (v : Verdict) → fault_lines seed (vs ++ v ∷ []) ≡ fault_lines seed vs ++ fault_line (seed + length vs) v.held v.fault
lines_more seed [] v = append-nil (fault_line seed v.held v.fault) ∙ ap (λ s. fault_line s v.held v.fault) (omega arith)
lines_more seed (u ∷ vs) v =
    ap (λ l. fault_line seed u.held u.fault ++ l) (lines_more (seed + 1) vs v ∙ ap (λ s. fault_lines (seed + 1) vs ++ fault_line s v.held v.fault) (omega arith))
    ∙ sym (append_assoc (fault_line seed u.held u.fault) (fault_lines (seed + 1) vs) (fault_line (seed + length (u ∷ vs)) v.held v.fault))

-- one more fault, or none
pub count_more : (vs : List Verdict) (v : Verdict) → faults_among (vs ++ v ∷ []) ≡ faults_among vs + fault_count v.fault
count_more [] v = omega arith
count_more (u ∷ vs) v = omega (arith, count_more vs v)

at_most_one : (fault : Option Fault) → fault_count fault ≤ 1
at_most_one None = omega arith
at_most_one (Some fault) = omega arith

-- there are no more faults than runs
pub few_faults : (vs : List Verdict) → faults_among vs ≤ length vs
few_faults [] = omega arith
few_faults (v ∷ vs) = omega (arith, at_most_one v.fault, few_faults vs)

-- the first of two faults, if there is one
or_none : (fault : Option Fault) → option_or fault None ≡ fault
or_none None = refl
or_none (Some fault) = refl

or_either : (a b c : Option Fault) → option_or a (option_or b c) ≡ option_or (option_or a b) c
or_either None b c = refl
or_either (Some fault) b c = refl

-- the first fault of these and one more
first_more : (vs : List Verdict) (v : Verdict) → fault_of_first (vs ++ v ∷ []) ≡ option_or (fault_of_first vs) v.fault
first_more [] v = or_none v.fault
first_more (u ∷ vs) v = ap (option_or u.fault) (first_more vs v) ∙ or_either u.fault (fault_of_first vs) v.fault

-- after the first i verdicts comes one more
module _ (verdicts : List Verdict) (i : ℕ) (d : Verdict) (inside : i < length verdicts) where
  abbrev here : Verdict
  here = get_or verdicts i d

  taken : take (i + 1) verdicts ≡ take i verdicts ++ here ∷ []
  taken = take_more verdicts i d inside

  many : length (take i verdicts) ≡ i
  many = length-take-le i verdicts (omega (arith, inside))

  pub lines_written : (before start text : List ℕ) → start ≡ before ++ fault_lines 1 (take i verdicts) → text ≡ start ++ fault_line (i + 1) here.held here.fault
      → text ≡ before ++ fault_lines 1 (take (i + 1) verdicts)
  lines_written before start text held written =
      let line : fault_lines 1 (take (i + 1) verdicts) ≡ fault_lines 1 (take i verdicts) ++ fault_line (i + 1) here.held here.fault =
      ap (fault_lines 1) taken ∙ lines_more 1 (take i verdicts) here
      ∙ ap (λ seed. fault_lines 1 (take i verdicts) ++ fault_line seed here.held here.fault) (omega (arith, many)) in
      written
      ∙ ap (λ s. s ++ fault_line (i + 1) here.held here.fault) held
      ∙ append_assoc before (fault_lines 1 (take i verdicts)) (fault_line (i + 1) here.held here.fault)
      ∙ ap (λ l. before ++ l) (sym line)

  pub faults_counted : (faults count : ℕ) → faults ≡ faults_among (take i verdicts) → count ≡ fault_count here.fault → faults + count ≡ faults_among (take (i + 1) verdicts)
  faults_counted faults count so_far one = omega (arith, so_far, one, ap faults_among taken ∙ count_more (take i verdicts) here)

  pub faults_fit : (faults count : ℕ) → faults ≡ faults_among (take i verdicts) → count ≡ fault_count here.fault → faults + count ≤ length verdicts
  faults_fit faults count so_far one = omega (arith, so_far, one, inside, many, few_faults (take i verdicts), at_most_one here.fault)

  pub first_taken : (first next : Option Fault) → first ≡ fault_of_first (take i verdicts) → next ≡ option_or first here.fault → next ≡ fault_of_first (take (i + 1) verdicts)
  first_taken first next so_far is =
      is ∙ ap (λ fault. option_or fault here.fault) so_far ∙ sym (first_more (take i verdicts) here) ∙ sym (ap fault_of_first taken)
