-- What follows where a call was refused.
use Rattle.std.proofs.Common.{◌≡◌, ℕ, suc, zero, ◌<◌, ◌≤◌, List, length, get_or, refl, sym, ap, ◌∙◌, subst, arith, Bool, true, false, not, eqb, Option, None, Result, Ok, Err}
use Rattle.std.specs.Prelude.{IsNone, is_some, MatchResult, IsErrAnd, OnErr}
use Rattle.std.proofs.lemmas.Bool.{eqb-true, eqb-false, not-true, not-false}
use Rattle.std.proofs.lemmas.List.{get_or_read}
use Rattle.chare_index.specs.declared.limits.TheConstants.Limits.{STATE_BYTES}
use Rattle.lb_database.specs.Measuring.{Measured, IsMeasured, elements, report_of}
use Rattle.lb_database.specs.Refusals.{RefusesReport, IsReport}
use Rattle.lb_database.specs.declared.error.DbError.TheVariants.{WrongRound, Twice, TooLarge}

-- what holds of the error that `?` passes on holds of the result
pub passed_on : {T E : Type 0} (r : Result T E) (P : T → Type 0) (Q : E → Type 0) (e : E) → IsErrAnd r (λ f. f ≡ e) → Q e → MatchResult r P Q
passed_on (Ok x) P Q e is holds = absurd is
passed_on (Err f) P Q e is holds = subst Q (sym is) holds

-- what is known holds whatever the result is
pub known : {T E : Type 0} (r : Result T E) (P : Type 0) → P → OnErr r P
known (Ok x) P holds = tt
known (Err e) P holds = holds

-- where a call is refused that cannot be refused at 0, the number is not 0
pub some_where_refused : (n : ℕ) → (n ≡ 0 → false ≡ true) → 0 < n
some_where_refused zero succeeds = cc (succeeds refl)
some_where_refused (suc n) succeeds = omega arith

-- where an index is below the number of elements, there is an element
pub some_inside : (i n : ℕ) → i < n → 0 < n
some_inside i n inside = omega arith

-- whether the report of an element is there
pub report_stood : {X : Type 0} (reports : List (Option X)) (i : ℕ) (report : Option X) (there : Bool) → i < length reports
    → report ≡ get_or reports i report → there ≡ is_some report → is_some (get_or reports i None) ≡ there
report_stood reports i report there inside stood tested =
    sym (tested ∙ ap is_some (get_or_read reports i report inside stood None))

-- a report for another round
pub wrong_round_refused : (m now : Measured) (i round bytes : ℕ) → m ≡ now → IsMeasured m → i < length m.reports
    → true ≡ not (eqb round m.round) → RefusesReport now i round bytes WrongRound
wrong_round_refused m now i round bytes same measured inside other =
    subst (λ m. RefusesReport m i round bytes WrongRound) same (omega (arith, measured.paired, inside), eqb-false round m.round (not-true (eqb round m.round) (sym other)))

-- a second report
pub twice_refused : (m now : Measured) (i round bytes : ℕ) (report : Option (ℕ × ℕ)) → m ≡ now → IsMeasured m → i < length m.reports
    → report ≡ get_or m.reports i report → false ≡ not (eqb round m.round) → true ≡ is_some report → RefusesReport now i round bytes Twice
twice_refused m now i round bytes report same measured inside stood own there =
    subst (λ m. RefusesReport m i round bytes Twice) same (
      omega (arith, measured.paired, inside),
      eqb-true round m.round (not-false (eqb round m.round) (sym own)),
      report_stood m.reports i report true inside stood there,
    )

-- a report that would be taken, except for its size
first_report : (m : Measured) (i round bytes : ℕ) (report : Option (ℕ × ℕ)) → IsMeasured m → i < length m.reports
    → report ≡ get_or m.reports i report → false ≡ not (eqb round m.round) → false ≡ is_some report → (i < elements m) × (round ≡ m.round)
    × IsNone (report_of m i)
first_report m i round bytes report measured inside stood own none =
    (omega (arith, measured.paired, inside), eqb-true round m.round (not-false (eqb round m.round) (sym own)), report_stood m.reports i report false inside stood none)

-- a report of too many bytes
pub too_large_refused : (m now : Measured) (i round bytes : ℕ) (report : Option (ℕ × ℕ)) → m ≡ now → IsMeasured m → i < length m.reports
    → report ≡ get_or m.reports i report → false ≡ not (eqb round m.round) → false ≡ is_some report → STATE_BYTES < bytes
    → RefusesReport now i round bytes TooLarge
too_large_refused m now i round bytes report same measured inside stood own none large =
    let first = first_report m i round bytes report measured inside stood own none in
    subst (λ m. RefusesReport m i round bytes TooLarge) same (first.0, first.1, first.2, large)

-- and one that is taken
pub report_taken : (m now : Measured) (i round bytes : ℕ) (report : Option (ℕ × ℕ)) → m ≡ now → IsMeasured m → i < length m.reports
    → report ≡ get_or m.reports i report → false ≡ not (eqb round m.round) → false ≡ is_some report → bytes ≤ STATE_BYTES → IsReport now i round bytes
report_taken m now i round bytes report same measured inside stood own none fits =
    let first = first_report m i round bytes report measured inside stood own none in
    subst (λ m. IsReport m i round bytes) same (record { known = first.0; for_round = first.1; first = first.2; fits = fits })
