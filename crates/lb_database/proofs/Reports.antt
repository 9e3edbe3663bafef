-- Lists of reports: whether one is missing, and those that are there.
use Rattle.std.proofs.Common.{◌≡◌, ℕ, suc, zero, ◌+◌, ◌-◌, ◌*◌, ◌<◌, ◌≤◌, List, [], ◌∷◌, length, get_or, map, replicate, refl, ap, sym, ◌∙◌, subst, arith, cond, false, Option, None, Some}
use Rattle.std.specs.Prelude.{All, IsSome, IfSome, is_none, is_some, count_by, slice_set}
use Rattle.std.proofs.lemmas.List.Sums.{sum_by-cons, sum_by-set}
use Rattle.std.proofs.lemmas.List.Elements.{All-replicate, All-set}
use Rattle.std.proofs.lemmas.List.Folds.{sum_by-replicate}
use Rattle.std.proofs.lemmas.List.{get_or-map, length-map, length-replicate, length-set, set-get_or}
use Rattle.chare_index.specs.declared.limits.TheConstants.Limits.{ELEMENTS, LOAD, PES, ROUND, STATE_BYTES}
use Rattle.lb_snapshot.specs.Measured.{IsSizes, IsTaken}
use Rattle.lb_database.specs.Measuring.{Measured, IsMeasured, AreReports, StandBelow, opening, with_report}

-- the number of missing reports, report by report
count_there : {X : Type 0} (x : X) (reports : List (Option X)) → count_by is_none (Some x ∷ reports) ≡ 0 + count_by is_none reports
count_there x reports = sum_by-cons (λ r. cond (is_none r) 1 0) (Some x) reports

count_missing : {X : Type 0} (reports : List (Option X)) → count_by is_none (None ∷ reports) ≡ 1 + count_by is_none reports
count_missing reports = sum_by-cons (λ r. cond (is_none r) 1 0) None reports

-- no report is missing where all are there
pub none_missing : {X : Type 0} (reports : List (Option X)) → All IsSome reports → count_by is_none reports ≡ 0
none_missing [] all = refl
none_missing (None ∷ reports) all =
    let there : IsSome (get_or (None ∷ reports) 0 None) = all 0 None (omega arith) in
    cc
none_missing (Some x ∷ reports) all =
    omega (arith, count_there x reports, none_missing reports (λ k d inside. all (suc k) d (omega arith)))

-- all are there where none is missing
pub all_there : {X : Type 0} (reports : List (Option X)) → count_by is_none reports ≡ 0 → All IsSome reports
all_there [] none k d inside = absurd (omega arith)
all_there (None ∷ reports) none k d inside = absurd (omega (arith, none, count_missing reports))
all_there (Some x ∷ reports) none zero d inside = refl
all_there (Some x ∷ reports) none (suc k) d inside =
    all_there reports (omega (arith, none, count_there x reports)) k d (omega arith)

-- all are missing as a round begins
pub all_missing : (n : ℕ) → n ≡ count_by (is_none {T = ℕ × ℕ}) (replicate n None)
all_missing n =
    let counted : count_by (is_none {T = ℕ × ℕ}) (replicate n None) ≡ n * 1 = sum_by-replicate (λ r. cond (is_none r) 1 0) n None in
    omega arith

-- a round as it begins keeps the limits
pub opening_measured : (round n : ℕ) → 0 < round → round ≤ ROUND → n ≤ ELEMENTS → IsMeasured (opening round n)
opening_measured round n started numbered few = record {
  started = started;
  numbered = numbered;
  charged_within = record {
    few = omega (arith, few, length-replicate {A = ℕ} n 0);
    small = All-replicate (λ units. units ≤ LOAD) n 0 (omega arith);
  };
  reported_within = record {
    few = omega (arith, few, length-replicate {A = Option (ℕ × ℕ)} n None);
    small = All-replicate (λ report. IfSome report (λ size. size.0 ≤ STATE_BYTES)) n None tt;
  };
  paired = length-replicate {A = ℕ} n 0 ∙ sym (length-replicate {A = Option (ℕ × ℕ)} n None);
}

-- a report that is put where the same one was changes nothing
pub same_reports : {X : Type 0} (reports : List (Option X)) (i : ℕ) (report : Option X) → report ≡ get_or reports i report → slice_set reports i report ≡ reports
same_reports reports i report stood = ap (λ r. slice_set reports i r) stood ∙ set-get_or reports i report

-- with the report of an element that had none, one less is missing
count_less : {X : Type 0} (reports : List (Option X)) (i : ℕ) (x : X) (report : Option X) → i < length reports
    → report ≡ get_or reports i report → false ≡ is_some report → count_by is_none (slice_set reports i (Some x)) + 1 ≡ count_by is_none reports
count_less reports i x None inside stood none =
    let counted = sum_by-set (λ r. cond (is_none r) 1 0) reports i (Some x) None inside in
    let more = rw (sym stood) at counted in
    omega (arith, more)
count_less reports i x (Some y) inside stood none = cc

-- where a report was missing, the number of missing ones is not 0
pub some_missing : {X : Type 0} (reports : List (Option X)) (i : ℕ) (x : X) (report : Option X) (missing : ℕ) → i < length reports
    → report ≡ get_or reports i report → false ≡ is_some report → missing ≡ count_by is_none reports → 1 ≤ missing
some_missing reports i x report missing inside stood none counted = omega (arith, counted, count_less reports i x report inside stood none)

-- with its report this number is one less
pub missing_less : {X : Type 0} (reports : List (Option X)) (i : ℕ) (x : X) (report : Option X) (missing : ℕ) → i < length reports
    → report ≡ get_or reports i report → false ≡ is_some report → missing ≡ count_by is_none reports
    → missing - 1 ≡ count_by is_none (slice_set reports i (Some x))
missing_less reports i x report missing inside stood none counted = omega (arith, counted, count_less reports i x report inside stood none)

-- with one more report within the limit, what is measured keeps the limits
pub measured_more : (m : Measured) (i bytes place : ℕ) → bytes ≤ STATE_BYTES → IsMeasured m → IsMeasured (with_report m i bytes place)
measured_more m i bytes place fits measured = record {
  started = measured.started;
  numbered = measured.numbered;
  charged_within = measured.charged_within;
  reported_within = record {
    few = omega (arith, measured.reported_within.few, length-set m.reports i (Some (bytes, place)));
    small = All-set (λ report. IfSome report (λ size. size.0 ≤ STATE_BYTES)) m.reports i (Some (bytes, place)) fits measured.reported_within.small;
  };
  paired = omega (arith, measured.paired, length-set m.reports i (Some (bytes, place)));
}

-- what holds of each report holds of each size that was reported
pub each_there : {X : Type 0} (P : X → Type 0) (sizes : List X) (reports : List (Option X)) → map Some sizes ≡ reports → All (λ report. IfSome report P) reports → All P sizes
each_there P sizes reports same all k d inside =
    let there : IfSome (get_or (map Some sizes) k (Some d)) P = subst (λ list. IfSome (get_or list k (Some d)) P) (sym same)
    (all k (Some d) (omega (arith, ap length same, length-map sizes Some))) in
    subst (λ o. IfSome o P) (get_or-map Some sizes k d (Some d) inside) there

-- sizes that were all reported are within the limits of a snapshot's
pub sizes_there : (sizes : List (ℕ × ℕ)) (reports : List (Option (ℕ × ℕ))) → map Some sizes ≡ reports → AreReports reports → IsSizes sizes
sizes_there sizes reports same within = record {
  few = omega (arith, within.few, ap length same, length-map sizes Some);
  small = each_there (λ size. size.0 ≤ STATE_BYTES) sizes reports same within.small;
}

-- loads and sizes of elements that have all reported, and are on PEs below pes, make a snapshot
pub placed_there : (m : Measured) (pes : ℕ) (loads : List ℕ) (sizes : List (ℕ × ℕ)) → loads ≡ m.loads → map Some sizes ≡ m.reports
    → length m.loads ≡ length m.reports → 0 < pes → pes ≤ PES → StandBelow pes m → IsTaken pes loads sizes
placed_there m pes loads sizes kept same paired some few below = record {
  some_pe = some;
  few_pes = few;
  paired = omega (arith, paired, ap length kept, ap length same, length-map sizes Some);
  placed = each_there (λ size. size.1 < pes) sizes m.reports same below;
}
