use Rattle.std.proofs.Common.{◌≡◌, ℕ, ◌<◌, [], ◌∷◌, Bool, true, Option, None, Some, if◌then◌else◌, refl, sym, ap, subst, ◌∙◌, arith}
use Rattle.std.specs.Prelude.{IsNone, ◌&&◌, ◌==◌, is_none, nat_lt}
use Rattle.std.proofs.lemmas.Bool.Decides.{nat_tests}
use Rattle.sync_board.specs.Boards.{after_finish, after_report}
use Rattle.chares.specs.declared.trace_entry.TraceEntry.TheVariants.{Decided}
use Rattle.lb_database.specs.Measuring.{elements, report_of}
use Rattle.rank_worlds.proofs.boards.rank_board_laws.Goals as goal

-- the tests of a report, and that of a finish
all_so : {X : Type 0} (pe pes e n round r : ℕ) (o : Option X) → pe < pes → e < n → round ≡ r → IsNone o
    → (nat_lt pe pes && (nat_lt e n && ((round == r) && is_none o))) ≡ true
all_so pe pes e n round r None there known same none = grind (arith, nat_tests)
all_so pe pes e n round r (Some x) there known same none = absurd (cc none)

is_known : (e n : ℕ) → e < n → nat_lt e n ≡ true
is_known e n less = grind (arith, nat_tests)

taken_so : {X : Type 0} (test : Bool) (x : X) → test ≡ true → (if test then Some x else None) ≡ Some x
taken_so test x is = subst (λ (b : Bool). (if b then Some x else None) ≡ Some x) (sym is) refl

pub returns-clause-opens : goal.returns-clause-opens
returns-clause-opens c = λ run within is_open board opened. opened.1

pub returns-clause-reported : goal.returns-clause-reported
returns-clause-reported c = λ was is_open b next e round units bytes pe taken after.
    taken_so _ (after_report b e units bytes pe)
    (all_so pe b.pes e (elements b.database) round b.database.round (report_of b.database e) taken.0.1 (taken.1).known (taken.1).for_round (taken.1).first)
    ∙ ap Some (sym after.1)

pub returns-clause-finished : goal.returns-clause-finished
returns-clause-finished c = λ was is_open b next e known after.
    taken_so _ (after_finish b e) (is_known e (elements b.database) known.1) ∙ ap Some (sym after.1)

pub returns-clause-decided : goal.returns-clause-decided
returns-clause-decided c = λ was is_open b next round returned after.
    record { decides = after.1; traced = ap (λ (r : ℕ). Decided r ∷ []) returned.1 }
