-- A run goes on from itself, and from what went on from an earlier one.
use Rattle.std.proofs.Common.{◌≡◌, ◌∙◌, ℕ, zero, suc, ◌≤◌, List, [], ◌∷◌, length, arith, refl}
use Rattle.std.specs.Prelude.{Some}
use Rattle.std.specs.Prelude.{take, IfOk, Result, Ok, Err}
use Rattle.std.proofs.Math.Seq.{take-length}
use Rattle.barrier.specs.Rounds.{BeginWith}
use Rattle.pe_state.specs.Pes.{PeView, Parcel}
use Rattle.run_account.specs.Gathering.{CountOn, count_before}
use Rattle.run_account.specs.Reopenings.{all_reopened}
use Rattle.run_account.proofs.Reopened.{count_at}
use Rattle.rts_run.specs.Outcomes.{OutcomeView}
use Rattle.pe_worker.specs.declared.fault.Fault.TheVariants.{Stopped}
use Rattle.carried_runs.specs.GoingOn.{AreParts, GoesOnFrom}
use Rattle.carried_runs.specs.GoingOn.AreParts.{Whole, Pause}

-- rounds that begin with earlier ones, which begin with still earlier ones
first_of_all : {X : Type 0} (xs ys zs : List X) → BeginWith xs ys → BeginWith ys zs → BeginWith xs zs
first_of_all [] ys zs h k = refl
first_of_all (x ∷ xs) [] zs h k = cc h
first_of_all (x ∷ xs) (y ∷ ys) [] h k = cc k
first_of_all (x ∷ xs) (y ∷ ys) (z ∷ zs) h k =
    let h0 : BeginWith xs ys = cc h in
    let k0 : BeginWith ys zs = cc k in
    let rest : BeginWith xs zs = first_of_all xs ys zs h0 k0 in
    cc (h, k, rest)

pub goes_on_here : {C A : Type 0} (o : OutcomeView C A) → GoesOnFrom o o
goes_on_here o = record { counts = λ q. omega arith; rounds = take-length o.board.rounds }

pub goes_on_after : {C A : Type 0} (o between later : OutcomeView C A) → GoesOnFrom o between → GoesOnFrom between later → GoesOnFrom o later
goes_on_after o between later h k =
    record {
      counts = λ q. omega (arith, h.counts q, k.counts q);
      rounds = first_of_all o.board.rounds between.board.rounds later.board.rounds h.rounds k.rounds;
    }

-- the parts of a run: it has begun, and one more follows
pub whole_yet : {C A : Type 0} (o : OutcomeView C A) → AreParts o o
whole_yet o = Whole

pub one_more_part : {C A : Type 0} (o between later : OutcomeView C A) → AreParts o between → between.fault ≡ Some Stopped → GoesOnFrom between later → AreParts o later
one_more_part o between later h stopped k = Pause between later h stopped k

-- what PEs have posted that open again
pub counts_again : {C : Type 0} (pes : ℕ) (ends : List (PeView C)) (left : List (List Parcel)) (starts later : List (PeView C)) → starts ≡ all_reopened pes ends left
    → length ends ≡ length left → CountOn starts later → CountOn ends later
counts_again pes ends left starts later is same h = λ q. omega (arith, rw is at (h q), count_at pes (λ n. n) q ends left same)

-- what follows from two facts of the value, if there is one
pub both_ok : {X Y : Type 0} (r : Result X Y) (P Q R : X → Type 0) → ((x : X) → P x → Q x → R x) → IfOk r P → IfOk r Q → IfOk r R
both_ok (Ok x) P Q R f p q = f x p q
both_ok (Err y) P Q R f p q = tt
