-- Deliver at one of the queues, and an element that goes on.
use Rattle.std.proofs.Common.{◌≡◌, ℕ, List, [], ◌++◌, Option, Some, None, Bool, true, false, not, ◌==◌, refl, ap, ◌∙◌}
use Rattle.std.specs.Prelude.{slice_get, slice_set}
use Rattle.std.specs.Option.{option_and_then}
use Rattle.sync_board.specs.Boards.{BoardState}
use Rattle.chares.specs.Steps.{Step}
use Rattle.chares.specs.declared.trace_entry.TraceEntry.{TraceEntry}
use Rattle.pe_state.specs.Pes.{PeView, Parcel, resumed, resume_entries}
use Rattle.rts_core.specs.Events.{delivered, deliver_event, due, resume_event}
use Rattle.rts_core.specs.Parts.{or_same}

pub delivered_at : {C : Type 0} (pe pe' : PeView C) (queues : List (List Parcel)) (p : ℕ) (queue queue' : List Parcel)
    → slice_get queues p ≡ Some queue → slice_set queues p queue ≡ queues → (pe', queue') ≡ or_same (pe, queue) (delivered pe queue)
    → (pe', slice_set queues p queue') ≡ or_same (pe, queues) (deliver_event pe queues p)
delivered_at {C} pe pe' queues p queue queue' at same e = rw at (by (delivered pe queue) e)
  where
    by : (o : Option (PeView C × List Parcel)) → (pe', queue') ≡ or_same (pe, queue) o
        → ◌≡◌ {A = PeView C × List (List Parcel)} (pe', slice_set queues p queue') (or_same (pe, queues) (option_and_then (λ after. Some (after.0, slice_set queues p after.1)) o))
    by None e = ap (λ (x : PeView C × List Parcel). (x.0, slice_set queues p x.1)) e ∙ ap (λ (qs : List (List Parcel)). (pe, qs)) same
    by (Some after) e = ap (λ (x : PeView C × List Parcel). (x.0, slice_set queues p x.1)) e

-- an element that goes on where it is
pub resume_event_is : {C A : Type 0} (step : Step C) (pack : C → List ℕ) (p : ℕ) (pe after : PeView C) (b : BoardState A) (e round place : ℕ) (old reports : List TraceEntry)
    → Some (round, place) ≡ due pe b e → false ≡ not (place == p) → after ≡ resumed step pack pe e round → reports ≡ old ++ resume_entries step pack pe e round → old ≡ []
    → (after, reports) ≡ or_same (pe, []) (resume_event step pack p pe b e)
resume_event_is {C} {A} step pack p pe after b e round place old reports at here ok told none = let same : true ≡ (place == p) = double (place == p) here in cc
  where
    double : (x : Bool) → false ≡ not x → true ≡ x
    double true h = refl
    double false h = cc
