-- How many rounds are decided: as many as the number of the present one says, which has a limit.
use Rattle.std.proofs.Common.{◌≡◌, ℕ, ◌+◌, ◌<◌, ◌≤◌, ◌⊎◌, inl, inr, List, [], ◌∷◌, length, Some, Result, arith, sym, subst}
use Rattle.std.proofs.lemmas.List.{length_push}
use Rattle.std.proofs.lemmas.Option.{same_Some}
use Rattle.sync_board.specs.Boards.{BoardState, after_report, after_finish}
use Rattle.chare_index.specs.declared.limits.TheConstants.Limits.{ROUND}
use Rattle.chares.specs.declared.note.Note.{Note}
use Rattle.chares.specs.declared.note.Note.TheVariants.{Sync, Finish}
use Rattle.chares.specs.declared.trace_entry.TraceEntry.{TraceEntry}
use Rattle.chares.specs.Steps.{Step}
use Rattle.pup_pack.specs.declared.error.PupError.{PupError}
use Rattle.rts_core.specs.declared.event.Event.{Event}
use Rattle.rts_core.specs.Events.{After, LocalView, Happens, board_after, local_view}
use Rattle.rts_core.specs.Worlds.{WorldView}
use Rattle.rts_core.proofs.EventSteps.{where_some}
use Rattle.rts_core.proofs.Turns.{each_map, happens_so}
use Rattle.event_laws.proofs.BoardTraces.{Keeps}
use Rattle.event_laws.proofs.Stands.{Turned, Takes, each_turned}
use Rattle.overtaking_laws.specs.StampedRuns.{StampedView, StampedStep, AfterStamped, StepsTo, ReachesStamped, seen_by, maker}
use Rattle.overtaking_laws.specs.StampedRuns.StampedStep.{Makes, Sends, Takes as TakesOut, Learns}

-- the present round comes after those that are decided, and is at most the last that there is
pub record AreCounted {A : Type 0} (b : BoardState A) : Type 0 where
  pub numbered : b.database.round ≡ length b.rounds + 1
  pub limited : b.database.round ≤ ROUND

pub counted_few : {A : Type 0} (b : BoardState A) → AreCounted b → length b.rounds < ROUND
counted_few b h =
    let a = h.numbered in
    let c = h.limited in
    omega (arith, a, c)

-- a note that the board takes
note_counted : {A : Type 0} (b b' : BoardState A) (note : Note) → board_after b note ≡ Some b' → AreCounted b → AreCounted b'
note_counted b b' (Sync e round units bytes pe) h k =
    let both = where_some _ (Some (after_report b e units bytes pe)) b' h in
    subst AreCounted (same_Some (after_report b e units bytes pe) b' both.1) (record { numbered = k.numbered; limited = k.limited })
note_counted b b' (Finish e) h k =
    let both = where_some _ (Some (after_finish b e)) b' h in
    subst AreCounted (same_Some (after_finish b e) b' both.1) (record { numbered = k.numbered; limited = k.limited })

module _ {C A : Type 0} (step : Step C) (pack : C → List ℕ) (unpack : List ℕ → Result (C × ℕ) PupError) where
  event_counted : (w : WorldView C A) (event : Event) (next : After C A) → Happens step pack unpack w event next → AreCounted w.board → AreCounted next.0.board
  event_counted w event next happens h =
      happens_so step pack unpack w (λ (v : After C A). AreCounted v.0.board)
      (record {
        same = h;
        turn = λ p pe at. each_map step pack p (local_view w pe) (Turned p (local_view w pe)) (λ a. AreCounted a.0.board)
            (λ a turned. taken a turned.board) (each_turned step pack p (local_view w pe));
        decides = λ board d.
            let before = h.numbered in
            let more = length_push w.board.rounds d.kept in
            let limit = d.not_last in
            subst AreCounted (sym d.next) (record { numbered = omega (arith, before, more); limited = omega (arith, limit) });
      })
      event next happens
    where
      taken : (a : LocalView C A × List TraceEntry) → Keeps w.board a.0.board a.1 ⊎ Takes w.board a.0.board a.1 → AreCounted a.0.board
      taken a (inl k) = subst AreCounted (sym k.same) h
      taken a (inr k) = note_counted w.board a.0.board k.note k.taken h

  module _ (n pes : ℕ) where
    step_counted : (s : StampedView C A) (made : StampedStep) (next : AfterStamped C A) → StepsTo step pack unpack n pes s made next → AreCounted s.board → AreCounted next.0.board
    step_counted s (Makes event) next (keeps, informed, w, happens, is) h =
        subst (λ (v : AfterStamped C A). AreCounted v.0.board) (sym is) (event_counted (seen_by n pes s (maker event)) event w happens h)
    step_counted s (Sends p) next (sends, quiet) h = subst (λ (v : StampedView C A). AreCounted v.board) (sym sends.leads) h
    step_counted s (TakesOut p) next (takes, quiet) h = subst (λ (v : StampedView C A). AreCounted v.board) (sym takes.leads) h
    step_counted s (Learns p) next (learns, quiet) h = subst (λ (v : StampedView C A). AreCounted v.board) (sym learns.leads) h

    pub run_counted : (s : StampedView C A) (steps : List StampedStep) (last : AfterStamped C A) → ReachesStamped step pack unpack n pes s steps last
        → AreCounted s.board → AreCounted last.0.board
    run_counted s [] last run h = subst (λ (v : AfterStamped C A). AreCounted v.0.board) (sym run) h
    run_counted s (made ∷ steps) last (first, rest, to, leads, is) h =
        subst (λ (v : AfterStamped C A). AreCounted v.0.board) (sym is) (run_counted first.0 steps rest leads (step_counted s made first to h))
