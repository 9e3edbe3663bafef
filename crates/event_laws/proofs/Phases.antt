-- What an element did for each round for which it reached AtSync: its marks say it.
use Rattle.std.proofs.Common.{◌≡◌, ℕ, ◌+◌, ◌≤◌, List, [], ◌∷◌, ◌++◌, length, map, Some, append_assoc, refl, sym, ap, subst}
use Rattle.std.specs.Prelude.{slice_get}
use Rattle.std.specs.List.{AllByRecursion, Contains}
use Rattle.std.proofs.lemmas.List.Elements.{All-contains, All-from_recursion}
use Rattle.chares.specs.declared.entry.Entry.TheVariants.{Letter, Resumption}
use Rattle.chares.specs.declared.note.Mark.{Mark}
use Rattle.chares.specs.declared.note.Mark.TheVariants.{Synced, Resumed}
use Rattle.chares.specs.declared.note.Note.TheVariants.{Sync, Finish}
use Rattle.chares.specs.declared.progress.Ending.{Ending}
use Rattle.chares.specs.declared.progress.Ending.TheVariants.{Runs, Syncs, Finishes}
use Rattle.chares.specs.declared.progress.Progress.{Progress}
use Rattle.chares.specs.Elements.{ElementView, opening_element, outcome_of, worked, ending_of, note_of, ran, IsHistory}
use Rattle.chares.specs.Letters.{Done}
use Rattle.chares.specs.Progressing.{note_at, resumed_mark, synced_mark}
use Rattle.chares.specs.Steps.{Step}
use Rattle.chares.specs.Orders.{stop_of, IsInOrder}
use Rattle.event_laws.specs.Rounds.{stage, Begins, IsPhase}
use Rattle.event_laws.proofs.JournalMarks.{marks_over}
use Rattle.event_laws.proofs.JournalStages.{Reached}
use Rattle.event_laws.proofs.StopOrder.{Follow}
use Rattle.event_laws.proofs.JournalWalks.{due_runs, Works, Walks, handles, walks_on, all_marks, all_walks}

module _ {C : Type 0} (step : Step C) (pack : C → List ℕ) (n e : ℕ) (chare : C) (journal : List Done) where
  -- a mark says what the element did
  abbrev pub TellsPhase : Mark → Type 0
  TellsPhase (Synced (Sync index round load bytes pe)) = (index ≡ e) × IsPhase step pack n e chare journal round load bytes
  TellsPhase (Synced (Finish index)) = Unit {0}
  TellsPhase (Resumed round pe) = Unit {0}

  resumed_tells : (pe : ℕ) (done : Done) (xs : List Mark) → AllByRecursion TellsPhase xs → AllByRecursion TellsPhase (resumed_mark pe done ++ xs)
  resumed_tells pe (Letter l) xs told = told
  resumed_tells pe (Resumption round) xs told = (tt, told)

  synced_tells : (k index bytes pe : ℕ) (p : Progress) (en : Ending) (more : List Mark) (w : Works step pack n e chare journal p (k + 1)) → w.first ≤ k
      → (en ≡ Syncs → Reached step pack n e chare journal k (p.round + 1))
      → index ≡ e
      → bytes ≡ length (pack (stage step pack n e chare journal (k + 1)).chare)
      → Follow p (map stop_of (synced_mark (note_at p index bytes pe en) ++ more))
      → AllByRecursion TellsPhase more → AllByRecursion TellsPhase (synced_mark (note_at p index bytes pe en) ++ more)
  synced_tells k index bytes pe p Runs more w within reached same sized turn told = told
  synced_tells k index bytes pe p Finishes more w within reached same sized turn told = told
  synced_tells k index bytes pe p Syncs more w within reached same sized turn told =
      let b : Begins step pack n e chare journal (p.round + 1) w.first = subst (λ (r : ℕ). Begins step pack n e chare journal r w.first) (due_runs p turn.1) w.begins in
      ((same, record { first = w.first; last = k; begins = b; within = within; ends = reached refl; loaded = w.loaded; sized = sized }), told)

  all_tell : (rest : List (Done × ℕ)) (el : ElementView C) (k : ℕ) → Walks step pack n e chare journal el rest k → AllByRecursion TellsPhase (marks_over step pack el n rest)
  all_tell [] el k w = tt
  all_tell (x ∷ rest) el k w =
      let h = handles step pack n e chare journal el x rest k w in
      let sync = synced_mark (note_of step pack el n x.1 x.0) in
      let more = marks_over step pack (ran step pack el n x.1 x.0) n rest in
      let bytes = length (pack (outcome_of step pack el n x.0).state) in
      let sized : bytes ≡ length (pack (stage step pack n e chare journal (k + 1)).chare) = ap (λ (v : ElementView C). length (pack v.chare)) (sym h.at) in
      let a = all_tell rest (ran step pack el n x.1 x.0) (k + 1) (walks_on step pack n e chare journal el x rest k w) in
      let b = synced_tells k el.index bytes x.1 (worked step pack el n x.0) (ending_of step pack el n x.0) more h.works h.within h.reached w.same sized h.turn a in
      subst (AllByRecursion TellsPhase) (sym (append_assoc (resumed_mark x.1 x.0) sync more)) (resumed_tells x.1 x.0 (sync ++ more) b)

-- the marks of an element that is in order say what it did for its rounds
pub phase : {C : Type 0} (step : Step C) (pack : C → List ℕ) (opened : List C) (el : ElementView C) → IsHistory step pack opened el → IsInOrder el.journal el.progress el.marks
    → (e round load bytes pe : ℕ) → Contains el.marks (Synced (Sync e round load bytes pe))
    → (chare : C) × (slice_get opened el.index ≡ Some chare) × (e ≡ el.index) × IsPhase step pack (length opened) el.index chare el.journal round load bytes
phase {C} step pack opened el h order e round load bytes pe has =
    let tells : Mark → Type 0 = TellsPhase step pack (length opened) el.index h.opening el.journal in
    let all = all_tell step pack (length opened) el.index h.opening el.journal h.entries (opening_element el.index h.opening) 0 (all_walks step pack opened el h order) in
    let told = All-contains tells el.marks (Synced (Sync e round load bytes pe))
    (All-from_recursion tells el.marks (subst (AllByRecursion tells) (all_marks step pack opened el h) all)) has in
    (h.opening, h.opens, told.0, told.1)
