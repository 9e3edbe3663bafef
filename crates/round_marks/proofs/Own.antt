-- The marks of an element that is what its journal says are its own: the notes in them name it, and are of rounds.
use Rattle.std.proofs.Common.{◌≡◌, ℕ, List, [], ◌∷◌, ◌++◌, length, refl, subst}
use Rattle.std.specs.Prelude.{All}
use Rattle.std.proofs.lemmas.List.Elements.{All-nil, All-cons, All-append}
use Rattle.chares.specs.declared.entry.Entry.TheVariants.{Letter, Resumption}
use Rattle.chares.specs.declared.note.Mark.{Mark}
use Rattle.chares.specs.declared.note.Mark.TheVariants.{Synced, Resumed}
use Rattle.chares.specs.declared.note.Note.TheVariants.{Sync, Finish}
use Rattle.chares.specs.declared.progress.Ending.{Ending}
use Rattle.chares.specs.declared.progress.Ending.TheVariants.{Runs, Syncs, Finishes}
use Rattle.chares.specs.declared.progress.Progress.{Progress}
use Rattle.chares.specs.Elements.{ElementView, IsHistory, ending_of, lived, opening_element, outcome_of, ran, worked}
use Rattle.chares.specs.Letters.{Done}
use Rattle.chares.specs.Progressing.{note_at, resumed_mark, synced_mark}
use Rattle.chares.specs.Steps.{Step}

abbrev pub IsOwn : ℕ → Mark → Type 0
IsOwn e (Synced (Sync i round units bytes pe)) = i ≡ e
IsOwn e (Synced (Finish i)) = ⊥
IsOwn e (Resumed round pe) = Unit {0}

synced_own : (e : ℕ) (p : Progress) (bytes pe : ℕ) (way : Ending) → All (IsOwn e) (synced_mark (note_at p e bytes pe way))
synced_own e p bytes pe Runs = All-nil (IsOwn e)
synced_own e p bytes pe Syncs = All-cons (IsOwn e) _ [] refl (All-nil (IsOwn e))
synced_own e p bytes pe Finishes = All-nil (IsOwn e)

resumed_own : (e pe : ℕ) (done : Done) → All (IsOwn e) (resumed_mark pe done)
resumed_own e pe (Letter l) = All-nil (IsOwn e)
resumed_own e pe (Resumption round) = All-cons (IsOwn e) _ [] tt (All-nil (IsOwn e))

module _ {C : Type 0} (step : Step C) (pack : C → List ℕ) where
  -- after one more entry
  ran_own : (el : ElementView C) (n pe : ℕ) (done : Done) → All (IsOwn el.index) el.marks → All (IsOwn el.index) (ran step pack el n pe done).marks
  ran_own el n pe done h =
      All-append (IsOwn el.index) el.marks _ h
      (All-append (IsOwn el.index) (resumed_mark pe done) _ (resumed_own el.index pe done)
      (synced_own el.index (worked step pack el n done) (length (pack (outcome_of step pack el n done).state)) pe (ending_of step pack el n done)))

  lived_own : (el : ElementView C) (n : ℕ) (entries : List (Done × ℕ)) → All (IsOwn el.index) el.marks
      → All (IsOwn (lived step pack el n entries).index) (lived step pack el n entries).marks
  lived_own el n [] h = h
  lived_own el n (x ∷ xs) h = lived_own (ran step pack el n x.1 x.0) n xs (ran_own el n x.1 x.0 h)

  pub marks_own : (opened : List C) (el : ElementView C) → IsHistory step pack opened el → All (IsOwn el.index) el.marks
  marks_own opened el h =
      subst (λ (v : ElementView C). All (IsOwn v.index) v.marks) h.is_lived
      (lived_own (opening_element el.index h.opening) (length opened) h.entries (All-nil (IsOwn el.index)))
