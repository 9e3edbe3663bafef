-- An element reaches AtSync for a round with one entry at most, so its work for a round is determined.
use Rattle.std.proofs.Common.{◌≡◌, ℕ, ◌+◌, ◌-◌, ◌<◌, min, List, [], ◌∷◌, ◌++◌, length, map, drop, Some, inl, inr, length-drop, arith, sym, ◌∙◌, ap, subst}
use Rattle.std.specs.Prelude.{slice_get}
use Rattle.std.proofs.lemmas.Bool.{cases_lt}
use Rattle.std.proofs.lemmas.Option.{same_Some, slice_get_within}
use Rattle.chare_index.specs.declared.limits.TheConstants.Limits.{LOAD}
use Rattle.chares.specs.declared.entry.Entry.TheVariants.{Letter, Resumption}
use Rattle.chares.specs.declared.note.Mark.{Mark}
use Rattle.chares.specs.declared.progress.Ending.{Ending}
use Rattle.chares.specs.declared.progress.Ending.TheVariants.{Runs, Syncs, Finishes}
use Rattle.chares.specs.declared.progress.Progress.{Progress}
use Rattle.chares.specs.Elements.{ElementView, opening_element, outcome_of, worked, ending_of, note_of, ran, IsHistory}
use Rattle.chares.specs.Letters.{Done}
use Rattle.chares.specs.Progressing.{entered, ended, note_at, resumed_mark, synced_mark}
use Rattle.chares.specs.Steps.{Step}
use Rattle.chares.specs.Orders.{stop_of, IsInOrder}
use Rattle.event_laws.specs.Rounds.{stage, Begins, IsPhase}
use Rattle.event_laws.proofs.JournalMarks.{marks_over}
use Rattle.event_laws.proofs.JournalStages.{Reached, units, syncs_here}
use Rattle.event_laws.proofs.StopOrder.{Follow}
use Rattle.event_laws.proofs.JournalWalks.{due, due_runs, due_begun, Works, Walks, handles, walks_on, all_walks}
use borrow.Author.Count.{below_more}

module _ {C : Type 0} (step : Step C) (pack : C → List ℕ) (n e : ℕ) (chare : C) (journal : List Done) where
  abbrev Ends : ℕ → ℕ → Type 0
  Ends k round = Reached step pack n e chare journal k round

  -- the rounds for which an element with this progress reached AtSync in its first k entries: each is below the one
  -- that it works for, and none comes twice
  pub record Past (p : Progress) (k : ℕ) : Type 0 where
    pub passed : (j : ℕ) → j < k → (r : ℕ) → Ends j r → r < due p
    pub once : (j : ℕ) → j < k → (i r : ℕ) → i < j → Ends i r → Ends j r → ⊥

  past_entered : (p : Progress) (k pe : ℕ) (done : Done) (xs : List Mark) → Works step pack n e chare journal p k
      → Follow p (map stop_of (resumed_mark pe done ++ xs)) → Past p k → Past (entered p done) k
  past_entered p k pe (Letter l) xs w turn past = past
  past_entered p k pe (Resumption round) xs w turn past =
      let d : due p ≡ round + 1 = due_begun step pack n e chare journal p k round w turn.0 in
      record { passed = λ j lt r h. subst (λ (m : ℕ). r < m) d (past.passed j lt r h); once = past.once }

  past_ended : (k index bytes pe : ℕ) (p : Progress) (en : Ending) (more : List Mark)
      → ((r : ℕ) → Ends k r → (en ≡ Syncs) × (r ≡ p.round + 1))
      → Follow p (map stop_of (synced_mark (note_at p index bytes pe en) ++ more))
      → Past p k → Past (ended p en) (k + 1)
  past_ended k index bytes pe p Runs more here turn past =
      record {
        passed = below_more (λ (j : ℕ). (r : ℕ) → Ends j r → r < due p) k past.passed (λ r h. let bad = (here r h).0 in absurd (cc));
        once = below_more (λ (j : ℕ). (i r : ℕ) → i < j → Ends i r → Ends j r → ⊥) k past.once (λ i r lt a b. let bad = (here r b).0 in absurd (cc));
      }
  past_ended k index bytes pe p Finishes more here turn past =
      record {
        passed = below_more (λ (j : ℕ). (r : ℕ) → Ends j r → r < due p) k past.passed (λ r h. let bad = (here r h).0 in absurd (cc));
        once = below_more (λ (j : ℕ). (i r : ℕ) → i < j → Ends i r → Ends j r → ⊥) k past.once (λ i r lt a b. let bad = (here r b).0 in absurd (cc));
      }
  past_ended k index bytes pe p Syncs more here turn past =
      let d : due p ≡ p.round + 1 = due_runs p turn.1 in
      record {
        passed =
            below_more (λ (j : ℕ). (r : ℕ) → Ends j r → r < p.round + 2) k
            (λ j lt r h. let a = past.passed j lt r h in omega (arith, a, d))
            (λ r h. let a = (here r h).1 in omega (arith, a));
        once =
            below_more (λ (j : ℕ). (i r : ℕ) → i < j → Ends i r → Ends j r → ⊥) k past.once
            (λ i r lt a b. let x = past.passed i lt r a in let y = (here r b).1 in absurd (omega (arith, x, y, d)));
      }

  past_on : (el : ElementView C) (x : Done × ℕ) (rest : List (Done × ℕ)) (k : ℕ) → Walks step pack n e chare journal el (x ∷ rest) k
      → Past el.progress k → Past (ran step pack el n x.1 x.0).progress (k + 1)
  past_on el x rest k w past =
      let h = handles step pack n e chare journal el x rest k w in
      let sync = synced_mark (note_of step pack el n x.1 x.0) in
      let more = marks_over step pack (ran step pack el n x.1 x.0) n rest in
      let a : Past (entered el.progress x.0) k = past_entered el.progress k x.1 x.0 (sync ++ more) w.works h.resumed past in
      let b : Past (worked step pack el n x.0) k = record { passed = a.passed; once = a.once } in
      past_ended k el.index (length (pack (outcome_of step pack el n x.0).state)) x.1 (worked step pack el n x.0) (ending_of step pack el n x.0) more
      (λ r ends. syncs_here step pack n e chare journal k r x.0 el w.others h.is_entry w.at ends) h.turn b

  -- no two entries of a journal that was handled in order are those of one round
  all_once : (rest : List (Done × ℕ)) (el : ElementView C) (k : ℕ) → Walks step pack n e chare journal el rest k → Past el.progress k
      → (j : ℕ) → j < length journal → (i r : ℕ) → i < j → Ends i r → Ends j r → ⊥
  all_once [] el k w past =
      let a : length (drop k journal) ≡ 0 = ap length w.left in
      let b = length-drop k journal in
      λ j lt. past.once j (omega (arith, a, b))
  all_once (x ∷ rest) el k w past = all_once rest (ran step pack el n x.1 x.0) (k + 1) (walks_on step pack n e chare journal el x rest k w) (past_on el x rest k w past)

  past_opening : Past (opening_element e chare).progress 0
  past_opening = record { passed = λ j lt. absurd (omega arith); once = λ j lt. absurd (omega arith) }

  -- so a round has one last entry, one first entry, one load and one size
  one_end : ((j : ℕ) → j < length journal → (i r : ℕ) → i < j → Ends i r → Ends j r → ⊥) → (i j r : ℕ) → Ends i r → Ends j r → i ≡ j
  one_end once i j r a b =
      let x = slice_get_within journal i a.done a.is_entry in
      let y = slice_get_within journal j b.done b.is_entry in
      elim (cases_lt i j) [
        | inl before ↦ absurd (once j y i r before a b)
        | inr above ↦ elim (cases_lt j i) [
          | inl after ↦ absurd (once i x j r after b a)
          | inr below ↦ omega arith
        ]
      ]

  one_beginning : ((i j r : ℕ) → Ends i r → Ends j r → i ≡ j) → (r a b : ℕ) → Begins step pack n e chare journal r a → Begins step pack n e chare journal r b → a ≡ b
  one_beginning ends r a b (inl x) (inl y) = x.1 ∙ sym y.1
  one_beginning ends r a b (inl x) (inr y) = let f = y.1.for_round in absurd (omega (arith, f, x.0))
  one_beginning ends r a b (inr x) (inl y) = let f = x.1.for_round in absurd (omega (arith, f, y.0))
  one_beginning ends r a b (inr x) (inr y) =
      let same = ends x.0 y.0 (r - 1) x.1 y.1 in
      omega (arith, same, x.2, y.2)

  pub one_phase : ((j : ℕ) → j < length journal → (i r : ℕ) → i < j → Ends i r → Ends j r → ⊥) → (round load bytes load' bytes' : ℕ)
      → IsPhase step pack n e chare journal round load bytes → IsPhase step pack n e chare journal round load' bytes' → (load ≡ load') × (bytes ≡ bytes')
  one_phase once round load bytes load' bytes' x y =
      let ends = one_end once in
      let a : x.last ≡ y.last = ends x.last y.last round x.ends y.ends in
      let b : x.first ≡ y.first = one_beginning ends round x.first y.first x.begins y.begins in
      let c : min (units step pack n e chare journal x.first (x.last + 1)) LOAD ≡ min (units step pack n e chare journal y.first (y.last + 1)) LOAD =
      ap (λ (k : ℕ). min (units step pack n e chare journal k (x.last + 1)) LOAD) b
      ∙ ap (λ (k : ℕ). min (units step pack n e chare journal y.first (k + 1)) LOAD) a in
      let d : length (pack (stage step pack n e chare journal (x.last + 1)).chare) ≡ length (pack (stage step pack n e chare journal (y.last + 1)).chare) =
      ap (λ (k : ℕ). length (pack (stage step pack n e chare journal (k + 1)).chare)) a in
      (x.loaded ∙ c ∙ sym y.loaded, x.sized ∙ d ∙ sym y.sized)

-- what an element that is in order did for a round has one load and one size
pub phase_once : {C : Type 0} (step : Step C) (pack : C → List ℕ) (opened : List C) (el : ElementView C) → IsHistory step pack opened el → IsInOrder el.journal el.progress el.marks
    → (chare : C) → slice_get opened el.index ≡ Some chare → (round load bytes load' bytes' : ℕ)
    → IsPhase step pack (length opened) el.index chare el.journal round load bytes
    → IsPhase step pack (length opened) el.index chare el.journal round load' bytes'
    → (load ≡ load') × (bytes ≡ bytes')
phase_once {C} step pack opened el h order chare opens round load bytes load' bytes' x y =
    let n = length opened in
    let same : chare ≡ h.opening = same_Some chare h.opening (sym opens ∙ h.opens) in
    let past = past_opening step pack n el.index h.opening el.journal in
    let once = all_once step pack n el.index h.opening el.journal h.entries (opening_element el.index h.opening) 0 (all_walks step pack opened el h order) past in
    one_phase step pack n el.index h.opening el.journal once round load bytes load' bytes'
    (subst (λ (v : C). IsPhase step pack n el.index v el.journal round load bytes) same x)
    (subst (λ (v : C). IsPhase step pack n el.index v el.journal round load' bytes') same y)
