-- The marks of an element, one after the other: each is right, for the next round or after a later round than those before.
use Rattle.std.proofs.Common.{◌≡◌, ◌↔◌, ℕ, ◌+◌, ◌<◌, ◌≤◌, List, [], ◌∷◌, length, Some, get_or, drop, sym, subst, ap, ◌∙◌}
use Rattle.std.specs.List.{All}
use Rattle.std.specs.List.Sorted.{IsStrictlyIncreasing}
use Rattle.std.proofs.lemmas.List.{drop_all, drop_more}
use Rattle.std.proofs.lemmas.List.Elements.{All-nil, All-cons, All-head, All-tail}
use Rattle.sync_board.specs.Boards.{BoardState}
use Rattle.chares.specs.declared.note.Mark.{Mark}
use Rattle.chares.specs.declared.note.Mark.TheVariants.{Synced, Resumed}
use Rattle.round_marks.specs.Marked.{AreSynced, IsResumption, IsResumptionMark, IsSyncOf, round_reached, rounds_resumed}
use Rattle.round_marks.proofs.Reached.{GoesOn, synced_from, goes_on_from_synced}
use Rattle.round_marks.proofs.Rising.{Resumes, rise_from_0, rise_on, resumes_on}

module _ {A : Type 0} (b : BoardState A) (e home : ℕ) where
  -- the marks go on so after the element has reached AtSync for this many rounds, where a resumption may be after `least`
  abbrev pub GoesRight : ℕ → ℕ → List Mark → Type 0
  GoesRight reached least [] = length b.rounds ≤ reached
  GoesRight reached least (Synced note ∷ marks) =
      (IsSyncOf b e note × (round_reached (Synced note) ≡ Some (reached + 1))) × GoesRight (reached + 1) least marks
  GoesRight reached least (Resumed round pe ∷ marks) =
      ((least ≤ round) × IsResumption b e home round pe) × GoesRight reached (round + 1) marks

  -- right marks in three parts: how they go on, when they resume, and of which rounds they are
  abbrev Parts : ℕ → ℕ → List Mark → Type 0
  Parts reached least marks = GoesOn b e reached marks × Resumes least marks × All (IsResumptionMark b e home) marks

  parts_of : (reached least : ℕ) (marks : List Mark) → GoesRight reached least marks → Parts reached least marks
  parts_of reached least [] h = (h, tt, All-nil (IsResumptionMark b e home))
  parts_of reached least (Synced note ∷ marks) h =
      let rest = parts_of (reached + 1) least marks h.1 in
      ((h.0.0, h.0.1, rest.0), rest.1, All-cons (IsResumptionMark b e home) _ _ tt rest.2)
  parts_of reached least (Resumed round pe ∷ marks) h =
      let rest = parts_of reached (round + 1) marks h.1 in
      (rest.0, (h.0.0, rest.1), All-cons (IsResumptionMark b e home) _ _ h.0.1 rest.2)

  of_parts : (reached least : ℕ) (marks : List Mark) → Parts reached least marks → GoesRight reached least marks
  of_parts reached least [] h = h.0
  of_parts reached least (Synced note ∷ marks) h =
      ((h.0.0, h.0.1), of_parts (reached + 1) least marks (h.0.2, h.1, All-tail (IsResumptionMark b e home) _ _ h.2))
  of_parts reached least (Resumed round pe ∷ marks) h =
      ((h.1.0, All-head (IsResumptionMark b e home) _ _ h.2), of_parts reached (round + 1) marks (h.0, h.1.1, All-tail (IsResumptionMark b e home) _ _ h.2))

  -- what that says of all marks
  abbrev pub AreRight : List Mark → Type 0
  AreRight marks = AreSynced b e marks × All (IsResumptionMark b e home) marks × IsStrictlyIncreasing (rounds_resumed marks)

  pub are_right : (marks : List Mark) → GoesRight 0 0 marks ↔ AreRight marks
  are_right marks =
      let rise = rise_from_0 (rounds_resumed marks) in (
        λ h.
            let parts = parts_of 0 0 marks h in
            (synced_from b e marks parts.0, parts.2, rise.0 (rise_on 0 marks parts.1)),
        λ h. of_parts 0 0 marks (goes_on_from_synced b e marks h.0, resumes_on 0 marks (rise.1 h.2), h.1),
      )

  -- at the end of a walk over the marks, what it has counted decides
  pub walked : (reached least i : ℕ) (marks : List Mark) → length marks ≤ i → (GoesRight reached least (drop i marks) ↔ GoesRight 0 0 marks)
      → (length b.rounds ≤ reached) ↔ AreRight marks
  walked reached least i marks done same =
      let end : drop i marks ≡ [] = drop_all i marks done in
      let P : List Mark → Type 0 = GoesRight reached least in (
        λ enough. (are_right marks).0 (same.0 (subst P (sym end) enough)),
        λ h. subst P end (same.1 ((are_right marks).1 h)),
      )

  -- a mark on the way, and those after it
  pub walked_by : (reached least i : ℕ) (marks : List Mark) (mark next : Mark) → i < length marks → mark ≡ get_or marks i mark → mark ≡ next
      → (GoesRight reached least (drop i marks) ↔ GoesRight 0 0 marks) → GoesRight reached least (next ∷ drop (i + 1) marks) ↔ GoesRight 0 0 marks
  walked_by reached least i marks mark next within read is same =
      let rest : drop i marks ≡ next ∷ drop (i + 1) marks = drop_more marks i mark within ∙ ap (λ x. x ∷ drop (i + 1) marks) (sym read ∙ is) in
      let P : List Mark → Type 0 = GoesRight reached least in (
        λ h. same.0 (subst P (sym rest) h),
        λ h. subst P rest (same.1 h),
      )
