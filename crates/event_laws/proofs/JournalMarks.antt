-- The marks of an element over its entries, and the note of one of them.
use Rattle.std.proofs.Common.{◌≡◌, ℕ, List, [], ◌∷◌, ◌++◌, append_assoc, append-nil, sym, ◌∙◌}
use Rattle.chares.specs.declared.note.Mark.{Mark}
use Rattle.chares.specs.Elements.{ElementView, note_of, ran, lived}
use Rattle.chares.specs.Letters.{Done}
use Rattle.chares.specs.Progressing.{resumed_mark, synced_mark}
use Rattle.chares.specs.Steps.{Step}

module _ {C : Type 0} (step : Step C) (pack : C → List ℕ) where
  -- the marks that these entries leave
  abbrev pub marks_over : ElementView C → ℕ → List (Done × ℕ) → List Mark
  marks_over el n [] = []
  marks_over el n (x ∷ xs) = (resumed_mark x.1 x.0 ++ synced_mark (note_of step pack el n x.1 x.0)) ++ marks_over (ran step pack el n x.1 x.0) n xs

  pub lived_marks : (el : ElementView C) (n : ℕ) (xs : List (Done × ℕ)) → (lived step pack el n xs).marks ≡ el.marks ++ marks_over el n xs
  lived_marks el n [] = sym (append-nil el.marks)
  lived_marks el n (x ∷ xs) =
      lived_marks (ran step pack el n x.1 x.0) n xs
      ∙ append_assoc el.marks (resumed_mark x.1 x.0 ++ synced_mark (note_of step pack el n x.1 x.0)) (marks_over (ran step pack el n x.1 x.0) n xs)
