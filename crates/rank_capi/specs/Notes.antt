-- A note as numbers.
use Rattle.std.specs.Prelude.{◌≡◌, ℕ}
use Rattle.chares.specs.declared.note.Note.{Note}
use Rattle.chares.specs.declared.note.Note.TheVariants.{Sync, Finish}

-- these numbers are those of a note; unused fields are 0
abbrev pub note_in : ℕ → ℕ → ℕ → ℕ → ℕ → Note → Type 0
note_in kind index round load bytes (Sync e r l b pe) = (kind ≡ 0) × (index ≡ e) × (round ≡ r) × (load ≡ l) × (bytes ≡ b)
note_in kind index round load bytes (Finish e) = (kind ≡ 1) × (index ≡ e) × (round ≡ 0) × (load ≡ 0) × (bytes ≡ 0)
