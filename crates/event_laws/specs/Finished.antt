-- Who has finished: what the board and the notes say of that, and what each element has of itself. That an element says when
-- it has finished, by a note that its PE owes the board, is this project's choice.
use Rattle.std.specs.Prelude.{◌≡◌, ◌↔◌, ℕ, All, Contains, true, ◌⊎◌, Some, IfSome, slice_get}
use Rattle.std.specs.Map.{values_of}
use Rattle.sync_board.specs.Boards.{BoardState, HaveFinished}
use Rattle.chares.specs.declared.carried.Carried.TheVariants.{Letter, Element}
use Rattle.chares.specs.declared.note.Note.TheVariants.{Finish}
use Rattle.chares.specs.declared.progress.Progress.{Progress}
use Rattle.pe_state.specs.Pes.{PeView, Parcel}
use Rattle.rts_core.specs.Worlds.{WorldView}

-- something holds of what a parcel carries: of an element by its index and by how far it has come, and of a letter always
abbrev pub HoldsIn : (ℕ → Progress → Type 0) → Parcel → Type 0
HoldsIn P (Letter l) = Unit {0}
HoldsIn P (Element p) = P p.index p.progress

-- it holds of each element that a PE has: in its room, or packed in its hand or in its outbox
pub record HoldsOn {C : Type 0} (P : ℕ → Progress → Type 0) (pe : PeView C) : Type 0 where
  pub room : All (λ el. P el.index el.progress) (values_of pe.room)
  pub hand : IfSome pe.hand (λ x. HoldsIn P x.parcel)
  pub outbox : All (λ x. HoldsIn P x.parcel) pe.outbox

-- it holds of each element of a world, wherever that is: on a PE, or packed in a queue
pub record HoldsOfEach {C A : Type 0} (P : ℕ → Progress → Type 0) (w : WorldView C A) : Type 0 where
  pub pes : All (HoldsOn P) w.pes
  pub queues : All (All (HoldsIn P)) w.queues

-- the board says of an element that it has finished
abbrev pub SaysFinished : {A : Type 0} → BoardState A → ℕ → Type 0
SaysFinished b e = slice_get b.finished e ≡ Some true

-- a PE still owes the board the note that says so
abbrev pub OwesFinish : {C A : Type 0} → WorldView C A → ℕ → Type 0
OwesFinish {C} w e = (p : ℕ) × (pe : PeView C) × (slice_get w.pes p ≡ Some pe) × Contains pe.notes (Finish e)

-- it is said of an element that it has finished, by the board or by a note on its way there
abbrev pub IsSaid : {C A : Type 0} → WorldView C A → ℕ → Type 0
IsSaid w e = SaysFinished w.board e ⊎ OwesFinish w e

-- What is said is so: an element of which it is said has finished, by its own progress, and it is said of each that has. So
-- where the board says it of all, every element has finished.
pub record FinishedAsSaid {C A : Type 0} (w : WorldView C A) : Type 0 where
  pub each : HoldsOfEach (λ e p. IsSaid w e ↔ (p.finished ≡ true)) w
  pub all : HaveFinished w.board → HoldsOfEach (λ e p. p.finished ≡ true) w
