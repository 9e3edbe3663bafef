-- Why a call of a PE may be refused.
use Rattle.std.specs.Prelude.{ℕ, MatchOption}
use Rattle.chares.specs.declared.carried.Carried.TheVariants.{Letter, Element}
use Rattle.chares.specs.declared.entry.Entry.TheVariants.{Letter as OfLetter, Resumption}
use Rattle.chares.specs.declared.sends.SendError.{SendError}
use Rattle.chares.specs.declared.sends.SendError.TheVariants as Send
use Rattle.pe_state.specs.declared.error.StepError.{StepError}
use Rattle.pe_state.specs.declared.error.StepError.TheVariants.{OutOfMemory, Unpack, Stranger, TooLong, Worn}
use Rattle.pe_state.specs.Pes.{PeView, Parcel}
use Rattle.pe_state.specs.Rooms.{RefusesIn}
use Rattle.chares.specs.Elements.{Refuses}

-- the reason of a step for a handler's
abbrev pub step_error_of : SendError → StepError
step_error_of Send.Stranger = Stranger
step_error_of Send.TooLong = TooLong
step_error_of Send.Worn = Worn
step_error_of Send.OutOfMemory = OutOfMemory

-- a call is out of memory, or is refused for what its handler may return; what is packed always unpacks
abbrev pub RefusesStep : (SendError → Type 0) → StepError → Type 0
RefusesStep R OutOfMemory = Unit {0}
RefusesStep R Unpack = ⊥
RefusesStep R Stranger = R Send.Stranger
RefusesStep R TooLong = R Send.TooLong
RefusesStep R Worn = R Send.Worn

module _ {C : Type 0} (refuses : Refuses C) where
  -- the handler of the element that is resumed may return this error
  abbrev pub RefusesResume : PeView C → ℕ → ℕ → SendError → Type 0
  RefusesResume pe e round error = RefusesIn refuses pe.room e pe.n pe.count (Resumption round) error

  -- the handler of the element of a letter may
  abbrev pub RefusesParcel : PeView C → Parcel → SendError → Type 0
  RefusesParcel pe (Letter l) error = RefusesIn refuses pe.room l.to pe.n pe.count (OfLetter l.body) error
  RefusesParcel pe (Element p) error = ⊥

  -- the handler of the element of the letter in the hand may
  abbrev pub RefusesAct : PeView C → SendError → Type 0
  RefusesAct pe error = MatchOption pe.hand ⊥ (λ x. RefusesParcel pe x.parcel error)
