-- Why a worker meets a fault: what a handler or the board refused.
use Rattle.std.specs.Prelude.{◌⊎◌, ℕ, List, length}
use Rattle.sync_board.specs.declared.error.BoardError.TheVariants as Board
use Rattle.barrier.specs.Refusals.{IsRefusedDecision}
use Rattle.chares.specs.Elements.{ElementView, IsHistory, Refuses}
use Rattle.chares.specs.Steps.{Step}
use Rattle.chares.specs.declared.entry.Entry.{Entry}
use Rattle.chares.specs.declared.sends.SendError.{SendError}
use Rattle.chares.specs.declared.sends.SendError.TheVariants as Send
use Rattle.pe_worker.specs.declared.fault.Fault.{Fault}
use Rattle.pe_worker.specs.declared.fault.Fault.TheVariants.{OutOfMemory, Idle, Unpack, Stranger, TooLong, Worn, Mismatch, Stopped, Quiet}

module _ {C : Type 0} (step : Step C) (pack : C → List ℕ) (refuses : Refuses C) (opened : List C) where
  -- The handler of an element of the run may return this error: of one that is what its journal says, on a PE that has
  -- posted this many letters, for this letter or resumption.
  pub record MayRefuse (error : SendError) : Type 0 where
    pub el : ElementView C
    pub history : IsHistory step pack opened el
    pub count : ℕ
    pub input : Entry (List ℕ)
    pub refused : refuses el.chare el.index (length opened) count input error

  -- What is behind a fault that a worker meets. A fault about letters comes of a handler that may return it; Worn may also say
  -- that the last round was to be decided. Bytes that are no state, and marks that do not agree, no worker meets.
  abbrev pub HasCause : Fault → Type 0
  HasCause OutOfMemory = Unit {0}
  HasCause Idle = Unit {0}
  HasCause Unpack = ⊥
  HasCause Stranger = MayRefuse Send.Stranger
  HasCause TooLong = MayRefuse Send.TooLong
  HasCause Worn = MayRefuse Send.Worn ⊎ IsRefusedDecision (length opened) Board.Worn
  HasCause Mismatch = ⊥
  HasCause Stopped = Unit {0}
  HasCause Quiet = Unit {0}
