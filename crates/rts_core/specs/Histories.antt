-- That every element of a world is what its journal says, wherever it is.
use Rattle.std.specs.Prelude.{◌≡◌, ◌<◌, ℕ, List, length, All}
use Rattle.chares.specs.Steps.{Step}
use Rattle.pe_state.specs.Histories.{IsParcelHistory, HasHistories}
use Rattle.lb_database.specs.Measuring.{elements}
use Rattle.rts_core.specs.Events.{LocalView, After}
use Rattle.rts_core.specs.Accounts.{AreSent}
use Rattle.rts_core.specs.Worlds.{WorldView}

module _ {C : Type 0} (step : Step C) (fits : C → Type 0) (pack : C → List ℕ) (opened : List C) where
  -- each element of a world is what its journal says, on a PE or in a queue
  pub record AreHistories {A : Type 0} (w : WorldView C A) : Type 0 where
    pub pes : All (HasHistories step fits pack opened) w.pes
    pub queues : All (All (IsParcelHistory step fits pack opened)) w.queues

  -- what a PE sees is of a run that opened with these chares on this number of PEs
  pub record IsLocalView {A : Type 0} (pes : ℕ) (d : LocalView C A) : Type 0 where
    pub histories : HasHistories step fits pack opened d.pe
    pub parcels : All (All (IsParcelHistory step fits pack opened)) d.queues
    pub words_name : All (λ q. q < pes) d.words
    pub board_counted : elements d.board.database ≡ length opened
    pub board_pes : d.board.pes ≡ pes

-- Where the elements of a world are what their journals say, what they have sent is in places or in journals after an event
-- if it was before.
abbrev pub KeepsSent : {C A : Type 0} → Step C → (C → Type 0) → (C → List ℕ) → WorldView C A → After C A → Type 0
KeepsSent {C} step fits pack w next = (opened : List C) → AreHistories step fits pack opened w → AreSent step opened w → AreSent step opened next.0
