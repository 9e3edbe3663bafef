-- That a PE is one of a run, and what it holds is addressed to PEs that there are.
use Rattle.std.specs.Prelude.{ℕ, ◌<◌, ◌≤◌, List, [], ◌∷◌, Option, IfSome}
use Rattle.chare_index.specs.declared.limits.TheConstants.Limits.{ELEMENTS}
use Rattle.chares.specs.Steps.{Step}
use Rattle.pe_state.specs.Histories.{HasHistories}
use Rattle.pe_state.specs.Pes.{PeView, Item}

-- a PE, if there is one, is one of the first `pes`
abbrev pub IsBelow : ℕ → Option ℕ → Type 0
IsBelow pes address = IfSome address (λ q. q < pes)

-- so is the address of each parcel of an outbox
abbrev pub AreBelow : ℕ → List Item → Type 0
AreBelow pes [] = Unit {0}
AreBelow pes (x ∷ xs) = IsBelow pes x.address × AreBelow pes xs

-- so is the address of a parcel in a hand
abbrev pub IsHandBelow : ℕ → Option Item → Type 0
IsHandBelow pes hand = IfSome hand (λ x. IsBelow pes x.address)

-- a PE is one of this many, on which an array was opened with these chares
module _ {C : Type 0} (step : Step C) (fits : C → Type 0) (pack : C → List ℕ) (opened : List C) (pes : ℕ) where
  pub record IsOfRun (pe : PeView C) : Type 0 where
    pub histories : HasHistories step fits pack opened pe
    pub few : pe.n ≤ ELEMENTS
    pub me : pe.me < pes
    pub hand : IsHandBelow pes pe.hand
    pub outbox : AreBelow pes pe.outbox
    pub kept : IsBelow pes pe.kept
