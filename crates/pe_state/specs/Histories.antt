-- That every element of a PE is what its journal says, wherever on the PE it is.
use Rattle.std.specs.Prelude.{◌≡◌, ℕ, List, length, All, IfSome}
use Rattle.std.specs.Map.{values_of}
use Rattle.chares.specs.declared.carried.Carried.TheVariants.{Letter, Element}
use Rattle.chares.specs.Elements.{IsHistory, IsPackedHistory}
use Rattle.chares.specs.Steps.{Step}
use Rattle.pe_state.specs.Pes.{PeView, Parcel}

module _ {C : Type 0} (step : Step C) (fits : C → Type 0) (pack : C → List ℕ) (opened : List C) where
  -- a parcel that is an element packs one that is what its journal says
  abbrev pub IsParcelHistory : Parcel → Type 0
  IsParcelHistory (Letter l) = Unit {0}
  IsParcelHistory (Element p) = IsPackedHistory step fits pack opened p

  -- a PE is one of a run that opened with these chares, and so is each element in its room, its hand and its outbox
  pub record HasHistories (pe : PeView C) : Type 0 where
    pub same_array : pe.n ≡ length opened
    pub room : All (IsHistory step pack opened) (values_of pe.room)
    pub hand : IfSome pe.hand (λ x. IsParcelHistory x.parcel)
    pub outbox : All (λ x. IsParcelHistory x.parcel) pe.outbox
