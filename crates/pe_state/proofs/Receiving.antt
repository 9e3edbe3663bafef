-- A parcel that is received, and acted on at once.
use Rattle.std.proofs.Common.{◌≡◌, ℕ, List, Option, Some, None, Result, Ok, Err, true, false, IsSome, refl}
use Rattle.std.specs.Option.{option_map_or}
use Rattle.pup_pack.specs.declared.error.PupError.{PupError}
use Rattle.chares.specs.Elements.{ElementView, PackedView}
use Rattle.chares.specs.Steps.{Step}
use Rattle.chares.specs.declared.carried.Carried.TheVariants.{Letter, Element}
use Rattle.pe_state.specs.Histories.{IsParcelHistory}
use Rattle.pe_state.specs.Pes.{PeView, Parcel, acted_of, acting, installing, on_element, received}
use Rattle.pe_state.specs.Rooms.{found}
use Rattle.pe_state.specs.declared.acted.Acted.TheVariants.{Executed}

-- an element that has started stands there
pub stands_if : {C : Type 0} (f : Option (ElementView C)) → option_map_or (λ el. el.progress.started) f false ≡ true → IsSome f
stands_if (Some el) h = refl
stands_if None h = cc

module _ {C : Type 0} (step : Step C) (pack : C → List ℕ) (unpack : List ℕ → Result (C × ℕ) PupError) where
  -- an act on what was just received executes a letter
  abbrev pub ExecutesNow : PeView C → Parcel → Type 0
  ExecutesNow pe parcel = acted_of (acting step pack unpack (received pe parcel)) ≡ Some Executed

  -- an element is installed, or it waits
  installing_now : (pe : PeView C) (p : PackedView) (r : Result (C × ℕ) PupError) → acted_of (installing step pack unpack pe p r) ≡ Some Executed → ⊥
  installing_now pe p (Ok x) h = cc
  installing_now pe p (Err error) h = cc

  element_now : (pe : PeView C) (p : PackedView) (f : Option (ElementView C)) → acted_of (on_element step pack unpack pe p f) ≡ Some Executed → ⊥
  element_now pe p None h = installing_now pe p (unpack p.bytes) h
  element_now pe p (Some el) h = cc

  -- so what it executes is a letter
  pub executes_letter : (fits : C → Type 0) (opened : List C) (pe : PeView C) (parcel : Parcel) → ExecutesNow pe parcel → IsParcelHistory step fits pack opened parcel
  executes_letter fits opened pe (Letter l) h = tt
  executes_letter fits opened pe (Element p) h = absurd (element_now (received pe (Element p)) p (found p.index pe.room) h)
