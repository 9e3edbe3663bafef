-- The machine values of a lodge and of a handle, and what they own, taken apart and put together. Assumes `Logic`.
use Rattle.std.proofs.Common.{◌≡◌, List, [], ◌∷◌}
use mathlib.Core.Bool.{Bool}
use seplogic.Ra.Ura.{Ura}
use mir.Val.{Val, vbool}
use types.Logic.{Logic}
use types.Kit.{Item, Goal, Seq, Step, ‵}
use denote.RattleType.{RattleType}
use denote.RawPtr.{Ptr, ptr_val}
use Rattle.loose_box.proofs.Flagged.{flagged_in, flagged_out}
use Rattle.loose_box.proofs.Values.{both}
use Rattle.rank_calls.specs.Owning.{PeOf, held, lodged}
use Rattle.rank_calls.specs.Runs.{Run}
use Rattle.rank_calls.specs.declared.run.RunName.{Ghosts}
use Rattle.rank_calls.specs.contracts.lodge.Lodge as lodge
use Rattle.rank_calls.specs.contracts.handle.Handle as handle

module _ {M : Type 1} {𝓤 : Ura M} {𝓛 : Logic 𝓤} {K : Type 0} {Γ : List (Item 𝓤)} {G : Goal 𝓤 𝓛.H} where
  module _ (P : RattleType) (g : Ghosts P.Denot) where
    -- a lodge of these fields
    pub lodge_in : K → (p : Ptr) (is_open : Bool) (x : PeOf)
        → Step K 𝓛 (‵ ((lodge.the_row P g).own_val (record { at = p; is_open = is_open; pe = x }) (both (ptr_val p) (vbool is_open) ∷ [])) ∷ Γ) G (‵ (lodged P g p is_open x) ∷ Γ) G
    lodge_in t p is_open x = flagged_in (lodged P g p is_open x) t p is_open

    -- a lodge's value says which machine value it is
    pub lodge_out : K → (d : (lodge.the_row P g).Denot) (vs : List Val)
        → (vs ≡ both (ptr_val d.at) (vbool d.is_open) ∷ [] → Seq K 𝓛 (‵ (lodged P g d.at d.is_open d.pe) ∷ Γ) G)
        → Seq K 𝓛 (‵ ((lodge.the_row P g).own_val d vs) ∷ Γ) G
    lodge_out t d vs k = flagged_out (lodged P g d.at d.is_open d.pe) t d.at d.is_open vs k

  -- a handle of these fields
  pub handle_in : K → (p : Ptr) (is_open : Bool) (run : Run) (x : PeOf)
      → Step K 𝓛 (‵ ((handle.the_row).own_val (record { at = p; is_open = is_open; run = run; pe = x }) (both (ptr_val p) (vbool is_open) ∷ []))
      ∷ Γ) G (‵ (held p is_open run x) ∷ Γ) G
  handle_in t p is_open run x = flagged_in (held p is_open run x) t p is_open

  -- a handle's value says which machine value it is
  pub handle_out : K → (d : (handle.the_row).Denot) (vs : List Val)
      → (vs ≡ both (ptr_val d.at) (vbool d.is_open) ∷ [] → Seq K 𝓛 (‵ (held d.at d.is_open d.run d.pe) ∷ Γ) G)
      → Seq K 𝓛 (‵ ((handle.the_row).own_val d vs) ∷ Γ) G
  handle_out t d vs k = flagged_out (held d.at d.is_open d.run d.pe) t d.at d.is_open vs k
