-- The machine values of a handle, and what it owns, taken apart and put together. Assumes `Logic`.
use Rattle.std.proofs.Common.{◌≡◌, List, [], ◌∷◌}
use mathlib.Core.Bool.{Bool}
use seplogic.Ra.Ura.{Ura}
use mir.Val.{Val, vbool}
use types.Logic.{Logic}
use types.Kit.{Item, Goal, Seq, Step, ‵}
use denote.RawPtr.{Ptr, ptr_val}
use Rattle.loose_box.proofs.Flagged.{flagged_in, flagged_out}
use Rattle.loose_box.proofs.Values.{both}
use Rattle.board_handle.specs.Owning.{BoardView, held}
use Rattle.board_handle.specs.contracts.handle.BoardHandle as handle

module _ {M : Type 1} {𝓤 : Ura M} {𝓛 : Logic 𝓤} {K : Type 0} {Γ : List (Item 𝓤)} {G : Goal 𝓤 𝓛.H} where
  -- a handle of these fields
  pub handle_in : K → (p : Ptr) (is_open : Bool) (x : BoardView)
      → Step K 𝓛 (‵ ((handle.the_row).own_val (record { at = p; is_open = is_open; board = x }) (both (ptr_val p) (vbool is_open) ∷ []))
      ∷ Γ) G (‵ (held p is_open x) ∷ Γ) G
  handle_in t p is_open x = flagged_in (held p is_open x) t p is_open

  -- a handle's value says which machine value it is
  pub handle_out : K → (d : (handle.the_row).Denot) (vs : List Val)
      → (vs ≡ both (ptr_val d.at) (vbool d.is_open) ∷ [] → Seq K 𝓛 (‵ (held d.at d.is_open d.board) ∷ Γ) G)
      → Seq K 𝓛 (‵ ((handle.the_row).own_val d vs) ∷ Γ) G
  handle_out t d vs k = flagged_out (held d.at d.is_open d.board) t d.at d.is_open vs k
