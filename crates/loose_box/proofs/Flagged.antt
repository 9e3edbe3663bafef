-- The machine values of a struct of a pointer and whether it is open, and what it owns beside these. Assumes `Logic`.
use Rattle.std.proofs.Common.{◌≡◌, List, [], ◌∷◌, ◌++◌, refl, subst}
use mathlib.Core.Bool.{Bool}
use seplogic.Ra.Ura.{Ura}
use mir.Val.{Val, vbool, vstruct, of_list}
use base.Fml.{Fml, fsep}
use types.Logic.{Logic}
use types.Kit.{Item, Goal, Seq, Step, step, ‵, ◌$◌, drop, fsplit, fjoin, fpick, fpack, feq_i, feq_l}
use denote.RattleType.{Valss}
use denote.Builtin.{RawPtr, bool}
use denote.RawPtr.{Ptr, ptr_val}
use denote.Steps.{nothing}
use denote.Struct.Struct.{Shape, Struct, within}
use Rattle.loose_box.proofs.Values.{both}

-- its shape; the name does not matter to what it owns
abbrev flagged : Shape
flagged = record { name = []; args = []; types = []; fields = RawPtr ∷ bool ∷ [] }

module _ {M : Type 1} {𝓤 : Ura M} {𝓛 : Logic 𝓤} {K : Type 0} {Γ : List (Item 𝓤)} {G : Goal 𝓤 𝓛.H} (owned : Fml) where
  -- one of these fields
  pub flagged_in : K → (p : Ptr) (is_open : Bool)
      → Step K 𝓛 (‵ (fsep ((Struct flagged).own_val (p, (is_open, tt)) (both (ptr_val p) (vbool is_open) ∷ [])) owned) ∷ Γ) G (‵ owned ∷ Γ) G
  flagged_in t p is_open = step (λ s. let v : Val = both (ptr_val p) (vbool is_open) in
      nothing t $ feq_i t (List Val) (vbool is_open ∷ []) (vbool is_open ∷ []) refl $ fjoin t $ feq_i t (List Val) (ptr_val p ∷ []) (ptr_val p ∷ []) refl $ fjoin t $
      feq_i t (List Val) (v ∷ []) (v ∷ []) refl $ fjoin t $
      fpack t (Valss (RawPtr ∷ bool ∷ [])) (within flagged (p, (is_open, tt)) (v ∷ [])) (ptr_val p ∷ [], (vbool is_open ∷ [], tt)) $ fjoin t $ s)

  -- its value says which machine value it is
  pub flagged_out : K → (p : Ptr) (is_open : Bool) (vs : List Val) → (vs ≡ both (ptr_val p) (vbool is_open) ∷ [] → Seq K 𝓛 (‵ owned ∷ Γ) G)
      → Seq K 𝓛 (‵ (fsep ((Struct flagged).own_val (p, (is_open, tt)) vs) owned) ∷ Γ) G
  flagged_out t p is_open vs k =
      fsplit t $ fpick t (λ vss. fsplit t $ feq_l t (λ ev. fsplit t $ feq_l t (λ ep. fsplit t $ feq_l t (λ eb. drop t $
      k (subst (λ (ws : List Val). vs ≡ vstruct (of_list (ptr_val p ∷ (ws ++ []))) ∷ []) eb
      (subst (λ (ps : List Val). vs ≡ vstruct (of_list (ps ++ (vss.1.0 ++ []))) ∷ []) ep ev))))))
