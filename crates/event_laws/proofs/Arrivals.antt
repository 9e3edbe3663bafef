-- Where an element on a PE is in no parcel, none arrives where there is one with its index already.
use Rattle.std.proofs.Common.{◌≡◌, Option, Some, None, refl, sym, subst, inl}
use Rattle.std.specs.Prelude.{MatchOption}
use Rattle.chares.specs.Elements.{ElementView}
use Rattle.pe_state.specs.Pes.{Parcel, Item}
use Rattle.pe_state.specs.Rooms.{found}
use Rattle.rts_core.specs.Worlds.{WorldView}
use Rattle.event_laws.specs.Bound.{Carries, StandAlone, ArriveAlone}

pub arrive_alone : {C A : Type 0} (w : WorldView C A) → StandAlone w → ArriveAlone w
arrive_alone {C} w alone p pe item packed at hand is = by (found packed.index pe.room) refl
  where
    held : MatchOption pe.hand ⊥ (λ x. Carries packed.index x.parcel)
    held =
        subst (λ (o : Option Item). MatchOption o ⊥ (λ x. Carries packed.index x.parcel)) (sym hand)
        (subst (λ (v : Parcel). Carries packed.index v) (sym is) refl)

    by : (o : Option (ElementView C)) → found packed.index pe.room ≡ o → found packed.index pe.room ≡ None
    by None stands = stands
    by (Some el) stands = absurd (alone.in_no_parcel packed.index p p (pe, el, at, stands) (inl (pe, at, held)))
