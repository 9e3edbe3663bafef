use Rattle.std.proofs.Common.{◌∷◌, refl, sym, ap, subst, ◌∙◌, rules}
use Rattle.pe_state.specs.Histories.{IsParcelHistory}
use Rattle.pe_state.specs.Pes.{Parcel}
use Rattle.pe_state.specs.Standing.{IsBelow}
use Rattle.pe_state.proofs.Histories.{still_holds, handed_back_holds}
use Rattle.pe_state.proofs.Keeping.{outbox_below}
use Rattle.pe_state.proofs.Runs.{same_run}
use Rattle.pe_state.proofs.pe.PeState.hand_back.Goals as goal

pub returns : goal.returns
returns g c = search rules

pub invariant_of-end : goal.invariant_of-end
invariant_of-end g c = (c.end.invariant.0, λ k. let none = rw c.take-address.ensures.after at k in absurd (cc))

pub invariant_of-self : goal.invariant_of-self
invariant_of-self g c =
    let i = same_run c.end.view_is c.self.invariant.1 in
    let history = subst (λ (p : Parcel). IsParcelHistory g.C.Chare.step g.C.Pup.fits g.C.Pup.pack g.H.Openings.opened p)
    (sym c.into_held-parcel.ensures.value) c.into_held-parcel.ensures.history in
    let front = c.push_front_reserved.ensures.items ∙ ap
    (λ q. record { parcel = c.into_held-parcel.result; address = q } ∷ c.end.inside.outbox.items)
    c.take-address.ensures.value in (
      c.self.invariant.0,
      record {
        histories = still_holds (handed_back_holds g.C.Chare.step g.C.Pup.fits g.C.Pup.pack g.H.Openings.opened _
            c.into_held-parcel.result i.histories history) refl refl refl front;
        few = i.few;
        me = i.me;
        hand = i.hand;
        outbox = outbox_below _ _ _ front (i.kept, i.outbox);
        kept = subst (λ q. IsBelow g.H.Openings.pes q) (sym c.take-address.ensures.after) tt;
      },
    )
