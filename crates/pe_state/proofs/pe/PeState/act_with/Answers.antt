use Rattle.chares.specs.declared.carried.Carried.TheVariants.{Letter, Element}
use Rattle.std.proofs.Common.{Option, IfSome, refl, sym, subst, ◌∙◌}
use Rattle.pe_state.specs.Histories.{IsParcelHistory}
use Rattle.pe_state.specs.Pes.{Item, Parcel}
use Rattle.pe_state.specs.Standing.{IsHandBelow}
use Rattle.pe_state.proofs.Histories.{emptied_holds}
use Rattle.pe_state.proofs.Acting.{Holds, held_again, idle, same_hand, did_nothing, traced_nothing, acting_on_letter, acting_on_element, refuses_letter, memory_refuses}
use Rattle.pe_state.specs.Refusals.{RefusesAct}
use Rattle.pe_state.proofs.Runs.{same_run}
use Rattle.pe_state.proofs.pe.PeState.act_with.Goals as goal

in_letter : (g : _) (c : goal.After-act_on_letter g)
    → Holds c.args.self.now (record {
      me = c.end.inside.me;
      n = c.end.inside.n;
      room = c.end.inside.room;
      hand = c.end.inside.hand;
      shelf = c.end.inside.shelf.items;
      outbox = c.end.inside.outbox.items;
      notes = c.end.inside.notes.items;
      count = c.end.inside.count;
      longest = c.end.inside.longest;
      kept = c.end.inside.kept;
    }) c.in-Some.field-0 (Letter c.in-Letter.letter) c.in-Some.field-0.address
in_letter g c = record { view_is = sym (c.end.view_is ∙ c.self.view_is); in_hand = sym c.take.ensures.value ∙ c.in-Some.is; parcel_is = c.in-Letter.is; look_is = refl }

pub returns-in-Letter-clause-acts : goal.returns-in-Letter-clause-acts
returns-in-Letter-clause-acts g c =
    let same = acting_on_letter g.C.Chare.step g.C.Pup.pack g.C.Pup.unpack _ _ c.take.new.self _ _ _ (in_letter g c) in
    let again = held_again _ _ c.take.new.self _ _ _ (in_letter g c) in
    rw same (rw again c.act_on_letter.ensures.acts)

pub returns-in-Letter-clause-traces : goal.returns-in-Letter-clause-traces
returns-in-Letter-clause-traces g c = rw (acting_on_letter g.C.Chare.step g.C.Pup.pack g.C.Pup.unpack _ _ c.take.new.self _ _ _ (in_letter g c)) c.act_on_letter.ensures.traces

in_element : (g : _) (c : goal.After-act_on_element g)
    → Holds c.args.self.now (record {
      me = c.end.inside.me;
      n = c.end.inside.n;
      room = c.end.inside.room;
      hand = c.end.inside.hand;
      shelf = c.end.inside.shelf.items;
      outbox = c.end.inside.outbox.items;
      notes = c.end.inside.notes.items;
      count = c.end.inside.count;
      longest = c.end.inside.longest;
      kept = c.end.inside.kept;
    }) c.in-Some.field-0 (Element c.in-Element.element) c.in-Some.field-0.address
in_element g c = record { view_is = sym (c.end.view_is ∙ c.self.view_is); in_hand = sym c.take.ensures.value ∙ c.in-Some.is; parcel_is = c.in-Element.is; look_is = refl }

pub returns-in-Element-clause-acts : goal.returns-in-Element-clause-acts
returns-in-Element-clause-acts g c =
    let same = acting_on_element g.C.Chare.step g.C.Pup.pack g.C.Pup.unpack _ _ c.take.new.self _ _ _ (in_element g c) in
    let again = held_again _ _ c.take.new.self _ _ _ (in_element g c) in
    rw same (rw again c.act_on_element.ensures.acts)

pub returns-in-Element-clause-traces : goal.returns-in-Element-clause-traces
returns-in-Element-clause-traces g c = rw (acting_on_element g.C.Chare.step g.C.Pup.pack g.C.Pup.unpack _ _ c.take.new.self _ _ _ (in_element g c)) c.act_on_element.ensures.traces

pub returns-in-Letter-clause-refused : goal.returns-in-Letter-clause-refused
returns-in-Letter-clause-refused g c = rw (refuses_letter g.C.Chare.refuses _ _ c.take.new.self _ _ _ (in_letter g c)) c.act_on_letter.ensures.refused

pub returns-in-Element-clause-refused : goal.returns-in-Element-clause-refused
returns-in-Element-clause-refused g c = memory_refuses (RefusesAct g.C.Chare.refuses c.args.self.now) _ c.act_on_element.ensures.only_memory

pub invariant_of-end : goal.invariant_of-end
invariant_of-end g c = (c.end.invariant.0, c.end.invariant.1)

pub invariant_of-self : goal.invariant_of-self
invariant_of-self g c =
    let i = same_run c.end.view_is c.self.invariant.1 in (
      c.self.invariant.0,
      record {
        histories = emptied_holds g.C.Chare.step g.C.Pup.fits g.C.Pup.pack g.H.Openings.opened _ _
            c.in_default.ensures.after i.histories;
        few = i.few;
        me = i.me;
        hand = subst (λ h. IsHandBelow g.H.Openings.pes h) (sym c.in_default.ensures.after) tt;
        outbox = i.outbox;
        kept = i.kept;
      },
    )

pub returns-in_default-clause-acts : goal.returns-in_default-clause-acts
returns-in_default-clause-acts g c =
    let nothing = idle g.C.Chare.step g.C.Pup.pack g.C.Pup.unpack c.args.self.now _ (c.end.view_is ∙ c.self.view_is) c.in_default.ensures.value in
    did_nothing _ _ _ nothing (same_hand c.args.self.now _ c.take.new.self (c.end.view_is ∙ c.self.view_is) c.in_default.ensures.after c.in_default.ensures.value)

pub returns-in_default-clause-traces : goal.returns-in_default-clause-traces
returns-in_default-clause-traces g c = traced_nothing _ _ _ _ _
    (idle g.C.Chare.step g.C.Pup.pack g.C.Pup.unpack c.args.self.now _ (c.end.view_is ∙ c.self.view_is) c.in_default.ensures.value) refl

pub invariant_of-self-in-Letter : goal.invariant_of-self-in-Letter
invariant_of-self-in-Letter g c =
    let i = same_run c.end.view_is c.self.invariant.1 in (
      c.self.invariant.0,
      record {
        histories = emptied_holds g.C.Chare.step g.C.Pup.fits g.C.Pup.pack g.H.Openings.opened _ _
            c.in-Some.ensures.after i.histories;
        few = i.few;
        me = i.me;
        hand = subst (λ h. IsHandBelow g.H.Openings.pes h) (sym c.in-Some.ensures.after) tt;
        outbox = i.outbox;
        kept = i.kept;
      },
    )

pub invariant_of-self-in-Element : goal.invariant_of-self-in-Element
invariant_of-self-in-Element g c =
    let i = same_run c.end.view_is c.self.invariant.1 in (
      c.self.invariant.0,
      record {
        histories = emptied_holds g.C.Chare.step g.C.Pup.fits g.C.Pup.pack g.H.Openings.opened _ _
            c.in-Some.ensures.after i.histories;
        few = i.few;
        me = i.me;
        hand = subst (λ h. IsHandBelow g.H.Openings.pes h) (sym c.in-Some.ensures.after) tt;
        outbox = i.outbox;
        kept = i.kept;
      },
    )

pub act_on_letter-requires-clause-empty : goal.act_on_letter-requires-clause-empty
act_on_letter-requires-clause-empty g c = c.in-Some.ensures.after

pub act_on_letter-requires-clause-below : goal.act_on_letter-requires-clause-below
act_on_letter-requires-clause-below g c = subst (λ h. IsHandBelow g.H.Openings.pes h) (sym c.in-Some.ensures.value) (same_run c.end.view_is c.self.invariant.1).hand

pub act_on_element-requires-clause-empty : goal.act_on_element-requires-clause-empty
act_on_element-requires-clause-empty g c = c.in-Some.ensures.after

pub act_on_element-requires-clause-below : goal.act_on_element-requires-clause-below
act_on_element-requires-clause-below g c = subst (λ h. IsHandBelow g.H.Openings.pes h) (sym c.in-Some.ensures.value) (same_run c.end.view_is c.self.invariant.1).hand

pub act_on_element-requires-clause-consistent : goal.act_on_element-requires-clause-consistent
act_on_element-requires-clause-consistent g c =
    let taken : IsParcelHistory g.C.Chare.step g.C.Pup.fits g.C.Pup.pack g.H.Openings.opened c.in-Some.field-0.parcel = subst
    (λ (o : Option Item). IfSome o (λ x. IsParcelHistory g.C.Chare.step g.C.Pup.fits g.C.Pup.pack g.H.Openings.opened x.parcel))
    (sym c.in-Some.ensures.value) (same_run c.end.view_is c.self.invariant.1).histories.hand in
    subst (λ (p : Parcel). IsParcelHistory g.C.Chare.step g.C.Pup.fits g.C.Pup.pack g.H.Openings.opened p) c.in-Element.is taken
