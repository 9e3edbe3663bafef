use Rattle.std.proofs.Common.{◌≡◌, true, is_some, ap, refl, sym, ◌∙◌, rules}
use Rattle.pe_state.specs.Rooms.{found}
use Rattle.pe_state.proofs.Acting.{installs, may_install, stands_already, lacking, did, did_nothing, did_not, traced_nothing, traced_so, untraced}
use Rattle.pe_state.proofs.pe.PeState.act_on_element.Goals as goal

-- one with its index stands already

pub returns-then-is_some-clause-acts : goal.returns-then-is_some-clause-acts
returns-then-is_some-clause-acts g c =
    let some : is_some (found c.args.element.index c.args.self.now.room) ≡ true = search rules in
    did_nothing _ _ _ (stands_already g.C.Chare.step g.C.Pup.pack g.C.Pup.unpack c.args.self.now c.args.element _ some) c.hold.ensures.ok

pub returns-then-is_some-clause-traces : goal.returns-then-is_some-clause-traces
returns-then-is_some-clause-traces g c =
    let some : is_some (found c.args.element.index c.args.self.now.room) ≡ true = search rules in
    traced_nothing _ _ _ _ _ (stands_already g.C.Chare.step g.C.Pup.pack g.C.Pup.unpack c.args.self.now c.args.element _ some) refl

-- no memory

pub returns-in_default-clause-acts : goal.returns-in_default-clause-acts
returns-in_default-clause-acts g c =
    let none = sym (ap (λ p. found c.args.element.index p.room) c.self.view_is)
    ∙ sym (ap (λ r. found c.args.element.index r) c.room.ensures.value)
    ∙ sym (ap (λ e. found e c.room.result.now) c.index.ensures.value)
    ∙ lacking (λ x. x.now) c.element.result _ c.element.ensures.value (sym c.is_some.ensures ∙ c.if-is_some.false) in
    record {
      answer = tt;
      ok = tt;
      err = c.hold-in_default.ensures.ok;
      enabled = may_install g.C.Chare.step g.C.Pup.pack g.C.Pup.unpack c.args.self.now c.args.element _ none c.unpack.ensures.whole;
    }

pub returns-in_err-install-clause-acts : goal.returns-in_err-install-clause-acts
returns-in_err-install-clause-acts g c =
    let none = sym (ap (λ p. found c.args.element.index p.room) c.self.view_is)
    ∙ sym (ap (λ r. found c.args.element.index r) c.room.ensures.value)
    ∙ sym (ap (λ e. found e c.room.result.now) c.index.ensures.value)
    ∙ lacking (λ x. x.now) c.element.result _ c.element.ensures.value (sym c.is_some.ensures ∙ c.if-is_some.false) in
    did_not _ _ _ _ c.from_residual.ensures.0 (may_install g.C.Chare.step g.C.Pup.pack g.C.Pup.unpack c.args.self.now c.args.element _ none
    c.unpack.ensures.whole) c.in_err-install.ensures.err

pub returns-in_err-install-clause-traces : goal.returns-in_err-install-clause-traces
returns-in_err-install-clause-traces g c = untraced _ _ _ _ _ c.from_residual.ensures.0 c.in_err-install.ensures.traces.err

-- it is installed

pub returns-clause-acts : goal.returns-clause-acts
returns-clause-acts g c =
    let none = sym (ap (λ p. found c.args.element.index p.room) c.self.view_is)
    ∙ sym (ap (λ r. found c.args.element.index r) c.room.ensures.value)
    ∙ sym (ap (λ e. found e c.room.result.now) c.index.ensures.value)
    ∙ lacking (λ x. x.now) c.element.result _ c.element.ensures.value (sym c.is_some.ensures ∙ c.if-is_some.false) in
    did _ _ _ _ (installs g.C.Chare.step g.C.Pup.pack g.C.Pup.unpack c.args.self.now c.args.element _ c.in-Ok.chare _ none c.in-Ok.ensures.unpacks.1) c.in_ok-install.ensures.ok

pub returns-clause-traces : goal.returns-clause-traces
returns-clause-traces g c =
    let none = sym (ap (λ p. found c.args.element.index p.room) c.self.view_is)
    ∙ sym (ap (λ r. found c.args.element.index r) c.room.ensures.value)
    ∙ sym (ap (λ e. found e c.room.result.now) c.index.ensures.value)
    ∙ lacking (λ x. x.now) c.element.result _ c.element.ensures.value (sym c.is_some.ensures ∙ c.if-is_some.false) in
    traced_so _ _ _ _ _ _ (installs g.C.Chare.step g.C.Pup.pack g.C.Pup.unpack c.args.self.now c.args.element _ c.in-Ok.chare _ none
    c.in-Ok.ensures.unpacks.1) c.in_ok-install.ensures.traces.ok
