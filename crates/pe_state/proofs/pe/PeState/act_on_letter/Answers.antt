use Rattle.std.proofs.Common.{refl, sym, ap, is_some, ◌∙◌}
use Rattle.chares.specs.declared.carried.Carried.TheVariants as Carried
use Rattle.pe_state.specs.Pes.{PeView}
use Rattle.pe_state.specs.Refusals.{RefusesParcel, RefusesStep}
use Rattle.pe_state.specs.Rooms.{found}
use Rattle.pe_state.proofs.Acting.{memory_refuses, waits, runs, did, did_nothing, did_not, traced_nothing, traced_so, untraced, starts}
use Rattle.pe_state.proofs.Keeping.{same_error}
use Rattle.pe_state.proofs.pe.PeState.act_on_letter.Goals as goal

-- its element does not stand here

pub pass_on-requires-clause-empty : goal.pass_on-requires-clause-empty
pass_on-requires-clause-empty g c = c.requires.empty

pub pass_on-requires-clause-below : goal.pass_on-requires-clause-below
pass_on-requires-clause-below g c = c.requires.below

pub returns-in_default-clause-acts : goal.returns-in_default-clause-acts
returns-in_default-clause-acts g c =
    let none = sym (c.in_default.ensures.value ∙ ap (λ k. found k c.room.result.now) c.to.ensures.value
    ∙ ap (λ r. found c.args.letter.to r) c.room.ensures.value ∙ ap (λ (v : PeView g.row.C.Denot). found c.args.letter.to v.room) c.self.view_is) in
    rw none c.pass_on.ensures.acts

pub returns-in_default-clause-traces : goal.returns-in_default-clause-traces
returns-in_default-clause-traces g c =
    let none = sym (c.in_default.ensures.value ∙ ap (λ k. found k c.room.result.now) c.to.ensures.value
    ∙ ap (λ r. found c.args.letter.to r) c.room.ensures.value ∙ ap (λ (v : PeView g.row.C.Denot). found c.args.letter.to v.room) c.self.view_is) in
    rw none c.pass_on.ensures.traces

pub returns-in_default-clause-refused : goal.returns-in_default-clause-refused
returns-in_default-clause-refused g c = memory_refuses (RefusesParcel g.C.Chare.refuses c.args.self.now (Carried.Letter c.args.letter)) _ c.pass_on.ensures.only_memory

-- its element has not started

pub returns-then-not-progress-clause-acts : goal.returns-then-not-progress-clause-acts
returns-then-not-progress-clause-acts g c =
    let some = sym (c.in-Some.ensures.value ∙ ap (λ k. found k c.room.result.now) c.to.ensures.value
    ∙ ap (λ r. found c.args.letter.to r) c.room.ensures.value ∙ ap (λ (v : PeView g.row.C.Denot). found c.args.letter.to v.room) c.self.view_is) in
    did_nothing _ _ _ (waits g.C.Chare.step g.C.Pup.pack g.C.Pup.unpack c.args.self.now c.args.letter c.args.address _ _ _ some
    c.progress.ensures.value c.if-not-progress.true) c.hold.ensures.ok

pub returns-then-not-progress-clause-traces : goal.returns-then-not-progress-clause-traces
returns-then-not-progress-clause-traces g c =
    let some = sym (c.in-Some.ensures.value ∙ ap (λ k. found k c.room.result.now) c.to.ensures.value
    ∙ ap (λ r. found c.args.letter.to r) c.room.ensures.value ∙ ap (λ (v : PeView g.row.C.Denot). found c.args.letter.to v.room) c.self.view_is) in
    traced_nothing _ _ _ _ _ (waits g.C.Chare.step g.C.Pup.pack g.C.Pup.unpack c.args.self.now c.args.letter c.args.address _ _ _ some
    c.progress.ensures.value c.if-not-progress.true) refl

-- its element executes it

pub execute-requires-clause-stands : goal.execute-requires-clause-stands
execute-requires-clause-stands g c =
    let some = sym (c.in-Some.ensures.value ∙ ap (λ k. found k c.room.result.now) c.to.ensures.value
    ∙ ap (λ r. found c.args.letter.to r) c.room.ensures.value ∙ ap (λ (v : PeView g.row.C.Denot). found c.args.letter.to v.room) c.self.view_is) in
    rw some refl

pub execute-requires-clause-started : goal.execute-requires-clause-started
execute-requires-clause-started g c =
    let some = sym (c.in-Some.ensures.value ∙ ap (λ k. found k c.room.result.now) c.to.ensures.value
    ∙ ap (λ r. found c.args.letter.to r) c.room.ensures.value ∙ ap (λ (v : PeView g.row.C.Denot). found c.args.letter.to v.room) c.self.view_is) in
    starts c.args.self.now c.args.letter.to _ _ some c.progress.ensures.value c.if-not-progress.false

pub returns-in_err-execute-clause-refused : goal.returns-in_err-execute-clause-refused
returns-in_err-execute-clause-refused g c = same_error
    (RefusesStep (RefusesParcel g.C.Chare.refuses c.args.self.now (Carried.Letter c.args.letter))) _ _ c.from_residual.ensures.1
    c.in_err-execute.ensures.refused

pub returns-in_err-execute-clause-acts : goal.returns-in_err-execute-clause-acts
returns-in_err-execute-clause-acts g c =
    let some = sym (c.in-Some.ensures.value ∙ ap (λ k. found k c.room.result.now) c.to.ensures.value
    ∙ ap (λ r. found c.args.letter.to r) c.room.ensures.value ∙ ap (λ (v : PeView g.row.C.Denot). found c.args.letter.to v.room) c.self.view_is) in
    did_not _ _ _ _ c.from_residual.ensures.0 (ap is_some
    (runs g.C.Chare.step g.C.Pup.pack g.C.Pup.unpack c.args.self.now c.args.letter c.args.address _ _ _ some c.progress.ensures.value
    c.if-not-progress.false)) c.in_err-execute.ensures.err

pub returns-in_err-execute-clause-traces : goal.returns-in_err-execute-clause-traces
returns-in_err-execute-clause-traces g c = untraced _ _ _ _ _ c.from_residual.ensures.0 c.in_err-execute.ensures.traces.err

pub returns-clause-acts : goal.returns-clause-acts
returns-clause-acts g c =
    let some = sym (c.in-Some.ensures.value ∙ ap (λ k. found k c.room.result.now) c.to.ensures.value
    ∙ ap (λ r. found c.args.letter.to r) c.room.ensures.value ∙ ap (λ (v : PeView g.row.C.Denot). found c.args.letter.to v.room) c.self.view_is) in
    did _ _ _ _ (runs g.C.Chare.step g.C.Pup.pack g.C.Pup.unpack c.args.self.now c.args.letter c.args.address _ _ _ some
    c.progress.ensures.value c.if-not-progress.false) c.in_ok-execute.ensures.ok

pub returns-clause-traces : goal.returns-clause-traces
returns-clause-traces g c =
    let some = sym (c.in-Some.ensures.value ∙ ap (λ k. found k c.room.result.now) c.to.ensures.value
    ∙ ap (λ r. found c.args.letter.to r) c.room.ensures.value ∙ ap (λ (v : PeView g.row.C.Denot). found c.args.letter.to v.room) c.self.view_is) in
    traced_so _ _ _ _ _ _ (runs g.C.Chare.step g.C.Pup.pack g.C.Pup.unpack c.args.self.now c.args.letter c.args.address _ _ _ some
    c.progress.ensures.value c.if-not-progress.false) c.in_ok-execute.ensures.traces.ok
