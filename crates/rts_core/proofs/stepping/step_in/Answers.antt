use Rattle.std.proofs.Common.{◌≡◌, ◌<◌, ◌≤◌, ℕ, List, length, get_or, Some, None, refl, arith}
use Rattle.std.specs.Prelude.{slice_get}
use Rattle.std.proofs.lemmas.Option.{slice_get-get_or, slice_get_past}
use Rattle.std.proofs.lemmas.List.{set-get_or}
use Rattle.pe_state.specs.Pes.{PeView}
use Rattle.rts_core.specs.Events.{LocalView}
use Rattle.rts_core.specs.Worlds.{WorldView}
use Rattle.rts_core.proofs.Worlds.{enabled_ok, same_at, world_local, histories_local}
use Rattle.rts_core.proofs.stepping.step_in.Goals as goal

pub returns-clause-ok : goal.returns-clause-ok
returns-clause-ok g c =
    let pes : List (PeView g.row.C.Denot) = c.args.pes.now in
    let i : ℕ = c.get-i.result in
    let inside : i < length pes = omega arith in
    let w : WorldView g.row.C.Denot g.row.A.Denot = record { pes = pes; queues = c.args.queues.now; words = c.args.words.now; board = c.args.board.now } in
    let d : LocalView g.row.C.Denot g.row.A.Denot = record { pe = c.step_at.new.pe; queues = c.step_at.new.queues; words = c.step_at.new.words; board = c.step_at.new.board } in
    rw (← c.get-i.ensures.value)
    (enabled_ok g.C.Chare.step g.C.Pup.pack g.C.Pup.unpack w c.args.event i (get_or pes i c.index-pes-i.result) d c.step_at.result
    (slice_get-get_or pes i c.index-pes-i.result inside)
    (set-get_or pes i c.index-pes-i.result)
    c.step_at.ensures.ok)

pub returns-clause-same_pes : goal.returns-clause-same_pes
returns-clause-same_pes g c =
    same_at c.args.pes.now c.get-i.result (get_or c.args.pes.now c.get-i.result c.index-pes-i.result) c.step_at.new.pe c.step_at.result
    (set-get_or c.args.pes.now c.get-i.result c.index-pes-i.result) c.step_at.ensures.same_pe

pub returns-clause-refused : goal.returns-clause-refused
returns-clause-refused g c =
    let pes : List (PeView g.row.C.Denot) = c.args.pes.now in
    let i : ℕ = c.get-i.result in
    let inside : i < length pes = omega arith in
    let at : slice_get pes i ≡ Some (get_or pes i c.index-pes-i.result) = slice_get-get_or pes i c.index-pes-i.result inside in
    rw (← c.get-i.ensures.value, at) c.step_at.ensures.refused

pub returns-clause-world : goal.returns-clause-world
returns-clause-world g c =
    let w : WorldView g.row.C.Denot g.row.A.Denot = record { pes = c.args.pes.now; queues = c.args.queues.now; words = c.args.words.now; board = c.args.board.now } in
    let d : LocalView g.row.C.Denot g.row.A.Denot = record { pe = c.step_at.new.pe; queues = c.step_at.new.queues; words = c.step_at.new.words; board = c.step_at.new.board } in
    world_local g.C.Chare.step g.C.Pup.fits g.C.Pup.pack g.H.Openings.opened g.H.Openings.pes w c.get-i.result d c.requires.world
    c.step_at.ensures.kept c.step_at.auto.queues c.step_at.auto.words

pub returns-clause-run : goal.returns-clause-run
returns-clause-run g c =
    let w : WorldView g.row.C.Denot g.row.A.Denot = record { pes = c.args.pes.now; queues = c.args.queues.now; words = c.args.words.now; board = c.args.board.now } in
    let d : LocalView g.row.C.Denot g.row.A.Denot = record { pe = c.step_at.new.pe; queues = c.step_at.new.queues; words = c.step_at.new.words; board = c.step_at.new.board } in
    histories_local g.C.Chare.step g.C.Pup.fits g.C.Pup.pack g.H.Openings.opened g.H.Openings.pes w c.get-i.result d c.requires.run c.step_at.ensures.kept

pub returns-then-pes-i-clause-ok : goal.returns-then-pes-i-clause-ok
returns-then-pes-i-clause-ok g c =
    let past : length c.args.pes.now ≤ c.args.p = omega arith in
    let none : slice_get c.args.pes.now c.args.p ≡ None = slice_get_past c.args.pes.now c.args.p past in
    rw (none, c.none.ensures.made) refl
