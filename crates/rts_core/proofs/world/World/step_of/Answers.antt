use Rattle.std.proofs.Common.{arith}
use Rattle.rts_core.specs.Worlds.{WorldView}
use Rattle.rts_core.proofs.WorldAccount.{sent_at, counted_at}
use Rattle.rts_core.proofs.Worlds.{came_back, nothing_changed}
use Rattle.rts_core.proofs.world.World.step_of.Goals as goal

pub invariant_of-self : goal.invariant_of-self
invariant_of-self g c =
    let pes = came_back c.self.inside.pes.len c.step_in.new.pes c.self.inside.pes.items (omega (arith, c.step_in.auto.pes, c.as_mut_slice.ensures.len)) in
    let queues = came_back c.self.inside.queues.len c.step_in.new.queues c.self.inside.queues.items (omega (arith, c.step_in.auto.queues, c.as_mut_slice-2.ensures.len)) in
    let words = came_back c.self.inside.words.len c.step_in.new.words c.self.inside.words.items (omega (arith, c.step_in.auto.words, c.as_mut_slice-3.ensures.len)) in
    let w : WorldView g.row.C.Denot g.row.A.Denot = record
    { pes = c.self.inside.pes.items; queues = c.self.inside.queues.items; words = c.self.inside.words.items; board = c.self.inside.board } in
    let w' : WorldView g.row.C.Denot g.row.A.Denot = record { pes = c.step_in.new.pes; queues = c.step_in.new.queues; words = c.step_in.new.words; board = c.step_in.new.board } in
    let ok = rw (c.as_mut_slice.ensures.value, c.as_mut_slice-2.ensures.value, c.as_mut_slice-3.ensures.value) at c.step_in.ensures.ok in
    let same = nothing_changed c.step_in.result w w' (rw c.as_mut_slice.ensures.value at c.step_in.ensures.same_pes)
    (rw c.as_mut_slice-2.ensures.value at c.step_in.ensures.same_queues)
    (rw c.as_mut_slice-3.ensures.value at c.step_in.ensures.same_words) c.step_in.ensures.same_board in
    rw (pes, queues, words) (
      c.step_in.ensures.world,
      c.step_in.ensures.run,
      sent_at g.C.Chare.step g.C.Pup.fits g.C.Pup.pack g.C.Pup.unpack g.H.Openings.opened w w' c.args.event c.args.p c.step_in.result
          c.self.invariant.1 c.self.invariant.2 ok same,
      counted_at g.C.Chare.step g.C.Pup.fits g.C.Pup.pack g.C.Pup.unpack
          g.H.Openings.opened w w' c.args.event c.args.p c.step_in.result c.self.invariant.1 c.self.invariant.3 ok same,
    )

pub returns-clause-ok : goal.returns-clause-ok
returns-clause-ok g c =
    let pes = came_back c.self.inside.pes.len c.step_in.new.pes c.self.inside.pes.items (omega (arith, c.step_in.auto.pes, c.as_mut_slice.ensures.len)) in
    let queues = came_back c.self.inside.queues.len c.step_in.new.queues c.self.inside.queues.items (omega (arith, c.step_in.auto.queues, c.as_mut_slice-2.ensures.len)) in
    let words = came_back c.self.inside.words.len c.step_in.new.words c.self.inside.words.items (omega (arith, c.step_in.auto.words, c.as_mut_slice-3.ensures.len)) in
    let ok = rw (c.as_mut_slice.ensures.value, c.as_mut_slice-2.ensures.value, c.as_mut_slice-3.ensures.value) at c.step_in.ensures.ok in
    rw (← c.self.view_is, pes, queues, words) ok

pub returns-clause-err : goal.returns-clause-err
returns-clause-err g c =
    let pes = came_back c.self.inside.pes.len c.step_in.new.pes c.self.inside.pes.items (omega (arith, c.step_in.auto.pes, c.as_mut_slice.ensures.len)) in
    let queues = came_back c.self.inside.queues.len c.step_in.new.queues c.self.inside.queues.items (omega (arith, c.step_in.auto.queues, c.as_mut_slice-2.ensures.len)) in
    let words = came_back c.self.inside.words.len c.step_in.new.words c.self.inside.words.items (omega (arith, c.step_in.auto.words, c.as_mut_slice-3.ensures.len)) in
    let w : WorldView g.row.C.Denot g.row.A.Denot = record
    { pes = c.self.inside.pes.items; queues = c.self.inside.queues.items; words = c.self.inside.words.items; board = c.self.inside.board } in
    let w' : WorldView g.row.C.Denot g.row.A.Denot = record { pes = c.step_in.new.pes; queues = c.step_in.new.queues; words = c.step_in.new.words; board = c.step_in.new.board } in
    rw (← c.self.view_is, pes, queues, words)
    (nothing_changed c.step_in.result w w'
    (rw c.as_mut_slice.ensures.value at c.step_in.ensures.same_pes)
    (rw c.as_mut_slice-2.ensures.value at c.step_in.ensures.same_queues)
    (rw c.as_mut_slice-3.ensures.value at c.step_in.ensures.same_words)
    c.step_in.ensures.same_board)

pub returns-clause-refused : goal.returns-clause-refused
returns-clause-refused g c =
    let refused = rw (c.as_mut_slice.ensures.value, c.as_mut_slice-2.ensures.value, c.as_mut_slice-3.ensures.value) at c.step_in.ensures.refused in
    rw (← c.self.view_is) refused

pub returns-clause-history : goal.returns-clause-history
returns-clause-history g c =
    let pes = came_back c.self.inside.pes.len c.step_in.new.pes c.self.inside.pes.items (omega (arith, c.step_in.auto.pes, c.as_mut_slice.ensures.len)) in
    let queues = came_back c.self.inside.queues.len c.step_in.new.queues c.self.inside.queues.items (omega (arith, c.step_in.auto.queues, c.as_mut_slice-2.ensures.len)) in
    let words = came_back c.self.inside.words.len c.step_in.new.words c.self.inside.words.items (omega (arith, c.step_in.auto.words, c.as_mut_slice-3.ensures.len)) in
    rw (pes, queues, words) c.step_in.ensures.run

pub returns-clause-sent : goal.returns-clause-sent
returns-clause-sent g c =
    let pes = came_back c.self.inside.pes.len c.step_in.new.pes c.self.inside.pes.items (omega (arith, c.step_in.auto.pes, c.as_mut_slice.ensures.len)) in
    let queues = came_back c.self.inside.queues.len c.step_in.new.queues c.self.inside.queues.items (omega (arith, c.step_in.auto.queues, c.as_mut_slice-2.ensures.len)) in
    let w : WorldView g.row.C.Denot g.row.A.Denot = record
    { pes = c.self.inside.pes.items; queues = c.self.inside.queues.items; words = c.self.inside.words.items; board = c.self.inside.board } in
    let w' : WorldView g.row.C.Denot g.row.A.Denot = record { pes = c.step_in.new.pes; queues = c.step_in.new.queues; words = c.step_in.new.words; board = c.step_in.new.board } in
    let ok = rw (c.as_mut_slice.ensures.value, c.as_mut_slice-2.ensures.value, c.as_mut_slice-3.ensures.value) at c.step_in.ensures.ok in
    let same = nothing_changed c.step_in.result w w' (rw c.as_mut_slice.ensures.value at c.step_in.ensures.same_pes)
    (rw c.as_mut_slice-2.ensures.value at c.step_in.ensures.same_queues)
    (rw c.as_mut_slice-3.ensures.value at c.step_in.ensures.same_words) c.step_in.ensures.same_board in
    rw (pes, queues) (sent_at g.C.Chare.step g.C.Pup.fits g.C.Pup.pack g.C.Pup.unpack g.H.Openings.opened w w' c.args.event c.args.p
    c.step_in.result c.self.invariant.1 c.self.invariant.2 ok same)

pub returns-clause-counted : goal.returns-clause-counted
returns-clause-counted g c =
    let pes = came_back c.self.inside.pes.len c.step_in.new.pes c.self.inside.pes.items (omega (arith, c.step_in.auto.pes, c.as_mut_slice.ensures.len)) in
    let queues = came_back c.self.inside.queues.len c.step_in.new.queues c.self.inside.queues.items (omega (arith, c.step_in.auto.queues, c.as_mut_slice-2.ensures.len)) in
    let w : WorldView g.row.C.Denot g.row.A.Denot = record
    { pes = c.self.inside.pes.items; queues = c.self.inside.queues.items; words = c.self.inside.words.items; board = c.self.inside.board } in
    let w' : WorldView g.row.C.Denot g.row.A.Denot = record { pes = c.step_in.new.pes; queues = c.step_in.new.queues; words = c.step_in.new.words; board = c.step_in.new.board } in
    let ok = rw (c.as_mut_slice.ensures.value, c.as_mut_slice-2.ensures.value, c.as_mut_slice-3.ensures.value) at c.step_in.ensures.ok in
    let same = nothing_changed c.step_in.result w w' (rw c.as_mut_slice.ensures.value at c.step_in.ensures.same_pes)
    (rw c.as_mut_slice-2.ensures.value at c.step_in.ensures.same_queues)
    (rw c.as_mut_slice-3.ensures.value at c.step_in.ensures.same_words) c.step_in.ensures.same_board in
    rw (pes, queues) (counted_at g.C.Chare.step g.C.Pup.fits g.C.Pup.pack g.C.Pup.unpack g.H.Openings.opened w w' c.args.event c.args.p
    c.step_in.result c.self.invariant.1 c.self.invariant.3 ok same)

pub returns-clause-some_pe : goal.returns-clause-some_pe
returns-clause-some_pe g c = c.self.invariant.0.some_pe
