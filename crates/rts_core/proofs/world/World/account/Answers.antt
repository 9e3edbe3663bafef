use Rattle.std.proofs.Common.{arith, ◌∙◌}
use Rattle.rts_core.specs.Worlds.{WorldView}
use Rattle.rts_core.proofs.Counts.{held_parts, posted_parts, all_parts}
use Rattle.rts_core.proofs.world.World.account.Goals as goal

pub held_by-requires : goal.held_by-requires
held_by-requires g c =
    let w : WorldView g.row.C.Denot g.row.A.Denot = record
    { pes = c.self.inside.pes.items; queues = c.self.inside.queues.items; words = c.self.inside.words.items; board = c.self.inside.board } in
    let whole = all_parts w c.as_slice-pes.result.now c.as_slice-queues.result.now c.as_slice-pes.ensures.value c.as_slice-queues.ensures.value c.self.invariant.3 in
    record { few = omega (arith, whole, c.posted_by-posted.ensures.value) }

pub queued_in-requires : goal.queued_in-requires
queued_in-requires g c =
    let w : WorldView g.row.C.Denot g.row.A.Denot = record
    { pes = c.self.inside.pes.items; queues = c.self.inside.queues.items; words = c.self.inside.words.items; board = c.self.inside.board } in
    let whole = all_parts w c.as_slice-pes.result.now c.as_slice-queues.result.now c.as_slice-pes.ensures.value c.as_slice-queues.ensures.value c.self.invariant.3 in
    record { few = omega (arith, whole, c.posted_by-posted.ensures.value) }

pub overflow_add-held : goal.overflow_add-held
overflow_add-held g c =
    let w : WorldView g.row.C.Denot g.row.A.Denot = record
    { pes = c.self.inside.pes.items; queues = c.self.inside.queues.items; words = c.self.inside.words.items; board = c.self.inside.board } in
    let whole = all_parts w c.as_slice-pes.result.now c.as_slice-queues.result.now c.as_slice-pes.ensures.value c.as_slice-queues.ensures.value c.self.invariant.3 in
    omega (arith, whole, c.posted_by-posted.ensures.value, c.held_by.ensures.value, c.queued_in.ensures.value)

pub overflow_sub-result : goal.overflow_sub-result
overflow_sub-result g c =
    let w : WorldView g.row.C.Denot g.row.A.Denot = record
    { pes = c.self.inside.pes.items; queues = c.self.inside.queues.items; words = c.self.inside.words.items; board = c.self.inside.board } in
    let whole = all_parts w c.as_slice-pes.result.now c.as_slice-queues.result.now c.as_slice-pes.ensures.value c.as_slice-queues.ensures.value c.self.invariant.3 in
    omega (arith, whole, c.posted_by-posted.ensures.value, c.held_by.ensures.value, c.queued_in.ensures.value)

pub returns-clause-posted : goal.returns-clause-posted
returns-clause-posted g c =
    let w : WorldView g.row.C.Denot g.row.A.Denot = record
    { pes = c.self.inside.pes.items; queues = c.self.inside.queues.items; words = c.self.inside.words.items; board = c.self.inside.board } in
    rw (← c.self.view_is) (c.posted_by-posted.ensures.value
    ∙ posted_parts w c.as_slice-pes.result.now c.as_slice-queues.result.now c.as_slice-pes.ensures.value c.as_slice-queues.ensures.value)

pub returns-clause-executed : goal.returns-clause-executed
returns-clause-executed g c =
    let w : WorldView g.row.C.Denot g.row.A.Denot = record
    { pes = c.self.inside.pes.items; queues = c.self.inside.queues.items; words = c.self.inside.words.items; board = c.self.inside.board } in
    let whole = all_parts w c.as_slice-pes.result.now c.as_slice-queues.result.now c.as_slice-pes.ensures.value c.as_slice-queues.ensures.value c.self.invariant.3 in
    rw (← c.self.view_is) (omega (arith, whole, c.posted_by-posted.ensures.value, c.held_by.ensures.value, c.queued_in.ensures.value))

pub returns-clause-held : goal.returns-clause-held
returns-clause-held g c =
    let w : WorldView g.row.C.Denot g.row.A.Denot = record
    { pes = c.self.inside.pes.items; queues = c.self.inside.queues.items; words = c.self.inside.words.items; board = c.self.inside.board } in
    let parts = held_parts w c.as_slice-pes.result.now c.as_slice-queues.result.now c.as_slice-pes.ensures.value c.as_slice-queues.ensures.value in
    rw (← c.self.view_is) (omega (arith, parts, c.held_by.ensures.value, c.queued_in.ensures.value))

pub returns-clause-balanced : goal.returns-clause-balanced
returns-clause-balanced g c =
    let w : WorldView g.row.C.Denot g.row.A.Denot = record
    { pes = c.self.inside.pes.items; queues = c.self.inside.queues.items; words = c.self.inside.words.items; board = c.self.inside.board } in
    let whole = all_parts w c.as_slice-pes.result.now c.as_slice-queues.result.now c.as_slice-pes.ensures.value c.as_slice-queues.ensures.value c.self.invariant.3 in
    omega (arith, whole, c.posted_by-posted.ensures.value, c.held_by.ensures.value, c.queued_in.ensures.value)
