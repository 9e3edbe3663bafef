use Rattle.std.proofs.Common.{arith, ◌∙◌, ap, map}
use Rattle.rts_core.specs.Worlds.{WorldView}
use Rattle.run_account.specs.RunAccounts.{left_world}
use Rattle.rts_core.proofs.Counts.{held_parts, posted_parts, all_parts}
use Rattle.rts_run.proofs.outcome.Outcome.account.Goals as goal

pub held_by-requires : goal.held_by-requires
held_by-requires g c =
    let w : WorldView g.row.C.Denot (Unit {0}) = left_world c.self.inside.ends.items (map (λ q. q.items) c.self.inside.left.items) in
    let whole = all_parts w c.as_slice-ends.result.now (map (λ q. q.items) c.as_slice-left.result.now) c.as_slice-ends.ensures.value
    (ap (map (λ q. q.items)) c.as_slice-left.ensures.value) c.self.invariant.1 in
    record { few = omega (arith, whole, c.posted_by-posted.ensures.value) }

pub queued_in-requires : goal.queued_in-requires
queued_in-requires g c =
    let w : WorldView g.row.C.Denot (Unit {0}) = left_world c.self.inside.ends.items (map (λ q. q.items) c.self.inside.left.items) in
    let whole = all_parts w c.as_slice-ends.result.now (map (λ q. q.items) c.as_slice-left.result.now) c.as_slice-ends.ensures.value
    (ap (map (λ q. q.items)) c.as_slice-left.ensures.value) c.self.invariant.1 in
    record { few = omega (arith, whole, c.posted_by-posted.ensures.value) }

pub overflow_add-held : goal.overflow_add-held
overflow_add-held g c =
    let w : WorldView g.row.C.Denot (Unit {0}) = left_world c.self.inside.ends.items (map (λ q. q.items) c.self.inside.left.items) in
    let whole = all_parts w c.as_slice-ends.result.now (map (λ q. q.items) c.as_slice-left.result.now) c.as_slice-ends.ensures.value
    (ap (map (λ q. q.items)) c.as_slice-left.ensures.value) c.self.invariant.1 in
    omega (arith, whole, c.posted_by-posted.ensures.value, c.held_by.ensures.value, c.queued_in.ensures.value)

pub overflow_sub-result : goal.overflow_sub-result
overflow_sub-result g c =
    let w : WorldView g.row.C.Denot (Unit {0}) = left_world c.self.inside.ends.items (map (λ q. q.items) c.self.inside.left.items) in
    let whole = all_parts w c.as_slice-ends.result.now (map (λ q. q.items) c.as_slice-left.result.now) c.as_slice-ends.ensures.value
    (ap (map (λ q. q.items)) c.as_slice-left.ensures.value) c.self.invariant.1 in
    omega (arith, whole, c.posted_by-posted.ensures.value, c.held_by.ensures.value, c.queued_in.ensures.value)

pub returns-clause-posted : goal.returns-clause-posted
returns-clause-posted g c =
    let w : WorldView g.row.C.Denot (Unit {0}) = left_world c.self.inside.ends.items (map (λ q. q.items) c.self.inside.left.items) in
    rw (← c.self.view_is) (c.posted_by-posted.ensures.value
    ∙ posted_parts w c.as_slice-ends.result.now (map (λ q. q.items) c.as_slice-left.result.now) c.as_slice-ends.ensures.value
    (ap (map (λ q. q.items)) c.as_slice-left.ensures.value))

pub returns-clause-executed : goal.returns-clause-executed
returns-clause-executed g c =
    let w : WorldView g.row.C.Denot (Unit {0}) = left_world c.self.inside.ends.items (map (λ q. q.items) c.self.inside.left.items) in
    let whole = all_parts w c.as_slice-ends.result.now (map (λ q. q.items) c.as_slice-left.result.now) c.as_slice-ends.ensures.value
    (ap (map (λ q. q.items)) c.as_slice-left.ensures.value) c.self.invariant.1 in
    rw (← c.self.view_is) (omega (arith, whole, c.posted_by-posted.ensures.value, c.held_by.ensures.value, c.queued_in.ensures.value))

pub returns-clause-held : goal.returns-clause-held
returns-clause-held g c =
    let w : WorldView g.row.C.Denot (Unit {0}) = left_world c.self.inside.ends.items (map (λ q. q.items) c.self.inside.left.items) in
    let parts = held_parts w c.as_slice-ends.result.now (map (λ q. q.items) c.as_slice-left.result.now) c.as_slice-ends.ensures.value
    (ap (map (λ q. q.items)) c.as_slice-left.ensures.value) in
    rw (← c.self.view_is) (omega (arith, parts, c.held_by.ensures.value, c.queued_in.ensures.value))

pub returns-clause-balanced : goal.returns-clause-balanced
returns-clause-balanced g c =
    let w : WorldView g.row.C.Denot (Unit {0}) = left_world c.self.inside.ends.items (map (λ q. q.items) c.self.inside.left.items) in
    let whole = all_parts w c.as_slice-ends.result.now (map (λ q. q.items) c.as_slice-left.result.now) c.as_slice-ends.ensures.value
    (ap (map (λ q. q.items)) c.as_slice-left.ensures.value) c.self.invariant.1 in
    omega (arith, whole, c.posted_by-posted.ensures.value, c.held_by.ensures.value, c.queued_in.ensures.value)
