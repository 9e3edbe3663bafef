use Rattle.std.proofs.Common.{ap, sym}
use Rattle.pe_state.proofs.Lending.{outbox_after, count_after, reports_after, place_after, same_outbox as outbox_kept, same_count as count_kept, same_trace as reports_kept}
use Rattle.pe_state.proofs.lent.resume.Goals as goal

pub returns-clause-room : goal.returns-clause-room
returns-clause-room g c =
    let all = ap (λ p. p.n) c.lend-sends.ensures.value in
    rw (← all) c.resume-handled.ensures.room

pub returns-clause-note : goal.returns-clause-note
returns-clause-note g c =
    let all = ap (λ p. p.n) c.lend-sends.ensures.value in
    rw (← all) c.resume-handled.ensures.note

pub returns-clause-outbox : goal.returns-clause-outbox
returns-clause-outbox g c =
    let all = ap (λ p. p.n) c.lend-sends.ensures.value in
    rw c.put_back.ensures.back (rw (← all) (outbox_after _ _ _ _ _ _ _ _ _ c.lend-sends.ensures.value _ _ _ _
    c.give_back-posted.ensures.outbox (ap (λ d. d.items) c.replace-lent.ensures.value) c.resume-handled.ensures.sends))

pub returns-clause-count : goal.returns-clause-count
returns-clause-count g c =
    let all = ap (λ p. p.n) c.lend-sends.ensures.value in
    rw (← all) (count_after _ _ _ _ _ _ _ _ _ c.lend-sends.ensures.value _ _ _ c.give_back-posted.ensures.count c.resume-handled.ensures.sends)

pub returns-clause-traces : goal.returns-clause-traces
returns-clause-traces g c =
    let all = ap (λ p. p.n) c.lend-sends.ensures.value in
    rw c.put_back-2.ensures.back (record {
      ok = rw (← all) (reports_after _ _ _ _ _ _ _ _ _ c.lend-sends.ensures.value _ _ _ _ c.give_back-posted.ensures.trace
          (ap (λ d. d.items) c.replace-entries.ensures.value) c.resume-handled.ensures.sends);
      err = reports_kept _ _ _ _ _ _ _ _ _ c.lend-sends.ensures.value _ _ c.give_back-posted.ensures.trace
          (ap (λ d. d.items) c.replace-entries.ensures.value) c.resume-handled.ensures.taken_back;
    })

pub returns-clause-numbered : goal.returns-clause-numbered
returns-clause-numbered g c = rw c.give_back-posted.ensures.count c.give_back-posted.ensures.few

pub returns-clause-place : goal.returns-clause-place
returns-clause-place g c =
    rw c.put_back.ensures.back (c.give_back-posted.ensures.spare_place
    (place_after _ _ _ _ _ _ _ _ _ c.lend-sends.ensures.value _ _ c.resume-handled.ensures.sends c.resume-handled.ensures.taken_back))

pub returns-clause-same_room : goal.returns-clause-same_room
returns-clause-same_room g c = c.resume-handled.ensures.err

pub returns-clause-same_outbox : goal.returns-clause-same_outbox
returns-clause-same_outbox g c =
    rw c.put_back.ensures.back (outbox_kept _ _ _ _ _ _ _ _ _ c.lend-sends.ensures.value _ _ c.give_back-posted.ensures.outbox
    (ap (λ d. d.items) c.replace-lent.ensures.value) c.resume-handled.ensures.taken_back)

pub returns-clause-same_count : goal.returns-clause-same_count
returns-clause-same_count g c = count_kept _ _ _ _ _ _ _ _ _ c.lend-sends.ensures.value _ c.give_back-posted.ensures.count c.resume-handled.ensures.taken_back

pub returns-clause-refused : goal.returns-clause-refused
returns-clause-refused g c =
    let all = ap (λ p. p.n) c.lend-sends.ensures.value in
    rw (← all) (rw (sym (ap (λ s. s.count) c.lend-sends.ensures.value)) c.resume-handled.ensures.refused)
