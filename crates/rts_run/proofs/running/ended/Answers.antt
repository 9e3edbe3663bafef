use Rattle.std.proofs.Common.{◌≡◌, ◌∙◌, Some, map, sym}
use Rattle.std.proofs.lemmas.Bool.{iff_false}
use Rattle.pe_worker.specs.declared.fault.Fault.TheVariants.{Mismatch, Quiet}
use Rattle.round_marks.proofs.Agreed.{all_marked}
use Rattle.rts_run.proofs.Faults.{ends_idle, no_unpack, no_mismatch}
use Rattle.rts_run.proofs.running.ended.Goals as goal

pub returns-then-run_agrees-clause-marks : goal.returns-then-run_agrees-clause-marks
returns-then-run_agrees-clause-marks g c = λ _. rw c.new.ensures.board
    (rw c.new.ensures.homes (rw c.new.ensures.ends (rw c.new.ensures.left (rw (← c.deref.ensures.value)
    (rw (← c.deref-2.ensures.value) (rw (← c.deref-3.ensures.value) (c.run_agrees.ensures.agree.0 c.if-run_agrees.true)))))))

pub returns-then-run_agrees-clause-mismatch : goal.returns-then-run_agrees-clause-mismatch
returns-then-run_agrees-clause-mismatch g c = λ is. absurd
    (no_mismatch g.C.Chare.step g.C.Pup.fits g.C.Pup.pack g.C.Chare.refuses g.H.Openings.opened c.fault_at_end-fault.result
    c.fault_at_end-fault.ensures.cause (sym c.new.ensures.fault ∙ is))

pub returns-then-run_agrees-clause-unpacks : goal.returns-then-run_agrees-clause-unpacks
returns-then-run_agrees-clause-unpacks g c = λ is. no_unpack g.C.Chare.step g.C.Pup.fits g.C.Pup.pack g.C.Chare.refuses g.H.Openings.opened
    c.fault_at_end-fault.result c.fault_at_end-fault.ensures.cause (sym c.new.ensures.fault ∙ is)

pub returns-then-run_agrees-clause-cause : goal.returns-then-run_agrees-clause-cause
returns-then-run_agrees-clause-cause g c = λ _. rw c.new.ensures.fault c.fault_at_end-fault.ensures.cause

pub returns-then-run_agrees-clause-lowest : goal.returns-then-run_agrees-clause-lowest
returns-then-run_agrees-clause-lowest g c = λ _. rw c.new.ensures.fault c.fault_at_end-fault.ensures.met

pub returns-then-run_agrees-clause-finished : goal.returns-then-run_agrees-clause-finished
returns-then-run_agrees-clause-finished g c = λ none. rw c.new.ensures.board
    ((c.all_finished-finished.ensures.value.0 (c.fault_at_end-fault.ensures.finished (sym c.new.ensures.fault ∙ none))).0)

pub returns-then-run_agrees-clause-all_finished : goal.returns-then-run_agrees-clause-all_finished
returns-then-run_agrees-clause-all_finished g c =
    λ none.
    rw c.new.ensures.ends (rw c.new.ensures.left (rw (← c.deref-then-run_agrees.ensures.value)
    (rw (← c.deref-then-run_agrees-2.ensures.value) ((c.all_finished-finished.ensures.value.0
    (c.fault_at_end-fault.ensures.finished (sym c.new.ensures.fault ∙ none))).1))))

pub returns-then-run_agrees-clause-stopped : goal.returns-then-run_agrees-clause-stopped
returns-then-run_agrees-clause-stopped g c =
    λ is both.
    c.fault_at_end-fault.ensures.stopped (sym c.new.ensures.fault ∙ is)
    (c.all_finished-finished.ensures.value.1 (
      rw c.new.ensures.board at both.0,
      rw (c.deref-then-run_agrees.ensures.value) (rw (c.deref-then-run_agrees-2.ensures.value) (rw (c.new.ensures.ends, c.new.ensures.left) at both.1)),
    ))

pub returns-then-run_agrees-clause-unfinished : goal.returns-then-run_agrees-clause-unfinished
returns-then-run_agrees-clause-unfinished g c =
    λ is.
    rw c.new.ensures.ends (rw c.new.ensures.left
    (rw (← c.deref-then-run_agrees-3.ensures.value) (rw (← c.deref-then-run_agrees-4.ensures.value)
    (c.is_quiet-quiet.ensures.unfinished (c.fault_at_end-fault.ensures.quiet (sym c.new.ensures.fault ∙ is))))))

pub returns-then-run_agrees-clause-quiet : goal.returns-then-run_agrees-clause-quiet
returns-then-run_agrees-clause-quiet g c =
    λ is.
    rw c.new.ensures.board (rw c.new.ensures.ends (rw c.new.ensures.left
    (rw (← c.deref-then-run_agrees-3.ensures.value) (rw (← c.deref-then-run_agrees-4.ensures.value)
    (c.is_quiet-quiet.ensures.quiet (c.fault_at_end-fault.ensures.quiet (sym c.new.ensures.fault ∙ is)))))))

pub returns-clause-mismatch : goal.returns-clause-mismatch
returns-clause-mismatch g c = λ _ agree. iff_false c.run_agrees.ensures.agree c.if-run_agrees.false
    (rw c.deref.ensures.value (rw c.deref-2.ensures.value (rw c.deref-3.ensures.value
    (all_marked g.C.Chare.step g.C.Pup.fits g.C.Pup.pack g.H.Openings.opened c.args.board c.args.homes.items c.requires.elements c.args.ends.items
    (map (λ q. q.items) c.args.left.items) c.requires.histories.pes c.requires.histories.queues
    (rw (← c.new-2.ensures.left) (rw (← c.new-2.ensures.ends) (rw (← c.new-2.ensures.homes) (rw (← c.new-2.ensures.board) agree))))))))

pub returns-then-run_agrees-clause-idle : goal.returns-then-run_agrees-clause-idle
returns-then-run_agrees-clause-idle g c = ends_idle c.args.idle c.new.result
    (λ is. c.is_quiet-quiet.ensures.asked (c.fault_at_end-fault.ensures.quiet (sym c.new.ensures.fault ∙ is)))

pub returns-clause-idle : goal.returns-clause-idle
returns-clause-idle g c = ends_idle c.args.idle c.new-2.result (λ is. absurd (let other : Some Mismatch ≡ Some Quiet = sym c.new-2.ensures.fault ∙ is in cc))
