use Rattle.std.proofs.Common.{rules, ◌∙◌}
use Rattle.rts_core.proofs.Steps.{resume_event_is}
use Rattle.rts_core.proofs.handlers.resume.Goals as goal

pub returns-clause-ok : goal.returns-clause-ok
returns-clause-ok g c =
    resume_event_is g.C.Chare.step g.C.Pup.pack c.args.p c.args.pe.now c.resume_traced.new.self c.args.board.now c.args.e _ _ _ c.of-2.result
    c.in-Some.ensures.value c.if-ne.ensures c.in_ok-resume_traced.ensures.ok (c.of-2.ensures.made ∙ c.in_ok-resume_traced.ensures.traces.ok) c.new-reports.ensures.items

pub returns-in_err-resume_traced-clause-refused : goal.returns-in_err-resume_traced-clause-refused
returns-in_err-resume_traced-clause-refused g c = search rules
