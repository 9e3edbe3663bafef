use Rattle.std.proofs.lemmas.Result.{err_from_is_err_and}
use Rattle.event_lists.proofs.Texts.{refusal_again, refusal_first, no_fault, one_list}
use Rattle.event_lists.proofs.reader.read_events.Goals as goal

pub returns-in_err-read_onto-clause-again : goal.returns-in_err-read_onto-clause-again
returns-in_err-read_onto-clause-again g c =
    λ events is.
    let told = err_from_is_err_and c.from_residual.result c.from_residual.ensures.1 in
    rw (told.1, told.2) (refusal_again events c.args.bytes.now c.in_err-read_onto.field-0.0 c.in_err-read_onto.ensures is)

pub returns-in_err-read_onto-clause-first : goal.returns-in_err-read_onto-clause-first
returns-in_err-read_onto-clause-first g c =
    λ e fault.
    let told = err_from_is_err_and c.from_residual.result c.from_residual.ensures.1 in
    rw (told.1, told.2) (refusal_first c.args.bytes.now e c.in_err-read_onto.field-0.0 c.in_err-read_onto.ensures fault)

pub returns-clause-again : goal.returns-clause-again
returns-clause-again g c = λ events is. one_list c.read_onto.new.events.items events c.args.bytes.now c.in_ok-read_onto.ensures is

pub returns-clause-first : goal.returns-clause-first
returns-clause-first g c = λ e fault. no_fault c.read_onto.new.events.items c.args.bytes.now e c.in_ok-read_onto.ensures fault
