use Rattle.lb_replay.specs.CommandLine.{both_line}
use Rattle.program_words.proofs.Tellings.{at_most_written}
use Rattle.lb_replay.proofs.words.refuse_both.Goals as goal

pub returns-clause-told : goal.returns-clause-told
returns-clause-told g c =
    at_most_written c.write_out-told.result (g.W.Write.contents c.args.writer.now) (g.W.Write.contents c.write_out-told.new.writer)
    (both_line c.args.clash) (rw (c.as_bytes.ensures.value, c.line_of.ensures) at c.write_out-told.ensures.written)
