use Rattle.run_command_line.specs.CommandLine.{clash_line}
use Rattle.program_words.proofs.Tellings.{at_most_written}
use Rattle.run_command_line.proofs.words.refuse.Goals as goal

pub returns-clause-told : goal.returns-clause-told
returns-clause-told g c =
    at_most_written c.write_out-told.result (g.W.Write.contents c.args.writer.now) (g.W.Write.contents c.write_out-told.new.writer)
    (clash_line c.args.clash) (rw (c.as_bytes.ensures.value, c.line_of.ensures) at c.write_out-told.ensures.written)
