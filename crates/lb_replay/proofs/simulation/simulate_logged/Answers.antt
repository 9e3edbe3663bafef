use Rattle.lb_replay.proofs.Endings.{ends_fault, read_reported}
use Rattle.lb_replay.proofs.simulation.simulate_logged.Goals as goal

pub returns-in-Err : goal.returns-in-Err
returns-in-Err g c =
    record {
      ends = ends_fault g.row.A.Denot (g.R.Read.remaining c.args.reader.now) (g.R.Read.remaining c.replay.new.reader) c.args.procs
          c.args.way (g.W.Write.contents c.args.writer.now) (g.W.Write.contents c.report.new.writer) c.in-Err.fault c.report.result
          c.in-Err.ensures.fault c.report.ensures.reported;
      failed = λ is. c.in-Err.ensures.failed (read_reported (g.W.Write.contents c.args.writer.now) (g.W.Write.contents c.report.new.writer)
          c.in-Err.fault c.report.result c.report.ensures.reported is);
      unwritten = c.report.ensures.unwritten;
    }
