use Rattle.dump_writing.specs.Narrow.{taken}
use Rattle.dump_writing.proofs.Narrowing.{put_same}
use Rattle.dump_writing.proofs.writing.write_to_logged.Goals as goal

pub returns-clause-written : goal.returns-clause-written
returns-clause-written g c =
    let it = c.in_ok-narrow.narrow in
    put_same (taken it.step it.procs it.loads.now it.sizes.now) c.args.snapshot.now (g.W.Write.contents c.args.writer.now)
    (g.W.Write.contents c.put_narrow.new.writer) c.put_narrow.result c.in_ok-narrow.ensures.value it.narrow c.put_narrow.ensures.written
