use Rattle.run_checkpoint.specs.Text.{checkpoint_text}
use Rattle.checkpointed_runs.proofs.Replacing.{replaces}
use Rattle.checkpointed_runs.proofs.files.replace.Goals as goal

-- src/files.rt:45:1
pub returns-in-Ok : goal.returns-in-Ok
returns-in-Ok g c = record {
  asked = replaces c.put_in_place.result
      (g.F.CheckpointFiles.asked c.args.files.now)
      (g.F.CheckpointFiles.asked c.create_beside.new.self)
      (g.F.CheckpointFiles.asked c.put_in_place.new.self)
      (g.F.File.Write.contents c.in_ok-file.file)
      (g.F.File.Write.contents c.fill.new.writer)
      c.args.name.now
      (checkpoint_text record { decided = c.args.decided.now; places = c.args.places.now; workload = c.args.workload.now })
      c.create_beside.ensures.asked
      c.in_ok-file.ensures.empty
      c.in-Ok.ensures.written
      c.put_in_place.ensures.asked;
}
