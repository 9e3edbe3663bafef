-- What a run begins from.
use Rattle.std.specs.Prelude.{ℕ, [], ◌==◌, if◌then◌else◌}
use Rattle.rts_core.specs.Worlds.{opening_words}
use Rattle.run_checkpoint.specs.Text.{CheckpointView}
use Rattle.workload.specs.Text.{WorkloadView}

-- before any round, with each chare on the PE on which a run opens it
abbrev pub opening_of : WorkloadView → CheckpointView
opening_of w = record { decided = []; places = opening_words w.chares w.pes; workload = w }

-- with each chare on the PE on which a run on this number of PEs opens it
abbrev pub moved_to : ℕ → CheckpointView → CheckpointView
moved_to pes c = record {
  decided = c.decided;
  places = opening_words c.workload.chares pes;
  workload = record c.workload { pes = pes };
}

-- on this number of PEs
abbrev pub begun_on : ℕ → CheckpointView → CheckpointView
begun_on pes c = if c.workload.pes == pes then c else moved_to pes c
