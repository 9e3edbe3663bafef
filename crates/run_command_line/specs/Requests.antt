-- How the arguments of a command line ask for the run of a workload, and which options do not go together.
use Rattle.std.specs.Borrow.{Bor}
use Rattle.std.specs.Prelude.{ℕ, List, Option, None, Some, Result, Ok, Err, Bool, true, false}
use Rattle.std.specs.Option.{option_or}
use Rattle.run_command_line.specs.declared.request.CharmRunOptions.{CharmRunOptions}
use Rattle.run_command_line.specs.declared.request.Clash.{Clash}
use Rattle.run_command_line.specs.declared.request.Clash.TheVariants.{SeedAndSeeds, SeedAndReplay, SeedsAndReplay, EventsWithoutSeed, SeedsAndDump, SeedsAndTrace, NoJournalOnOneThread}
use Rattle.run_command_line.specs.declared.request.Clash.TheVariants.{CheckpointOnOneThread, RestartOnOneThread, CheckpointAndDump, CheckpointAndLbd1, CheckpointAndTrace}
use Rattle.run_command_line.specs.declared.request.Clash.TheVariants.{RestartAndDump, RestartAndLbd1, RestartAndTrace, EveryWithoutCheckpoint, ProcsWithoutRestart}
use Rattle.run_command_line.specs.declared.request.Task.{Task}
use Rattle.run_command_line.specs.declared.request.Task.TheVariants.{Threads, Seed, Seeds, Replay}

-- the name of a file, where one is given
abbrev pub Named : Type 0
Named = Option (Bor (List ℕ))

-- a seed, many seeds and a list of events are three ways, of which at most one is asked for; without any there are threads
abbrev pub way_of : Option ℕ → Option ℕ → Named → Result Task Clash
way_of None None None = Ok Threads
way_of (Some seed) None None = Ok (Seed seed)
way_of None (Some seeds) None = Ok (Seeds seeds)
way_of None None (Some replay) = Ok (Replay replay)
way_of (Some seed) (Some seeds) replay = Err SeedAndSeeds
way_of (Some seed) None (Some replay) = Err SeedAndReplay
way_of None (Some seeds) (Some replay) = Err SeedsAndReplay

-- a run over threads has no list of events, and of a list that is repeated none is written
abbrev pub clash_without_seed : Named → Option Clash
clash_without_seed (Some events) = Some EventsWithoutSeed
clash_without_seed None = None

-- of runs by many seeds no list, no dumps and no trace are written
abbrev pub clash_with_seeds : Named → Named → Named → Option Clash
clash_with_seeds (Some events) dump trace = Some EventsWithoutSeed
clash_with_seeds None (Some dump) trace = Some SeedsAndDump
clash_with_seeds None None (Some trace) = Some SeedsAndTrace
clash_with_seeds None None None = None

-- a run on one thread keeps what its elements have handled
abbrev pub clash_of_journal : Bool → Option Clash
clash_of_journal true = Some NoJournalOnOneThread
clash_of_journal false = None

-- a run on one thread writes no checkpoints, and goes on from none
abbrev pub clash_of_kept : Named → Bool → Option Clash
clash_of_kept (Some checkpoint) restart = Some CheckpointOnOneThread
clash_of_kept None true = Some RestartOnOneThread
clash_of_kept None false = None

-- of a run that writes checkpoints no dumps and no trace are written
abbrev pub clash_of_checkpoint : Named → Named → Bool → Named → Option Clash
clash_of_checkpoint None dump lbd1 trace = None
clash_of_checkpoint (Some checkpoint) (Some dump) lbd1 trace = Some CheckpointAndDump
clash_of_checkpoint (Some checkpoint) None true trace = Some CheckpointAndLbd1
clash_of_checkpoint (Some checkpoint) None false (Some trace) = Some CheckpointAndTrace
clash_of_checkpoint (Some checkpoint) None false None = None

-- nor of one that goes on from a checkpoint
abbrev pub clash_of_restart : Bool → Named → Bool → Named → Option Clash
clash_of_restart false dump lbd1 trace = None
clash_of_restart true (Some dump) lbd1 trace = Some RestartAndDump
clash_of_restart true None true trace = Some RestartAndLbd1
clash_of_restart true None false (Some trace) = Some RestartAndTrace
clash_of_restart true None false None = None

-- after how many rounds a checkpoint is written says nothing where none is
abbrev pub clash_of_every : Named → Option ℕ → Option Clash
clash_of_every None (Some every) = Some EveryWithoutCheckpoint
clash_of_every checkpoint every = None

-- nor how many PEs there are to be where the file is a workload, which has their number
abbrev pub clash_of_procs : Bool → Option ℕ → Option Clash
clash_of_procs false (Some procs) = Some ProcsWithoutRestart
clash_of_procs restart procs = None

-- the first clash of the options for checkpoints with others
abbrev pub clash_of_checkpoints : CharmRunOptions → Option Clash
clash_of_checkpoints asked =
    option_or (option_or (option_or (clash_of_checkpoint asked.checkpoint asked.dump asked.lbd1 asked.trace)
    (clash_of_restart asked.restart asked.dump asked.lbd1 asked.trace)) (clash_of_every asked.checkpoint asked.every)) (clash_of_procs asked.restart asked.procs)

-- the first option that does not go with a run on one thread
abbrev pub clash_on_one_thread : CharmRunOptions → Option Clash
clash_on_one_thread asked =
    option_or (option_or (clash_of_journal asked.no_journal) (clash_of_kept asked.checkpoint asked.restart)) (clash_of_checkpoints asked)

-- the first option that does not go with a task
abbrev pub clash_with : CharmRunOptions → Task → Option Clash
clash_with asked Threads = option_or (clash_without_seed asked.events) (clash_of_checkpoints asked)
clash_with asked (Seed seed) = clash_on_one_thread asked
clash_with asked (Seeds seeds) = option_or (clash_with_seeds asked.events asked.dump asked.trace) (clash_on_one_thread asked)
clash_with asked (Replay replay) = option_or (clash_without_seed asked.events) (clash_on_one_thread asked)

-- a task, where nothing that is asked for clashes with it
abbrev pub unless_clash : Task → Option Clash → Result Task Clash
unless_clash task None = Ok task
unless_clash task (Some clash) = Err clash

abbrev pub checked : CharmRunOptions → Result Task Clash → Result Task Clash
checked asked (Ok task) = unless_clash task (clash_with asked task)
checked asked (Err clash) = Err clash

-- how the chares are run, or which options do not go together
abbrev pub task_of : CharmRunOptions → Result Task Clash
task_of asked = checked asked (way_of asked.seed asked.seeds asked.replay)
