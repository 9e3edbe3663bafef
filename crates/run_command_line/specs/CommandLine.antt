-- What clap reads from the arguments of a command line: `charm_run [--dump PREFIX] [--lbd1] [--progress] [--tolerance T]
-- [--seed S] [--seeds N] [--events FILE] [--replay FILE] [--trace FILE] [--no-journal] [--checkpoint CHECKPOINT] [--every K]
-- [--restart] [--procs P] FILE`.
use Rattle.std.specs.Prelude.{ℕ, ◌≡◌, ◌≤◌, List, [], ◌∷◌, ◌++◌, Option, None, Some, codes, pos, true}
use Rattle.std.specs.Str.Parse.{IsNumeral, digits_value, without_leading_plus}
use Rattle.clap.specs.Words.{App, Rule, Text, first_of, matches_of, one_of, with_rule}
use Rattle.clap.specs.declared.builder.value_parser.ValueParser.TheVariants.{Signed, Unsigned}
use Rattle.program_words.specs.Arguments.{file_rule, flag_rule, tolerance_rule, versioned, word_rule}
use Rattle.run_command_line.specs.declared.request.Clash.{Clash}
use Rattle.run_command_line.specs.declared.request.Clash.TheVariants.{SeedAndSeeds, SeedAndReplay, SeedsAndReplay, EventsWithoutSeed, SeedsAndDump, SeedsAndTrace, NoJournalOnOneThread}
use Rattle.run_command_line.specs.declared.request.Clash.TheVariants.{CheckpointOnOneThread, RestartOnOneThread, CheckpointAndDump, CheckpointAndLbd1, CheckpointAndTrace}
use Rattle.run_command_line.specs.declared.request.Clash.TheVariants.{RestartAndDump, RestartAndLbd1, RestartAndTrace, EveryWithoutCheckpoint, ProcsWithoutRestart}

-- the prefix of the names of the files that the dumps go to
abbrev pub dump_rule : Rule
dump_rule = word_rule (codes "dump")

-- two flags, which take no value
abbrev pub lbd1_rule : Rule
lbd1_rule = flag_rule (codes "lbd1")

abbrev pub progress_rule : Rule
progress_rule = flag_rule (codes "progress")

-- the seed of a run on one thread
abbrev pub seed_rule : Rule
seed_rule = record (word_rule (codes "seed")) { parser = Some (Unsigned 0 18446744073709551615) }

-- how many seeds are run
abbrev pub seeds_rule : Rule
seeds_rule = record (word_rule (codes "seeds")) { parser = Some (Signed (pos 1) (pos 1000000)) }

-- the file that a list of events goes to, the file that has one, and the file that a trace goes to
abbrev pub events_rule : Rule
events_rule = word_rule (codes "events")

abbrev pub replay_rule : Rule
replay_rule = word_rule (codes "replay")

abbrev pub trace_rule : Rule
trace_rule = word_rule (codes "trace")

-- a flag
abbrev pub no_journal_rule : Rule
no_journal_rule = flag_rule (codes "no-journal")

-- the file that checkpoints go to, and after how many rounds one is written
abbrev pub checkpoint_rule : Rule
checkpoint_rule = word_rule (codes "checkpoint")

abbrev pub every_rule : Rule
every_rule = record (word_rule (codes "every")) { parser = Some (Signed (pos 1) (pos 1000)) }

-- a flag, and the number of PEs of a run that goes on
abbrev pub restart_rule : Rule
restart_rule = flag_rule (codes "restart")

abbrev pub procs_rule : Rule
procs_rule = record (word_rule (codes "procs")) { parser = Some (Signed (pos 1) (pos 256)) }

-- with the arguments for checkpoints
abbrev pub with_checkpoints : App → App
with_checkpoints app = with_rule (with_rule (with_rule (with_rule app checkpoint_rule) every_rule) restart_rule) procs_rule

-- with the arguments for runs on one thread
abbrev pub with_schedules : App → App
with_schedules app =
    with_rule (with_rule (with_rule (with_rule (with_rule app seed_rule) seeds_rule) events_rule) replay_rule) trace_rule

-- the program with its arguments, to which clap adds those that ask for help and for the version
abbrev pub program : App
program = with_checkpoints (with_rule (with_schedules (with_rule (with_rule
    (with_rule (with_rule (with_rule (versioned (codes "charm_run")) file_rule) dump_rule) lbd1_rule) progress_rule) tolerance_rule)) no_journal_rule)

-- the argument that names the file
abbrev pub file_in : List Text → Option Text
file_in words = first_of (codes "file") (matches_of program words)

-- the argument that says where the dumps go
abbrev pub dump_in : List Text → Option Text
dump_in words = first_of (codes "dump") (matches_of program words)

-- the argument that says how great the tolerance is
abbrev pub tolerance_in : List Text → Option Text
tolerance_in words = one_of (codes "tolerance") (matches_of program words)

-- the arguments that give the seed, and the number of seeds
abbrev pub seed_in : List Text → Option Text
seed_in words = one_of (codes "seed") (matches_of program words)

abbrev pub seeds_in : List Text → Option Text
seeds_in words = one_of (codes "seeds") (matches_of program words)

-- the arguments that name these three files
abbrev pub events_in : List Text → Option Text
events_in words = first_of (codes "events") (matches_of program words)

abbrev pub replay_in : List Text → Option Text
replay_in words = first_of (codes "replay") (matches_of program words)

abbrev pub trace_in : List Text → Option Text
trace_in words = first_of (codes "trace") (matches_of program words)

-- the argument that names the file for checkpoints
abbrev pub checkpoint_in : List Text → Option Text
checkpoint_in words = first_of (codes "checkpoint") (matches_of program words)

-- the arguments that give a number of rounds, and a number of PEs
abbrev pub every_in : List Text → Option Text
every_in words = one_of (codes "every") (matches_of program words)

abbrev pub procs_in : List Text → Option Text
procs_in words = one_of (codes "procs") (matches_of program words)

-- the argument spells a seed
abbrev pub SpellsSeed : Option Text → ℕ → Type 0
SpellsSeed None n = ⊥
SpellsSeed (Some word) n = IsNumeral 10 (without_leading_plus word) × (n ≡ digits_value 10 (without_leading_plus word)) × (n ≤ 18446744073709551615)

-- the argument spells a number of seeds within its limits
abbrev pub SpellsSeeds : Option Text → ℕ → Type 0
SpellsSeeds None n = ⊥
SpellsSeeds (Some word) n = IsNumeral 10 (without_leading_plus word) × (n ≡ digits_value 10 (without_leading_plus word)) × (1 ≤ n) × (n ≤ 1000000)

-- the argument spells a number of rounds within its limits
abbrev pub SpellsEvery : Option Text → ℕ → Type 0
SpellsEvery None n = ⊥
SpellsEvery (Some word) n = IsNumeral 10 (without_leading_plus word) × (n ≡ digits_value 10 (without_leading_plus word)) × (1 ≤ n) × (n ≤ 1000)

-- the argument spells a number of PEs within its limits
abbrev pub SpellsProcs : Option Text → ℕ → Type 0
SpellsProcs None n = ⊥
SpellsProcs (Some word) n = IsNumeral 10 (without_leading_plus word) × (n ≡ digits_value 10 (without_leading_plus word)) × (1 ≤ n) × (n ≤ 256)

-- the arguments have this flag, which clap reads as the text `true`, and a flag that is not there as `false`
abbrev pub AsksLbd1 : List Text → Type 0
AsksLbd1 words = one_of (codes "lbd1") (matches_of program words) ≡ Some (codes "true")

abbrev pub TellsProgress : List Text → Type 0
TellsProgress words = one_of (codes "progress") (matches_of program words) ≡ Some (codes "true")

abbrev pub DropsJournal : List Text → Type 0
DropsJournal words = one_of (codes "no-journal") (matches_of program words) ≡ Some (codes "true")

abbrev pub AsksRestart : List Text → Type 0
AsksRestart words = one_of (codes "restart") (matches_of program words) ≡ Some (codes "true")

-- the line for options that do not go together, or of which one is missing
abbrev pub clash_line : Clash → List ℕ
clash_line SeedAndSeeds = codes "charm_run: --seed and --seeds: give --seed S for one run, or --seeds N for many" ++ 10 ∷ []
clash_line SeedAndReplay = codes "charm_run: --seed and --replay: the seed or the list decides the order of events; leave one out" ++ 10 ∷ []
clash_line SeedsAndReplay = codes "charm_run: --seeds and --replay: the seeds or the list decide the order of events; leave one out" ++ 10 ∷ []
clash_line EventsWithoutSeed = codes "charm_run: --events without --seed: add --seed S, for the run that the list is of" ++ 10 ∷ []
clash_line SeedsAndDump = codes "charm_run: --seeds and --dump: dumps are of one run; give --seed S in place of --seeds" ++ 10 ∷ []
clash_line SeedsAndTrace = codes "charm_run: --seeds and --trace: a trace is of one run; give --seed S in place of --seeds" ++ 10 ∷ []
clash_line NoJournalOnOneThread = codes "charm_run: --no-journal with --seed, --seeds or --replay: a run on one thread keeps its journal; leave --no-journal out" ++ 10 ∷ []
clash_line CheckpointOnOneThread = codes "charm_run: --checkpoint with --seed, --seeds or --replay: only a run over threads keeps checkpoints; leave one out" ++ 10 ∷ []
clash_line RestartOnOneThread = codes "charm_run: --restart with --seed, --seeds or --replay: a run goes on over threads; leave the other out" ++ 10 ∷ []
clash_line CheckpointAndDump = codes "charm_run: --checkpoint and --dump: a run that keeps checkpoints writes no dumps; leave one out" ++ 10 ∷ []
clash_line CheckpointAndLbd1 = codes "charm_run: --checkpoint and --lbd1: a run that keeps checkpoints writes no dumps; leave --lbd1 out" ++ 10 ∷ []
clash_line CheckpointAndTrace = codes "charm_run: --checkpoint and --trace: a run that keeps checkpoints writes no trace; leave one out" ++ 10 ∷ []
clash_line RestartAndDump = codes "charm_run: --restart and --dump: a run that goes on writes no dumps; leave --dump out" ++ 10 ∷ []
clash_line RestartAndLbd1 = codes "charm_run: --restart and --lbd1: a run that goes on writes no dumps; leave --lbd1 out" ++ 10 ∷ []
clash_line RestartAndTrace = codes "charm_run: --restart and --trace: a run that goes on writes no trace; leave --trace out" ++ 10 ∷ []
clash_line EveryWithoutCheckpoint = codes "charm_run: --every without --checkpoint: add --checkpoint FILE, or leave --every out" ++ 10 ∷ []
clash_line ProcsWithoutRestart = codes "charm_run: --procs without --restart: a workload has its own number of PEs; leave --procs out, or go on from a checkpoint with --restart" ++ 10 ∷ []
