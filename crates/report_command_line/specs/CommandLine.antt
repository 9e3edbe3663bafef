-- What clap reads from the arguments of a command line: `lb_report [--procs P[,P..]] [--tolerance T] [--csv] [--moves] FILE..`.
use Rattle.std.specs.Prelude.{◌≡◌, List, [], Option, Some, codes, true, unwrap_or}
use Rattle.clap.specs.Words.{App, Rule, Text, all_of, first_of, matches_of, new_rule, one_of, with_rule}
use Rattle.clap.specs.declared.builder.action.ArgAction.TheVariants.{Append}
use Rattle.program_words.specs.Arguments.{flag_rule, tolerance_rule, versioned, word_rule}

-- the dumps, of which at least one has to be named
abbrev pub files_rule : Rule
files_rule = record (new_rule (codes "file")) {
  action = Some Append;
  value_names = 1;
  required = true;
}

-- the numbers of PEs to plan for
abbrev pub procs_rule : Rule
procs_rule = word_rule (codes "procs")

-- two flags, which take no value
abbrev pub csv_rule : Rule
csv_rule = flag_rule (codes "csv")

abbrev pub moves_rule : Rule
moves_rule = flag_rule (codes "moves")

-- the program with its arguments, to which clap adds those that ask for help and for the version
abbrev pub program : App
program =
    with_rule (with_rule (with_rule (with_rule (with_rule (versioned (codes "lb_report")) files_rule) procs_rule) tolerance_rule) csv_rule) moves_rule

-- the arguments that name the dumps
abbrev pub files_in : List Text → List Text
files_in words = unwrap_or (all_of (codes "file") (matches_of program words)) []

-- the argument with the numbers of PEs
abbrev pub procs_in : List Text → Option Text
procs_in words = first_of (codes "procs") (matches_of program words)

-- the argument with the tolerance
abbrev pub tolerance_in : List Text → Option Text
tolerance_in words = one_of (codes "tolerance") (matches_of program words)

-- the arguments have this flag, which clap reads as the text `true`, and a flag that is not there as `false`
abbrev pub AsksCsv : List Text → Type 0
AsksCsv words = one_of (codes "csv") (matches_of program words) ≡ Some (codes "true")

abbrev pub AsksMoves : List Text → Type 0
AsksMoves words = one_of (codes "moves") (matches_of program words) ≡ Some (codes "true")
