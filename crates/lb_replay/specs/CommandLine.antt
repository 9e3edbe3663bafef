-- What the arguments of a command line ask for, as clap reads them: `lb_sim [--procs P] [--tolerance T] [--keep-order]
-- [--any-order] [--check] FILE`.
use Rattle.std.specs.Prelude.{ℕ, ◌≡◌, ◌≤◌, List, [], ◌∷◌, ◌++◌, Option, None, Some, codes, pos}
use Rattle.std.specs.Str.Parse.{IsNumeral, digits_value, without_leading_plus}
use Rattle.clap.specs.Words.{App, Rule, Text, first_of, matches_of, one_of, with_rule}
use Rattle.clap.specs.declared.builder.value_parser.ValueParser.TheVariants.{Signed}
use Rattle.chare_index.specs.declared.limits.TheConstants.Limits.{PES}
use Rattle.lb_replay.specs.declared.request.Clash.{Clash}
use Rattle.lb_replay.specs.declared.request.Clash.TheVariants.{ProcsAndCheck, ToleranceAndCheck, KeepOrderAndCheck, KeepOrderAlone, AnyOrderAndCheck, AnyOrderAlone, KeepOrderAndAnyOrder}
use Rattle.program_words.specs.Arguments.{file_rule, flag_rule, tolerance_rule, versioned, word_rule}

-- a number of PEs in place of the dump's own
abbrev pub procs_rule : Rule
procs_rule = record (word_rule (codes "procs")) { parser = Some (Signed (pos 1) (pos PES)) }

-- a flag, which takes no value: the PEs are to keep their order
abbrev pub keep_order_rule : Rule
keep_order_rule = flag_rule (codes "keep-order")

-- another: the PEs may change their order
abbrev pub any_order_rule : Rule
any_order_rule = flag_rule (codes "any-order")

-- another: the decision in the dump is to be checked
abbrev pub check_rule : Rule
check_rule = flag_rule (codes "check")

-- the program with its arguments, to which clap adds those that ask for help and for the version
abbrev pub program : App
program =
    with_rule (with_rule (with_rule (with_rule (with_rule (with_rule (versioned (codes "lb_sim")) file_rule) procs_rule) tolerance_rule) keep_order_rule) any_order_rule) check_rule

-- the argument that names the file
abbrev pub file_in : List Text → Option Text
file_in words = first_of (codes "file") (matches_of program words)

-- the argument with the number of PEs
abbrev pub procs_in : List Text → Option Text
procs_in words = one_of (codes "procs") (matches_of program words)

-- the argument with the tolerance
abbrev pub tolerance_in : List Text → Option Text
tolerance_in words = one_of (codes "tolerance") (matches_of program words)

-- the argument spells a number of PEs within the limits
abbrev pub Spells : Option Text → ℕ → Type 0
Spells None n = ⊥
Spells (Some word) n = IsNumeral 10 (without_leading_plus word) × (n ≡ digits_value 10 (without_leading_plus word)) × (1 ≤ n) × (n ≤ PES)

-- the arguments have a flag, which clap reads as the text `true`, and a flag that is not there as `false`
abbrev pub AsksCheck : List Text → Type 0
AsksCheck words = one_of (codes "check") (matches_of program words) ≡ Some (codes "true")

abbrev pub AsksKeepOrder : List Text → Type 0
AsksKeepOrder words = one_of (codes "keep-order") (matches_of program words) ≡ Some (codes "true")

abbrev pub AsksAnyOrder : List Text → Type 0
AsksAnyOrder words = one_of (codes "any-order") (matches_of program words) ≡ Some (codes "true")

-- the line where a check is asked for, and also a number of PEs, a tolerance, an order that is kept or any order; or such an order
-- without a tolerance; or both with one
abbrev pub both_line : Clash → List ℕ
both_line ProcsAndCheck = codes "lb_sim: --procs and --check: a decision is checked for its own number of PEs; leave one out" ++ 10 ∷ []
both_line ToleranceAndCheck = codes "lb_sim: --tolerance and --check: a check decides nothing; leave one out" ++ 10 ∷ []
both_line KeepOrderAndCheck = codes "lb_sim: --keep-order and --check: a check decides nothing; leave one out" ++ 10 ∷ []
both_line KeepOrderAlone = codes "lb_sim: --keep-order without --tolerance: add --tolerance T, or leave --keep-order out" ++ 10 ∷ []
both_line AnyOrderAndCheck = codes "lb_sim: --any-order and --check: a check decides nothing; leave one out" ++ 10 ∷ []
both_line AnyOrderAlone = codes "lb_sim: --any-order without --tolerance: add --tolerance T, or leave --any-order out" ++ 10 ∷ []
both_line KeepOrderAndAnyOrder = codes "lb_sim: --keep-order and --any-order: the PEs keep their order, or may change it; leave one out" ++ 10 ∷ []
