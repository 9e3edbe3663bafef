-- What the programs have in common: how their arguments are declared, and what clap reads from them.
use Rattle.std.specs.Prelude.{◌≡◌, ◌≤◌, ℕ, [], Option, None, Some, codes, false, is_some, pos, true}
use Rattle.std.specs.Str.Parse.{IsNumeral, digits_value, without_leading_plus}
use Rattle.chain_refinement.specs.declared.tolerance.TheConstants.Tolerance.{MOST}
use Rattle.clap.specs.Built.{IsParsedFrom}
use Rattle.clap.specs.Words.{App, Rule, Text, app_of, args_of, first_value, found_of, groups_of, new_app, new_rule}
use Rattle.clap.specs.declared.builder.action.ArgAction.TheVariants.{Set, SetTrue}
use Rattle.clap.specs.declared.builder.command.Command.{Command}
use Rattle.clap.specs.declared.builder.command.Command.TheViews.{out-Command}
use Rattle.clap.specs.declared.builder.value_parser.ValueParser.TheVariants.{Signed}
use Rattle.clap.specs.declared.parser.matches.ArgMatches.{ArgMatches}

-- the program before its arguments are declared: it has a version
abbrev pub versioned : Text → App
versioned name = let plain = new_app name in record plain { top = record plain.top { has_version = true } }

-- the command of this name has its version, and no arguments yet
pub record IsBare (name : Text) (command : Command) : Type 0 where
  pub app : app_of command ≡ versioned name
  pub args : args_of command ≡ []
  pub groups : groups_of command ≡ []
  pub globals : (out-Command command).has_globals ≡ false
  pub negates : (out-Command command).subcommand_negates_reqs ≡ false

-- whatever arguments the command accepts, they name a file
abbrev pub NamesFile : Command → Type 0
NamesFile command = (m : ArgMatches) → IsParsedFrom command m → is_some (first_value (found_of m) (codes "file")) ≡ true

-- the name of an option: not empty, and not one that clap adds
abbrev pub IsOptionName : Text → Type 0
IsOptionName name = (name ≡ [] → ⊥) × (name ≡ codes "help" → ⊥) × (name ≡ codes "version" → ⊥)

-- a file, which has to be named
abbrev pub file_rule : Rule
file_rule = record (new_rule (codes "file")) {
  action = Some Set;
  value_names = 1;
  required = true;
}

-- an option that takes a value
abbrev pub word_rule : Text → Rule
word_rule name = record (new_rule name) {
  long = Some name;
  action = Some Set;
  value_names = 1;
}

-- a flag, which takes no value
abbrev pub flag_rule : Text → Rule
flag_rule name = record (new_rule name) { long = Some name; action = Some SetTrue }

-- a tolerance, in thousandths
abbrev pub tolerance_rule : Rule
tolerance_rule = record (word_rule (codes "tolerance")) { parser = Some (Signed (pos 0) (pos MOST)) }

-- the value spells a tolerance
abbrev pub SpellsTolerance : Option Text → ℕ → Type 0
SpellsTolerance None n = ⊥
SpellsTolerance (Some word) n = IsNumeral 10 (without_leading_plus word) × (n ≡ digits_value 10 (without_leading_plus word)) × (n ≤ MOST)
