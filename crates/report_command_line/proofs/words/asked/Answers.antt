use Rattle.std.proofs.Common.{◌≡◌, ◌∙◌, refl, sym, true, Ok, Err, codes, Some, ap, []}
use Rattle.std.specs.Prelude.{unwrap_or}
use Rattle.clap.specs.Walk.{texts}
use Rattle.clap.specs.Words.{all_of, found_of, is_simple, is_simple_and_free}
use Rattle.clap.specs.declared.parser.matches.ArgMatches.{ArgMatches}
use Rattle.clap.proofs.OnLiterals.{clap_on_literals}
use Rattle.clap.proofs.WalkLemmas.{raw_values-rows}
use Rattle.program_words.proofs.Chains.{by_word, first_word, found_by, one_word, refused_by}
use Rattle.program_words.specs.Arguments.{SpellsTolerance}
use Rattle.report_command_line.specs.CommandLine.{program}
use Rattle.report_command_line.proofs.words.asked.Goals as goal

simple : is_simple program ≡ true
unfolding clap_on_literals
simple = refl

free : is_simple_and_free program ≡ true
unfolding clap_on_literals
free = refl

pub returns-in_ok-files-in-Ok-clause-files : goal.returns-in_ok-files-in-Ok-clause-files
returns-in_ok-files-in-Ok-clause-files c =
    let rows = found_by program _ (texts c.args.words.now) c.in-Ok.matches simple c.in_ok-command.ensures.program c.in-Ok.ensures.matches in
    let same = raw_values-rows (found_of c.in-Ok.matches) (codes "file") ∙ ap (all_of (codes "file")) rows in
    sym (ap (λ found. unwrap_or found []) same) ∙ c.in_ok-files-in-Ok.ensures ∙ c.found.ensures.files

pub returns-in_ok-files-in-Ok-clause-procs : goal.returns-in_ok-files-in-Ok-clause-procs
returns-in_ok-files-in-Ok-clause-procs c =
    let rows = found_by program _ (texts c.args.words.now) c.in-Ok.matches simple c.in_ok-command.ensures.program c.in-Ok.ensures.matches in
    sym (first_word program (texts c.args.words.now) c.in-Ok.matches (codes "procs") rows) ∙ c.found.ensures.procs

pub returns-in_ok-files-in-Ok-clause-tolerance : goal.returns-in_ok-files-in-Ok-clause-tolerance
returns-in_ok-files-in-Ok-clause-tolerance c n =
    let rows = found_by program _ (texts c.args.words.now) c.in-Ok.matches simple c.in_ok-command.ensures.program c.in-Ok.ensures.matches in
    by_word _ (λ word. SpellsTolerance word n) _ _ (one_word program (texts c.args.words.now) c.in-Ok.matches (codes "tolerance") rows) (c.found.ensures.tolerance n)

pub returns-in_ok-files-in-Ok-clause-csv : goal.returns-in_ok-files-in-Ok-clause-csv
returns-in_ok-files-in-Ok-clause-csv c =
    let rows = found_by program _ (texts c.args.words.now) c.in-Ok.matches simple c.in_ok-command.ensures.program c.in-Ok.ensures.matches in
    by_word _ (λ word. word ≡ Some (codes "true")) _ _ (one_word program (texts c.args.words.now) c.in-Ok.matches (codes "csv") rows) c.found.ensures.csv

pub returns-in_ok-files-in-Ok-clause-moves : goal.returns-in_ok-files-in-Ok-clause-moves
returns-in_ok-files-in-Ok-clause-moves c =
    let rows = found_by program _ (texts c.args.words.now) c.in-Ok.matches simple c.in_ok-command.ensures.program c.in-Ok.ensures.matches in
    by_word _ (λ word. word ≡ Some (codes "true")) _ _ (one_word program (texts c.args.words.now) c.in-Ok.matches (codes "moves") rows) c.found.ensures.moves

pub returns-in_ok-files-in-Ok-clause-faults : goal.returns-in_ok-files-in-Ok-clause-faults
returns-in_ok-files-in-Ok-clause-faults c =
    refused_by {T = ArgMatches} program _ (texts c.args.words.now) (Ok c.in-Ok.matches) free c.in_ok-command.ensures.program c.in-Ok.ensures.kinds

pub returns-in-Err-clause-faults : goal.returns-in-Err-clause-faults
returns-in-Err-clause-faults c =
    refused_by {T = ArgMatches} program _ (texts c.args.words.now) (Err c.in-Err.error) free c.in_ok-command.ensures.program c.in-Err.ensures.kinds
