use Rattle.std.proofs.Common.{◌≡◌, ◌∙◌, refl, sym, true, Ok, Err, codes, Some}
use Rattle.clap.specs.Walk.{texts}
use Rattle.clap.specs.Words.{is_simple, is_simple_and_free}
use Rattle.clap.specs.declared.parser.matches.ArgMatches.{ArgMatches}
use Rattle.clap.proofs.OnLiterals.{clap_on_literals}
use Rattle.program_words.proofs.Chains.{by_word, first_word, found_by, one_word, refused_by}
use Rattle.program_words.specs.Arguments.{SpellsTolerance}
use Rattle.lb_replay.specs.CommandLine.{Spells, program}
use Rattle.lb_replay.proofs.words.asked.Goals as goal

simple : is_simple program ≡ true
unfolding clap_on_literals
simple = refl

free : is_simple_and_free program ≡ true
unfolding clap_on_literals
free = refl

pub returns-in-Ok-clause-file : goal.returns-in-Ok-clause-file
returns-in-Ok-clause-file c =
    let rows = found_by program _ (texts c.args.words.now) c.in-Ok.matches simple c.in_ok-command.ensures.program c.in-Ok.ensures.matches in
    sym (first_word program (texts c.args.words.now) c.in-Ok.matches (codes "file") rows) ∙ c.found.ensures.file

pub returns-in-Ok-clause-procs : goal.returns-in-Ok-clause-procs
returns-in-Ok-clause-procs c n =
    let rows = found_by program _ (texts c.args.words.now) c.in-Ok.matches simple c.in_ok-command.ensures.program c.in-Ok.ensures.matches in
    by_word _ (λ word. Spells word n) _ _ (one_word program (texts c.args.words.now) c.in-Ok.matches (codes "procs") rows) (c.found.ensures.procs n)

pub returns-in-Ok-clause-tolerance : goal.returns-in-Ok-clause-tolerance
returns-in-Ok-clause-tolerance c n =
    let rows = found_by program _ (texts c.args.words.now) c.in-Ok.matches simple c.in_ok-command.ensures.program c.in-Ok.ensures.matches in
    by_word _ (λ word. SpellsTolerance word n) _ _ (one_word program (texts c.args.words.now) c.in-Ok.matches (codes "tolerance") rows) (c.found.ensures.tolerance n)

pub returns-in-Ok-clause-check : goal.returns-in-Ok-clause-check
returns-in-Ok-clause-check c =
    let rows = found_by program _ (texts c.args.words.now) c.in-Ok.matches simple c.in_ok-command.ensures.program c.in-Ok.ensures.matches in
    by_word _ (λ word. word ≡ Some (codes "true")) _ _ (one_word program (texts c.args.words.now) c.in-Ok.matches (codes "check") rows) c.found.ensures.check

pub returns-in-Ok-clause-keep_order : goal.returns-in-Ok-clause-keep_order
returns-in-Ok-clause-keep_order c =
    let rows = found_by program _ (texts c.args.words.now) c.in-Ok.matches simple c.in_ok-command.ensures.program c.in-Ok.ensures.matches in
    by_word _ (λ word. word ≡ Some (codes "true")) _ _ (one_word program (texts c.args.words.now) c.in-Ok.matches (codes "keep-order") rows) c.found.ensures.keep_order

pub returns-in-Ok-clause-any_order : goal.returns-in-Ok-clause-any_order
returns-in-Ok-clause-any_order c =
    let rows = found_by program _ (texts c.args.words.now) c.in-Ok.matches simple c.in_ok-command.ensures.program c.in-Ok.ensures.matches in
    by_word _ (λ word. word ≡ Some (codes "true")) _ _ (one_word program (texts c.args.words.now) c.in-Ok.matches (codes "any-order") rows) c.found.ensures.any_order

pub returns-in-Ok-clause-faults : goal.returns-in-Ok-clause-faults
returns-in-Ok-clause-faults c =
    refused_by {T = ArgMatches} program _ (texts c.args.words.now) (Ok c.in-Ok.matches) free c.in_ok-command.ensures.program c.in-Ok.ensures.kinds

pub returns-in-Err-clause-faults : goal.returns-in-Err-clause-faults
returns-in-Err-clause-faults c =
    refused_by {T = ArgMatches} program _ (texts c.args.words.now) (Err c.in-Err.error) free c.in_ok-command.ensures.program c.in-Err.ensures.kinds
