use Rattle.std.proofs.Common.{◌≡◌, ◌∙◌, refl, sym, true, Ok, Err, codes, Some}
use Rattle.clap.specs.Walk.{texts}
use Rattle.clap.specs.Words.{is_simple, is_simple_and_free}
use Rattle.clap.specs.declared.parser.matches.ArgMatches.{ArgMatches}
use Rattle.clap.proofs.OnLiterals.{clap_on_literals}
use Rattle.program_words.proofs.Chains.{by_word, first_word, found_by, one_word, refused_by}
use Rattle.program_words.specs.Arguments.{SpellsTolerance}
use Rattle.run_command_line.specs.CommandLine.{SpellsEvery, SpellsProcs, SpellsSeed, SpellsSeeds, program}
use Rattle.run_command_line.proofs.words.asked.Goals as goal

simple : is_simple program ≡ true
unfolding clap_on_literals
simple = refl

free : is_simple_and_free program ≡ true
unfolding clap_on_literals
free = refl

pub returns-in-Ok-clause-file : goal.returns-in-Ok-clause-file
returns-in-Ok-clause-file c =
    let rows = found_by program _ (texts c.args.words.now) c.in-Ok.matches simple c.in_ok-command.ensures.program c.in-Ok.ensures.matches in
    sym (first_word program (texts c.args.words.now) c.in-Ok.matches (codes "file") rows) ∙ c.found.ensures.file

pub returns-in-Ok-clause-dump : goal.returns-in-Ok-clause-dump
returns-in-Ok-clause-dump c =
    let rows = found_by program _ (texts c.args.words.now) c.in-Ok.matches simple c.in_ok-command.ensures.program c.in-Ok.ensures.matches in
    sym (first_word program (texts c.args.words.now) c.in-Ok.matches (codes "dump") rows) ∙ c.found.ensures.dump

pub returns-in-Ok-clause-lbd1 : goal.returns-in-Ok-clause-lbd1
returns-in-Ok-clause-lbd1 c =
    let rows = found_by program _ (texts c.args.words.now) c.in-Ok.matches simple c.in_ok-command.ensures.program c.in-Ok.ensures.matches in
    by_word _ (λ word. word ≡ Some (codes "true")) _ _ (one_word program (texts c.args.words.now) c.in-Ok.matches (codes "lbd1") rows) c.found.ensures.lbd1

pub returns-in-Ok-clause-progress : goal.returns-in-Ok-clause-progress
returns-in-Ok-clause-progress c =
    let rows = found_by program _ (texts c.args.words.now) c.in-Ok.matches simple c.in_ok-command.ensures.program c.in-Ok.ensures.matches in
    by_word _ (λ word. word ≡ Some (codes "true")) _ _ (one_word program (texts c.args.words.now) c.in-Ok.matches (codes "progress") rows) c.found.ensures.progress

pub returns-in-Ok-clause-tolerance : goal.returns-in-Ok-clause-tolerance
returns-in-Ok-clause-tolerance c n =
    let rows = found_by program _ (texts c.args.words.now) c.in-Ok.matches simple c.in_ok-command.ensures.program c.in-Ok.ensures.matches in
    by_word _ (λ word. SpellsTolerance word n) _ _ (one_word program (texts c.args.words.now) c.in-Ok.matches (codes "tolerance") rows) (c.found.ensures.tolerance n)

pub returns-in-Ok-clause-events : goal.returns-in-Ok-clause-events
returns-in-Ok-clause-events c =
    let rows = found_by program _ (texts c.args.words.now) c.in-Ok.matches simple c.in_ok-command.ensures.program c.in-Ok.ensures.matches in
    sym (first_word program (texts c.args.words.now) c.in-Ok.matches (codes "events") rows) ∙ c.found.ensures.events

pub returns-in-Ok-clause-replay : goal.returns-in-Ok-clause-replay
returns-in-Ok-clause-replay c =
    let rows = found_by program _ (texts c.args.words.now) c.in-Ok.matches simple c.in_ok-command.ensures.program c.in-Ok.ensures.matches in
    sym (first_word program (texts c.args.words.now) c.in-Ok.matches (codes "replay") rows) ∙ c.found.ensures.replay

pub returns-in-Ok-clause-trace : goal.returns-in-Ok-clause-trace
returns-in-Ok-clause-trace c =
    let rows = found_by program _ (texts c.args.words.now) c.in-Ok.matches simple c.in_ok-command.ensures.program c.in-Ok.ensures.matches in
    sym (first_word program (texts c.args.words.now) c.in-Ok.matches (codes "trace") rows) ∙ c.found.ensures.trace

pub returns-in-Ok-clause-no_journal : goal.returns-in-Ok-clause-no_journal
returns-in-Ok-clause-no_journal c =
    let rows = found_by program _ (texts c.args.words.now) c.in-Ok.matches simple c.in_ok-command.ensures.program c.in-Ok.ensures.matches in
    by_word _ (λ word. word ≡ Some (codes "true")) _ _ (one_word program (texts c.args.words.now) c.in-Ok.matches (codes "no-journal") rows) c.found.ensures.no_journal

pub returns-in-Ok-clause-seed : goal.returns-in-Ok-clause-seed
returns-in-Ok-clause-seed c n =
    let rows = found_by program _ (texts c.args.words.now) c.in-Ok.matches simple c.in_ok-command.ensures.program c.in-Ok.ensures.matches in
    by_word _ (λ word. SpellsSeed word n) _ _ (one_word program (texts c.args.words.now) c.in-Ok.matches (codes "seed") rows) (c.found.ensures.seed n)

pub returns-in-Ok-clause-seeds : goal.returns-in-Ok-clause-seeds
returns-in-Ok-clause-seeds c n =
    let rows = found_by program _ (texts c.args.words.now) c.in-Ok.matches simple c.in_ok-command.ensures.program c.in-Ok.ensures.matches in
    by_word _ (λ word. SpellsSeeds word n) _ _ (one_word program (texts c.args.words.now) c.in-Ok.matches (codes "seeds") rows) (c.found.ensures.seeds n)

pub returns-in-Ok-clause-checkpoint : goal.returns-in-Ok-clause-checkpoint
returns-in-Ok-clause-checkpoint c =
    let rows = found_by program _ (texts c.args.words.now) c.in-Ok.matches simple c.in_ok-command.ensures.program c.in-Ok.ensures.matches in
    sym (first_word program (texts c.args.words.now) c.in-Ok.matches (codes "checkpoint") rows) ∙ c.found.ensures.checkpoint

pub returns-in-Ok-clause-every : goal.returns-in-Ok-clause-every
returns-in-Ok-clause-every c n =
    let rows = found_by program _ (texts c.args.words.now) c.in-Ok.matches simple c.in_ok-command.ensures.program c.in-Ok.ensures.matches in
    by_word _ (λ word. SpellsEvery word n) _ _ (one_word program (texts c.args.words.now) c.in-Ok.matches (codes "every") rows) (c.found.ensures.every n)

pub returns-in-Ok-clause-restart : goal.returns-in-Ok-clause-restart
returns-in-Ok-clause-restart c =
    let rows = found_by program _ (texts c.args.words.now) c.in-Ok.matches simple c.in_ok-command.ensures.program c.in-Ok.ensures.matches in
    by_word _ (λ word. word ≡ Some (codes "true")) _ _ (one_word program (texts c.args.words.now) c.in-Ok.matches (codes "restart") rows) c.found.ensures.restart

pub returns-in-Ok-clause-procs : goal.returns-in-Ok-clause-procs
returns-in-Ok-clause-procs c n =
    let rows = found_by program _ (texts c.args.words.now) c.in-Ok.matches simple c.in_ok-command.ensures.program c.in-Ok.ensures.matches in
    by_word _ (λ word. SpellsProcs word n) _ _ (one_word program (texts c.args.words.now) c.in-Ok.matches (codes "procs") rows) (c.found.ensures.procs n)

pub returns-in-Ok-clause-faults : goal.returns-in-Ok-clause-faults
returns-in-Ok-clause-faults c =
    refused_by {T = ArgMatches} program _ (texts c.args.words.now) (Ok c.in-Ok.matches) free c.in_ok-command.ensures.program c.in-Ok.ensures.kinds

pub returns-in-Err-clause-faults : goal.returns-in-Err-clause-faults
returns-in-Err-clause-faults c =
    refused_by {T = ArgMatches} program _ (texts c.args.words.now) (Err c.in-Err.error) free c.in_ok-command.ensures.program c.in-Err.ensures.kinds
