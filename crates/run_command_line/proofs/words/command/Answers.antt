use Rattle.std.proofs.Common.{◌≡◌, codes, ap, subst, refl, true, [], ◌∷◌, arith, is_some}
use Rattle.std.proofs.lemmas.Result.{IfOk-weaker}
use Rattle.std.proofs.lemmas.List.Elements.{All-from_recursion}
use Rattle.clap.specs.Built.{FitsChain}
use Rattle.clap.specs.Words.{first_value, found_of}
use Rattle.clap.proofs.CallerLemmas.{required_in_chain}
use Rattle.program_words.proofs.Chains.{are_distinct, distinct_ids, ids_of, with_argument}
use Rattle.program_words.specs.Arguments.{file_rule, tolerance_rule, versioned}
use Rattle.run_command_line.specs.CommandLine.{checkpoint_rule, dump_rule, events_rule, every_rule, lbd1_rule, no_journal_rule, procs_rule, progress_rule, replay_rule, restart_rule, seed_rule, seeds_rule, trace_rule}
use Rattle.run_command_line.proofs.words.command.Goals as goal

distinct : are_distinct (codes "file" ∷ codes "dump" ∷ codes "lbd1" ∷ codes "progress" ∷ codes "tolerance" ∷ codes "seed" ∷ codes
    "seeds" ∷ codes "events" ∷ codes "replay" ∷ codes "trace" ∷ codes "no-journal" ∷ codes "checkpoint"
    ∷ codes "every" ∷ codes "restart" ∷ codes "procs" ∷ []) ≡ true
distinct = refl

pub returns-clause-program : goal.returns-clause-program
returns-clause-program c =
    let one = with_argument c.new_program-command.result c.in_ok-command.command c.file.result (versioned (codes "charm_run")) file_rule
    c.new_program-command.ensures.bare.app c.in_ok-command.ensures c.file.ensures.fits c.file.ensures.rule in
    let two = with_argument _ c.in_ok-command-2.command c.dump.result _ dump_rule one c.in_ok-command-2.ensures c.dump.ensures.fits c.dump.ensures.rule in
    let three = with_argument _ c.in_ok-command-3.command c.lbd1.result _ lbd1_rule two c.in_ok-command-3.ensures c.lbd1.ensures.fits c.lbd1.ensures.rule in
    let four = with_argument _ c.in_ok-command-4.command c.progress.result _ progress_rule three c.in_ok-command-4.ensures c.progress.ensures.fits c.progress.ensures.rule in
    let five = with_argument _ c.in_ok-command-5.command c.tolerance.result _ tolerance_rule four c.in_ok-command-5.ensures c.tolerance.ensures.fits c.tolerance.ensures.rule in
    let six = with_argument _ c.in_ok-command-6.command c.seed.result _ seed_rule five c.in_ok-command-6.ensures c.seed.ensures.fits c.seed.ensures.rule in
    let seven = with_argument _ c.in_ok-command-7.command c.seeds.result _ seeds_rule six c.in_ok-command-7.ensures c.seeds.ensures.fits c.seeds.ensures.rule in
    let eight = with_argument _ c.in_ok-command-8.command c.events.result _ events_rule seven c.in_ok-command-8.ensures c.events.ensures.fits c.events.ensures.rule in
    let nine = with_argument _ c.in_ok-command-9.command c.replay.result _ replay_rule eight c.in_ok-command-9.ensures c.replay.ensures.fits c.replay.ensures.rule in
    let ten = with_argument _ c.in_ok-command-10.command c.trace.result _ trace_rule nine c.in_ok-command-10.ensures c.trace.ensures.fits c.trace.ensures.rule in
    let eleven = with_argument _ c.in_ok-command-11.command c.no_journal.result _ no_journal_rule ten c.in_ok-command-11.ensures c.no_journal.ensures.fits c.no_journal.ensures.rule in
    let twelve = with_argument _ c.in_ok-command-12.command c.checkpoint.result _ checkpoint_rule eleven c.in_ok-command-12.ensures c.checkpoint.ensures.fits c.checkpoint.ensures.rule in
    let thirteen = with_argument _ c.in_ok-command-13.command c.every.result _ every_rule twelve c.in_ok-command-13.ensures c.every.ensures.fits c.every.ensures.rule in
    let fourteen = with_argument _ c.in_ok-command-14.command c.restart.result _ restart_rule thirteen c.in_ok-command-14.ensures c.restart.ensures.fits c.restart.ensures.rule in
    IfOk-weaker c.arg-15.result _ _ (λ command added.
    with_argument _ command c.procs.result _ procs_rule fourteen added c.procs.ensures.fits c.procs.ensures.rule) c.arg-15.ensures

pub returns-clause-named : goal.returns-clause-named
returns-clause-named c =
    let chain = c.file.result ∷ c.dump.result ∷ c.lbd1.result ∷ c.progress.result ∷ c.tolerance.result
    ∷ c.seed.result ∷ c.seeds.result ∷ c.events.result ∷ c.replay.result ∷ c.trace.result ∷ c.no_journal.result
    ∷ c.checkpoint.result ∷ c.every.result ∷ c.restart.result ∷ c.procs.result ∷ [] in
    let named : are_distinct (ids_of chain) ≡ true = rw (
      ap (λ r. r.id) c.file.ensures.rule,
      ap (λ r. r.id) c.dump.ensures.rule,
      ap (λ r. r.id) c.lbd1.ensures.rule,
      ap (λ r. r.id) c.progress.ensures.rule,
      ap (λ r. r.id) c.tolerance.ensures.rule,
      ap (λ r. r.id) c.seed.ensures.rule,
      ap (λ r. r.id) c.seeds.ensures.rule,
      ap (λ r. r.id) c.events.ensures.rule,
      ap (λ r. r.id) c.replay.ensures.rule,
      ap (λ r. r.id) c.trace.ensures.rule,
      ap (λ r. r.id) c.no_journal.ensures.rule,
      ap (λ r. r.id) c.checkpoint.ensures.rule,
      ap (λ r. r.id) c.every.ensures.rule,
      ap (λ r. r.id) c.restart.ensures.rule,
      ap (λ r. r.id) c.procs.ensures.rule,
    ) distinct in
    let all = All-from_recursion FitsChain chain (
      c.file.ensures.fits,
      (
        c.dump.ensures.fits,
        (
          c.lbd1.ensures.fits,
          (
            c.progress.ensures.fits,
            (
              c.tolerance.ensures.fits,
              (
                c.seed.ensures.fits,
                (
                  c.seeds.ensures.fits,
                  (c.events.ensures.fits, (c.replay.ensures.fits, (c.trace.ensures.fits, (c.no_journal.ensures.fits, (c.checkpoint.ensures.fits, (c.every.ensures.fits, (c.restart.ensures.fits, (c.procs.ensures.fits, tt)))))))),
                ),
              ),
            ),
          ),
        ),
      ),
    ) in
    let bare = c.new_program-command.ensures.bare in
    IfOk-weaker c.arg-15.result _ _ (λ command added m parsed.
    subst (λ id. is_some (first_value (found_of m) id) ≡ true) (ap (λ r. r.id) c.file.ensures.rule)
    (required_in_chain c.new_program-command.result command chain 0 c.file.result m (
      c.in_ok-command.command,
      c.in_ok-command.ensures,
      (
        c.in_ok-command-2.command,
        c.in_ok-command-2.ensures,
        (
          c.in_ok-command-3.command,
          c.in_ok-command-3.ensures,
          (
            c.in_ok-command-4.command,
            c.in_ok-command-4.ensures,
            (
              c.in_ok-command-5.command,
              c.in_ok-command-5.ensures,
              (
                c.in_ok-command-6.command,
                c.in_ok-command-6.ensures,
                (
                  c.in_ok-command-7.command,
                  c.in_ok-command-7.ensures,
                  (
                    c.in_ok-command-8.command,
                    c.in_ok-command-8.ensures,
                    (c.in_ok-command-9.command, c.in_ok-command-9.ensures, (c.in_ok-command-10.command, c.in_ok-command-10.ensures, (c.in_ok-command-11.command, c.in_ok-command-11.ensures, (c.in_ok-command-12.command, c.in_ok-command-12.ensures, (c.in_ok-command-13.command, c.in_ok-command-13.ensures, (c.in_ok-command-14.command, c.in_ok-command-14.ensures, (command, added, refl))))))),
                  ),
                ),
              ),
            ),
          ),
        ),
      ),
    )
    bare.args bare.groups bare.globals bare.negates all (distinct_ids chain named) (omega arith) c.file.ensures.takes parsed)) c.arg-15.ensures
