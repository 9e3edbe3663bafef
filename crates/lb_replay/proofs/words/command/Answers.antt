use Rattle.std.proofs.Common.{◌≡◌, codes, ap, subst, refl, true, [], ◌∷◌, arith, is_some}
use Rattle.std.proofs.lemmas.Result.{IfOk-weaker}
use Rattle.std.proofs.lemmas.List.Elements.{All-from_recursion}
use Rattle.clap.specs.Built.{FitsChain}
use Rattle.clap.specs.Words.{first_value, found_of}
use Rattle.clap.proofs.CallerLemmas.{required_in_chain}
use Rattle.program_words.proofs.Chains.{are_distinct, distinct_ids, ids_of, with_argument}
use Rattle.program_words.specs.Arguments.{file_rule, tolerance_rule, versioned}
use Rattle.lb_replay.specs.CommandLine.{any_order_rule, check_rule, keep_order_rule, procs_rule}
use Rattle.lb_replay.proofs.words.command.Goals as goal

distinct : are_distinct (codes "file" ∷ codes "procs" ∷ codes "tolerance" ∷ codes "keep-order" ∷ codes "any-order" ∷ codes "check" ∷ []) ≡ true
distinct = refl

pub returns-clause-program : goal.returns-clause-program
returns-clause-program c =
    let one = with_argument c.new_program-command.result c.in_ok-command.command c.file.result (versioned (codes "lb_sim")) file_rule
    c.new_program-command.ensures.bare.app c.in_ok-command.ensures c.file.ensures.fits c.file.ensures.rule in
    let two = with_argument _ c.in_ok-command-2.command c.procs.result _ procs_rule one c.in_ok-command-2.ensures c.procs.ensures.fits c.procs.ensures.rule in
    let three = with_argument _ c.in_ok-command-3.command c.tolerance.result _ tolerance_rule two c.in_ok-command-3.ensures c.tolerance.ensures.fits c.tolerance.ensures.rule in
    let four = with_argument _ c.in_ok-command-4.command c.keep_order.result _ keep_order_rule three c.in_ok-command-4.ensures
    c.keep_order.ensures.fits c.keep_order.ensures.rule in
    let five = with_argument _ c.in_ok-command-5.command c.any_order.result _ any_order_rule four c.in_ok-command-5.ensures c.any_order.ensures.fits c.any_order.ensures.rule in
    IfOk-weaker c.arg-6.result _ _ (λ command added.
    with_argument _ command c.check.result _ check_rule five added c.check.ensures.fits c.check.ensures.rule) c.arg-6.ensures

pub returns-clause-named : goal.returns-clause-named
returns-clause-named c =
    let chain = c.file.result ∷ c.procs.result ∷ c.tolerance.result ∷ c.keep_order.result ∷ c.any_order.result ∷ c.check.result ∷ [] in
    let named : are_distinct (ids_of chain) ≡ true = rw (
      ap (λ r. r.id) c.file.ensures.rule,
      ap (λ r. r.id) c.procs.ensures.rule,
      ap (λ r. r.id) c.tolerance.ensures.rule,
      ap (λ r. r.id) c.keep_order.ensures.rule,
      ap (λ r. r.id) c.any_order.ensures.rule,
      ap (λ r. r.id) c.check.ensures.rule,
    ) distinct in
    let all = All-from_recursion FitsChain chain (
      c.file.ensures.fits,
      (c.procs.ensures.fits, (c.tolerance.ensures.fits, (c.keep_order.ensures.fits, (c.any_order.ensures.fits, (c.check.ensures.fits, tt))))),
    ) in
    let bare = c.new_program-command.ensures.bare in
    IfOk-weaker c.arg-6.result _ _ (λ command added m parsed.
    subst (λ id. is_some (first_value (found_of m) id) ≡ true) (ap (λ r. r.id) c.file.ensures.rule)
    (required_in_chain c.new_program-command.result command chain 0 c.file.result m (
      c.in_ok-command.command,
      c.in_ok-command.ensures,
      (
        c.in_ok-command-2.command,
        c.in_ok-command-2.ensures,
        (
          c.in_ok-command-3.command,
          c.in_ok-command-3.ensures,
          (c.in_ok-command-4.command, c.in_ok-command-4.ensures, (c.in_ok-command-5.command, c.in_ok-command-5.ensures, (command, added, refl))),
        ),
      ),
    )
    bare.args bare.groups bare.globals bare.negates all (distinct_ids chain named) (omega arith) c.file.ensures.takes parsed)) c.arg-6.ensures
