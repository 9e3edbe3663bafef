use Rattle.std.proofs.Common.{codes}
use Rattle.std.proofs.lemmas.Result.{IfOk-weaker}
use Rattle.program_words.proofs.Chains.{with_argument}
use Rattle.program_words.specs.Arguments.{tolerance_rule, versioned}
use Rattle.report_command_line.specs.CommandLine.{csv_rule, files_rule, moves_rule, procs_rule}
use Rattle.report_command_line.proofs.words.command.Goals as goal

pub returns : goal.returns
returns c =
    let one = with_argument c.new_program-command.result c.in_ok-command.command c.files.result (versioned (codes "lb_report")) files_rule
    c.new_program-command.ensures.bare.app c.in_ok-command.ensures c.files.ensures.fits c.files.ensures.rule in
    let two = with_argument _ c.in_ok-command-2.command c.procs.result _ procs_rule one c.in_ok-command-2.ensures c.procs.ensures.fits c.procs.ensures.rule in
    let three = with_argument _ c.in_ok-command-3.command c.tolerance.result _ tolerance_rule two c.in_ok-command-3.ensures c.tolerance.ensures.fits c.tolerance.ensures.rule in
    let four = with_argument _ c.in_ok-command-4.command c.csv.result _ csv_rule three c.in_ok-command-4.ensures c.csv.ensures.fits c.csv.ensures.rule in
    record {
      program = IfOk-weaker c.arg-5.result _ _ (λ command added.
          with_argument _ command c.moves.result _ moves_rule four added c.moves.ensures.fits c.moves.ensures.rule) c.arg-5.ensures;
    }
