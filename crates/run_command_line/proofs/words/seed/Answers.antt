use Rattle.std.proofs.Common.{◌≡◌, ap, rules, Some}
use Rattle.clap.specs.Words.{Rule}
use Rattle.clap.specs.declared.builder.value_parser.ValueParser.TheVariants.{Unsigned}
use Rattle.run_command_line.proofs.words.seed.Goals as goal

pub returns-clause-rule : goal.returns-clause-rule
returns-clause-rule c =
    let parser : c.value_parser.result.value_parser ≡ Some (Unsigned 0 18446744073709551615) = search rules in
    rw (c.value_parser.ensures.others, parser) (ap (λ (rule : Rule). record rule { parser = Some (Unsigned 0 18446744073709551615) }) c.word.ensures.rule)
