use Rattle.std.proofs.Common.{◌≡◌, ap, rules, Some}
use Rattle.std.specs.Prelude.{pos}
use Rattle.clap.specs.Words.{Rule}
use Rattle.clap.specs.declared.builder.value_parser.ValueParser.TheVariants.{Signed}
use Rattle.run_command_line.proofs.words.every.Goals as goal

pub returns-clause-rule : goal.returns-clause-rule
returns-clause-rule c =
    let parser : c.value_parser.result.value_parser ≡ Some (Signed (pos 1) (pos 1000)) = search rules in
    rw (c.value_parser.ensures.others, parser) (ap (λ (rule : Rule). record rule { parser = Some (Signed (pos 1) (pos 1000)) }) c.word.ensures.rule)
