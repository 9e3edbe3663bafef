use Rattle.std.proofs.Common.{◌≡◌, ap, rules, Some}
use Rattle.std.specs.Prelude.{pos}
use Rattle.chain_refinement.specs.declared.tolerance.TheConstants.Tolerance.{MOST}
use Rattle.clap.specs.Words.{Rule}
use Rattle.clap.specs.declared.builder.value_parser.ValueParser.TheVariants.{Signed}
use Rattle.program_words.proofs.arguments.tolerance.Goals as goal

pub returns-clause-rule : goal.returns-clause-rule
returns-clause-rule c =
    let parser : c.value_parser.result.value_parser ≡ Some (Signed (pos 0) (pos MOST)) = search rules in
    rw (c.value_parser.ensures.others, parser) (ap (λ (rule : Rule). record rule { parser = Some (Signed (pos 0) (pos MOST)) }) c.word.ensures.rule)
