use Rattle.std.proofs.Common.{◌≡◌, ap, rules, Some}
use Rattle.std.specs.Prelude.{pos}
use Rattle.chare_index.specs.declared.limits.TheConstants.Limits.{PES}
use Rattle.clap.specs.Words.{Rule}
use Rattle.clap.specs.declared.builder.value_parser.ValueParser.TheVariants.{Signed}
use Rattle.lb_replay.proofs.words.procs.Goals as goal

pub returns-clause-rule : goal.returns-clause-rule
returns-clause-rule c =
    let parser : c.value_parser.result.value_parser ≡ Some (Signed (pos 1) (pos PES)) = search rules in
    rw (c.value_parser.ensures.others, parser) (ap (λ (rule : Rule). record rule { parser = Some (Signed (pos 1) (pos PES)) }) c.word.ensures.rule)
