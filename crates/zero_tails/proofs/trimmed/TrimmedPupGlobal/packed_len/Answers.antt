use Rattle.std.proofs.Common.{◌≡◌, sym, ap, ◌∙◌}
use Rattle.zero_tails.specs.Tails.{trimmed}
use Rattle.zero_tails.proofs.Kept.{trimmed_padded}
use Rattle.zero_tails.proofs.trimmed.TrimmedPupGlobal.packed_len.Goals as goal

pub returns-clause-len : goal.returns-clause-len
returns-clause-len c =
    let k : trimmed c.args.self.now ≡ c.self.inside.kept = ap trimmed (sym c.self.view_is) ∙ trimmed_padded c.self.inside.len c.self.inside.kept c.self.invariant in
    rw k c.fields_len.ensures.len

pub returns-clause-over : goal.returns-clause-over
returns-clause-over c =
    let k : trimmed c.args.self.now ≡ c.self.inside.kept = ap trimmed (sym c.self.view_is) ∙ trimmed_padded c.self.inside.len c.self.inside.kept c.self.invariant in
    rw k c.fields_len.ensures.over
