use Rattle.std.proofs.Common.{◌≡◌, length, sym, ap, ◌∙◌}
use Rattle.zero_tails.specs.Tails.{trimmed}
use Rattle.zero_tails.proofs.Kept.{length_again, trimmed_padded}
use Rattle.zero_tails.proofs.trimmed.TrimmedPupGlobal.pack_into.Goals as goal

pub returns-clause-appended : goal.returns-clause-appended
returns-clause-appended c =
    let n : length c.args.self.now ≡ c.self.inside.len = ap length (sym c.self.view_is) ∙ length_again c.self.inside.len c.self.inside.kept c.self.invariant in
    let k : trimmed c.args.self.now ≡ c.self.inside.kept = ap trimmed (sym c.self.view_is) ∙ trimmed_padded c.self.inside.len c.self.inside.kept c.self.invariant in
    rw (n, k) c.pack_fields.ensures.appended

pub returns-clause-answer : goal.returns-clause-answer
returns-clause-answer c =
    let k : trimmed c.args.self.now ≡ c.self.inside.kept = ap trimmed (sym c.self.view_is) ∙ trimmed_padded c.self.inside.len c.self.inside.kept c.self.invariant in
    rw k c.pack_fields.ensures.answer

pub returns-clause-full : goal.returns-clause-full
returns-clause-full c =
    let k : trimmed c.args.self.now ≡ c.self.inside.kept = ap trimmed (sym c.self.view_is) ∙ trimmed_padded c.self.inside.len c.self.inside.kept c.self.invariant in
    rw k c.pack_fields.ensures.full
