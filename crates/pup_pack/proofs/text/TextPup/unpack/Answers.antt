use Rattle.std.proofs.Common.{sym, ap, ◌∙◌, subst}
use Rattle.std.proofs.lemmas.Str.{IsUtf8-had}
use Rattle.std.specs.Str.{IsUtf8}
use Rattle.pup_pack.specs.Lists.{unpack_bytes}
use Rattle.pup_pack.proofs.Texts.{text_read, text_bad}
use Rattle.pup_pack.proofs.text.TextPup.unpack.Goals as goal

pub returns-in-Ok-clause-answer : goal.returns-in-Ok-clause-answer
returns-in-Ok-clause-answer g c =
    let same = ap (λ v. v.items) c.in-Ok.ensures.ok ∙ c.into_vec.ensures.value in
    rw c.new.ensures.value (text_read (unpack_bytes c.args.bytes.now) c.in_ok-found.found c.in-Ok.text.bytes.items c.in_ok-found.len
    c.in_ok-found.ensures.answer same (IsUtf8-had _ c.in-Ok.text.ok))

pub returns-clause-answer : goal.returns-clause-answer
returns-clause-answer g c =
    text_bad (unpack_bytes c.args.bytes.now) c.in_ok-found.found c.in_ok-found.len c.in_ok-found.ensures.answer
    (λ utf8. c.in-Err.ensures.succeeds (subst IsUtf8 (sym c.into_vec.ensures.value) utf8))
