use Rattle.std.proofs.lemmas.Str.{is_utf8-from_IsUtf8, IsUtf8-had}
use Rattle.pup_pack.proofs.text.TextPup.packed_len.Goals as goal

pub returns-clause-fits : goal.returns-clause-fits
returns-clause-fits g c = rw (← c.self.view_is) (is_utf8-from_IsUtf8 _ (IsUtf8-had _ c.self.inside.all.ok))
