use Rattle.std.proofs.Common.{sym, ap}
use Rattle.chares.specs.Journals.{entries_from}
use Rattle.chares.proofs.Journals.{entries_letters}
use Rattle.chares.proofs.journal.Journal.resumptions.Goals as goal

pub returns-clause-value : goal.returns-clause-value
returns-clause-value g c =
    let e = entries_letters 0 c.self.inside.letters.items c.self.inside.resumptions.items in
    rw (c.as_slice.ensures.value, ← c.self.view_is) (ap (λ ls. entries_from 0 ls c.self.inside.resumptions.items) (sym e))

pub returns-clause-in_order : goal.returns-clause-in_order
returns-clause-in_order g c =
    rw (c.as_slice.ensures.value, ← c.self.view_is, entries_letters 0 c.self.inside.letters.items c.self.inside.resumptions.items) c.self.invariant
