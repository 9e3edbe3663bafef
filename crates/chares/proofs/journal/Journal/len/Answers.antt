use Rattle.std.proofs.Common.{length, ap, arith}
use Rattle.chares.specs.Journals.{JournalView}
use Rattle.chares.proofs.Journals.{entries_count}
use Rattle.chares.proofs.journal.Journal.len.Goals as goal

pub returns : goal.returns
returns g c =
    let a = entries_count 0 c.self.inside.letters.items c.self.inside.resumptions.items in
    let b = ap (λ (v : JournalView). length v.entries) c.self.view_is in
    record { value = omega (arith, a, b, c.len.ensures, c.len-2.ensures) }
