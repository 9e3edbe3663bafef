use Rattle.std.proofs.Common.{◌∷◌, ◌++◌, [], length, ap, ◌∙◌, arith}
use Rattle.chares.specs.Journals.{JournalView}
use Rattle.chares.specs.declared.entry.Entry.TheVariants.{Resumption}
use Rattle.chares.proofs.Journals.{order_resumption, entries_resumption}
use Rattle.chares.proofs.journal.Journal.push_resumption.Goals as goal

pub invariant_of-self : goal.invariant_of-self
invariant_of-self g c =
    rw (c.in-Ok.ensures.items, c.len-letters.ensures, c.self.inside.letters.ok.0) (order_resumption 0 _ c.self.inside.resumptions.items c.args.round c.self.invariant)

pub returns : goal.returns
returns g c =
    record {
      entries =
          rw (c.in-Ok.ensures.items, c.len-letters.ensures, c.self.inside.letters.ok.0)
          (entries_resumption 0 (length c.self.inside.letters.items) c.self.inside.letters.items c.self.inside.resumptions.items c.args.round (omega arith) c.self.invariant
          ∙ ap (λ (v : JournalView). v.entries ++ Resumption c.args.round ∷ []) c.self.view_is);
    }
