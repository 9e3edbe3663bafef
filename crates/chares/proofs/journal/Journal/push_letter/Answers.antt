use Rattle.std.proofs.Common.{◌∷◌, ◌++◌, [], ap, ◌∙◌, arith, length-append}
use Rattle.chares.specs.Journals.{JournalView, entries_from}
use Rattle.chares.specs.declared.entry.Entry.TheVariants.{Letter}
use Rattle.chares.proofs.Journals.{order_letter, entries_letter}
use Rattle.chares.proofs.journal.Journal.push_letter.Goals as goal

pub invariant_of-self : goal.invariant_of-self
invariant_of-self g c =
    rw (c.in-Ok.ensures.items, length-append c.self.inside.letters.items (c.args.letter ∷ [])) (order_letter 0 _ c.self.inside.resumptions.items c.self.invariant)

pub returns : goal.returns
returns g c =
    record {
      entries =
          ap (λ xs. entries_from 0 xs c.self.inside.resumptions.items) c.in-Ok.ensures.items
          ∙ entries_letter 0 _ c.self.inside.letters.items c.self.inside.resumptions.items c.args.letter (omega arith) c.self.invariant
          ∙ ap (λ (v : JournalView). v.entries ++ Letter c.args.letter ∷ []) c.self.view_is;
    }
