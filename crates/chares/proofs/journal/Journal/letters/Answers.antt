use Rattle.std.proofs.Common.{filter_map, sym, ap, ◌∙◌}
use Rattle.chares.specs.Journals.{JournalView, letter_of}
use Rattle.chares.proofs.Journals.{entries_letters}
use Rattle.chares.proofs.journal.Journal.letters.Goals as goal

pub returns : goal.returns
returns g c =
    record {
      value =
          c.as_slice.ensures.value
          ∙ sym (entries_letters 0 c.self.inside.letters.items c.self.inside.resumptions.items)
          ∙ ap (λ (v : JournalView). filter_map letter_of v.entries) c.self.view_is;
    }
