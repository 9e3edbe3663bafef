-- The annals of an element: all its entries, of which the last ones are kept and those before are settled.
use Rattle.std.specs.Prelude.{ℕ, ◌==◌, List, if◌then◌else◌}
use Rattle.chares.specs.Letters.{Done}
use Rattle.chares.specs.declared.history.History.{History}
use Rattle.chares.specs.declared.history.History.TheVariants.{Dropped}

-- all entries; those that are kept, which are the last ones; how many are settled; whether all are kept; and for how many more
-- letters and resumptions there is memory
pub record AnnalsView : Type 0 where
  pub entries : List Done
  pub kept : List Done
  pub settled : ℕ
  pub history : History
  pub letter_room : ℕ
  pub resumption_room : ℕ

-- the history of annals of which so many entries are settled, where it is to be this: what was settled does not come back
abbrev pub history_after : ℕ → History → History
history_after settled history = if settled == 0 then history else Dropped
