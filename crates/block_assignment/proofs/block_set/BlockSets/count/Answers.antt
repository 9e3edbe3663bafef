use Rattle.std.proofs.Common.{List, ℕ, length, sym, ◌∙◌, ap}
use Rattle.block_assignment.proofs.WordRows.{rows_counted}
use Rattle.block_assignment.proofs.block_set.BlockSets.count.Goals as goal

pub returns : goal.returns
returns c =
    record { value = sym (rows_counted c.self.inside.width c.self.inside.count c.self.inside.words.now) ∙ ap (λ (sets : List (List ℕ)). length sets) c.self.view_is }
