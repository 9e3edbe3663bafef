use Rattle.std.proofs.Common.{◌+◌, ◌*◌, ap, ◌∙◌}
use Rattle.block_assignment.proofs.assignment.rename.Goals as goal

pub rename_with-requires-clause-sets : goal.rename_with-requires-clause-sets
rename_with-requires-clause-sets g c =
    c.deref_mut.ensures.len ∙ c.in_ok-sets.ensures.len ∙ ap (λ n. (n + 2) * c.words_for-width.result) c.blocks-blocks.ensures.value
