use Rattle.std.proofs.Common.{◌∙◌}
use Rattle.std.specs.Slice.Iter.{iter_rest}
use Rattle.pe_state.proofs.Edits.{next_row}
use Rattle.pe_state.proofs.entries.EntriesIterator.next.Goals as goal

pub loop-index-preserved : goal.loop-index-preserved
loop-index-preserved g c =
    next_row (iter_rest c.loop-index.self-inside.row) c.in_ok-row.row.now (iter_rest c.iter-self-inside.result) c.args.self.now
    (iter_rest c.loop-index.self-inside.rows) (iter_rest c.next-in-loop-index.new.self)
    c.loop-index.invariant c.in_default.ensures.steps.0 c.in_ok-row.ensures.steps (c.iter-self-inside.ensures.rest ∙ c.items.ensures.value)
