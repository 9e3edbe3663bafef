use Rattle.std.proofs.Common.{ℕ, List, drop, subst, ◌+◌}
use Rattle.chares.specs.declared.trace_entry.TraceEntry.{TraceEntry}
use Rattle.schedules.specs.Choices.{AreSilent, KnowsElement}
use Rattle.schedules.proofs.Choosers.{drop_here, only_more, step_silent}
use Rattle.schedules.proofs.choices.Choices.see_entries.Goals as goal

pub loop-entry-preserved : goal.loop-entry-preserved
loop-entry-preserved g c =
    let at = c.loop-entry in
    let entry = c.entry-item.result in
    record {
      only = only_more c.args.self.now at.self c.settle_one.new.self c.see_entry.new.self c.args.p at.entry-index c.args.entries.now entry
          c.loop-entry-test.true c.entry-item.is at.invariant.only c.settle_one.ensures.only c.see_entry.ensures.only;
      silent = step_silent c.args.world.now at.self c.settle_one.new.self c.see_entry.new.self c.args.p entry (drop (at.entry-index + 1) c.args.entries.now)
          c.settle_one.ensures.only c.see_entry.ensures.only c.see_entry.ensures.here c.see_entry.ensures.others
          (subst (λ (xs : List TraceEntry). (e : ℕ) → AreSilent e xs → KnowsElement c.args.world.now at.self e)
          (drop_here c.args.entries.now at.entry-index entry c.loop-entry-test.true c.entry-item.is) at.invariant.silent);
    }
