use Rattle.std.proofs.Common.{◌≡◌, ℕ, ◌++◌, ◌-◌, ◌<◌, ◌≤◌, List, length, slice_index}
use Rattle.merged_chains.specs.Merged.{AreRuns}
use Rattle.merged_chains.specs.Windows.{AreEnds}
use Rattle.merged_chains.proofs.RunsByParts.{RunsTo}
use Rattle.merged_chains.proofs.merging.merge.Given as goal

abbrev pub invariant-loop-begin : goal.invariant-loop-begin
invariant-loop-begin g l =
    record {
      from : l.fn.first ≤ l.begin;
      to : l.begin ≤ l.last;
      inside : l.window ≤ length l.upper;
      paired : length l.loads.items ≡ length l.ends.items;
      before : (k : ℕ) → k < l.window → slice_index l.upper k ≤ l.begin;
      runs : (before runs starts : List ℕ) → length before ≡ l.fn.first → AreRuns before runs starts
          → RunsTo (before ++ l.part) (runs ++ l.loads.items) (starts ++ l.ends.items) l.begin;
      ends : AreEnds l.lower l.upper l.fn.first l.last l.begin l.ends.items;
    }

abbrev pub decreases-loop-begin : goal.decreases-loop-begin
decreases-loop-begin g l = l.last - l.begin
