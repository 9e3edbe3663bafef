use Rattle.merged_chains.proofs.RunsByParts.{runs_within}
use Rattle.merged_chains.proofs.part_lists.merge_part.Goals as goal

pub returns-clause-merged : goal.returns-clause-merged
returns-clause-merged g c =
    let found = c.in_ok-runs.ensures in
    let runs = c.in_ok-runs.runs in (
      runs.loads.items,
      runs.ends.items,
      c.write_runs.ensures.counted,
      runs_within c.in_ok-part.part c.args.loads.now c.args.first c.in-Some.windows c.args.lower.now c.args.upper.now runs.loads.items
          runs.ends.items c.in_ok-part.ensures.made c.in-Some.ensures.made found.paired found.runs found.ends found.kept,
      c.write_runs.ensures.written,
    )
