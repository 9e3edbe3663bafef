use Rattle.std.proofs.Common.{◌<◌, length, arith, rules}
use Rattle.merged_chains.proofs.RunsByParts.{next_at_last, next_by_window}
use Rattle.merged_chains.proofs.merging.end_of_run.Goals as goal

pub returns-then-window-lower : goal.returns-then-window-lower
returns-then-window-lower c =
    record { next = next_at_last c.args.lower.now c.args.upper.now c.args.window c.args.element c.args.last c.requires.ordered c.requires.first c.requires.before (omega arith) }

pub returns : goal.returns
returns c =
    let inside : c.args.window < length c.args.lower.now = omega (arith, c.requires.first.inside, c.requires.ordered.paired) in
    record {
      next = next_by_window c.args.lower.now c.args.upper.now c.args.window c.args.element c.args.last c.min.result
          c.requires.ordered c.requires.first c.requires.before inside (search rules);
    }
