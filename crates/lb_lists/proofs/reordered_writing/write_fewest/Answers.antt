use Rattle.lb_lists.proofs.ReorderedRuns.{levels_in}
use Rattle.lb_lists.proofs.reordered_writing.write_fewest.Goals as goal

pub returns-clause-levels : goal.returns-clause-levels
returns-clause-levels g c =
    let w = c.write_levels-count.ensures in
    levels_in (record { any = c.args.proof.any; free = c.args.proof.free }) c.write_levels-count.result
    c.args.levels.starts.items c.args.levels.places.items c.args.levels.rises.items _ _ c.requires.starts c.requires.places
    c.requires.rises w.counted w.starts w.places w.bytes w.starts_left w.places_left w.bytes_left
