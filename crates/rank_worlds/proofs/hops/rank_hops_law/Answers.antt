use Rattle.rank_worlds.proofs.StampedRanks.{by_rounds_opening, chase_in_time, late_in_time}
use Rattle.rank_worlds.proofs.hops.rank_hops_law.Goals as goal

pub returns-clause-late : goal.returns-clause-late
returns-clause-late g c = late_in_time

pub returns-clause-stamped : goal.returns-clause-stamped
returns-clause-stamped g c = λ run strategy steps last reached.
    let all = by_rounds_opening run strategy steps last reached in (all.made, all.led, all.reaches, all.of_last, all.entries)

pub returns-clause-hops : goal.returns-clause-hops
returns-clause-hops g c = chase_in_time
