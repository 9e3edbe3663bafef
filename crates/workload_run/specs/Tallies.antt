-- The chares of a workload: tallies, each with its amount of every round.
use Rattle.std.specs.Prelude.{ℕ, List, map, replicate, slice_index}
use Rattle.std.specs.List.{range_with_len}
use Rattle.tally.specs.Tallies.{TallyView}
use Rattle.workload.specs.Text.{WorkloadView}

-- tally i of a workload, as it opens
abbrev pub tally_of : WorkloadView → ℕ → TallyView
tally_of w i = record { posted = 0; got = 0; sum = 0; amounts = map (λ row. slice_index row i) w.amounts; pad = replicate w.pad 0 }

-- all of them, in order
abbrev pub tallies_of : WorkloadView → List TallyView
tallies_of w = map (tally_of w) (range_with_len 0 w.chares)
