use Rattle.merged_chains.specs.Weights.{AreRangeLoads}
use Rattle.merged_chains.proofs.PartWeights.{of_stops}
use Rattle.merged_chains.proofs.range_loads.loads_of_ranges.Goals as goal

pub returns-clause-weigh : goal.returns-clause-weigh
returns-clause-weigh g c =
    record {
      blocks_weigh = rw (← c.as_slice.ensures.value) c.in_ok-blocks.ensures.weigh;
      ranges_weigh = of_stops c.args.division.now.floor c.stops_of.result.now
          (λ stops. AreRangeLoads c.args.part.now c.args.first c.args.pes 1 stops c.in_ok-fence.fence.items) c.stops_of.ensures.stops
          c.in_ok-fence.ensures.weigh;
    }
