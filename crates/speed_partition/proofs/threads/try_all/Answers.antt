use Rattle.std.proofs.Common.{subst}
use Rattle.speed_partition.specs.Search.{WasTried}
use Rattle.speed_partition.proofs.threads.try_all.Goals as goal

pub returns : goal.returns
returns g c =
    record {
      tried = λ i d inside.
          let k = (c.for_each_mut.ensures i d inside).1 in
          subst (λ b. WasTried c.args.chain.now c.args.pes.now c.args.scale c.args.bounds.low c.args.bounds.high b) k.left k.call;
    }
