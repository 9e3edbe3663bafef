use Rattle.std.proofs.Common.{◌≡◌, min, max, arith, rules, subst}
use Rattle.speed_partition.specs.Search.{WasTried}
use Rattle.speed_partition.specs.declared.walk.Bound.TheVariants.{Fits, Stops}
use Rattle.speed_partition.proofs.TickSearch.{greater_stops, lesser_fits}
use Rattle.speed_partition.proofs.threads.narrowed.Goals as goal
use Rattle.speed_partition.proofs.threads.narrowed.Goals.{in-Fits, in-Stops}

pub loop-bound-preserved : goal.loop-bound-preserved
loop-bound-preserved g c =
    let xs = c.args.chain.now in
    let pes = c.args.pes.now in
    let scale = c.args.scale in
    let before = c.loop-bound.invariant in
    elim c.match-bound.branch [
      | in-Fits w ↦
          let tried : WasTried xs pes scale c.args.bounds.low c.args.bounds.high (Fits w.in-Fits.latest) = subst
          (λ b. WasTried xs pes scale c.args.bounds.low c.args.bounds.high b) w.in-Fits.is (c.requires.tried c.loop-bound.bound-index (Fits 0) (omega arith)) in
          let low : c.match-bound.low ≡ c.loop-bound.low = w.low-is in
          let high : c.match-bound.high ≡ min c.loop-bound.high w.in-Fits.latest = search rules in
          record {
            enclosed = rw (low, high) (record {
              stops = before.enclosed.stops;
              fits = lesser_fits xs pes scale c.loop-bound.high w.in-Fits.latest before.enclosed.fits tried.3.1;
            });
            from = omega (arith, before.from);
            to = omega (arith, before.to);
            closer = λ some. omega (arith, before.from, before.to, tried.1, tried.2, tried.3.0);
          }
      | in-Stops w ↦
          let tried : WasTried xs pes scale c.args.bounds.low c.args.bounds.high (Stops w.in-Stops.next) = subst
          (λ b. WasTried xs pes scale c.args.bounds.low c.args.bounds.high b) w.in-Stops.is (c.requires.tried c.loop-bound.bound-index (Fits 0) (omega arith)) in
          let low : c.match-bound.low ≡ max c.loop-bound.low w.in-Stops.next = search rules in
          let high : c.match-bound.high ≡ c.loop-bound.high = w.high-is in
          record {
            enclosed = rw (low, high) (record {
              stops = greater_stops xs pes scale c.loop-bound.low w.in-Stops.next before.enclosed.stops tried.3.1;
              fits = before.enclosed.fits;
            });
            from = omega (arith, before.from);
            to = omega (arith, before.to);
            closer = λ some. omega (arith, before.from, before.to, tried.1, tried.2, tried.3.0);
          }
    ]
