use Rattle.std.specs.Int.{IsGcd, ◌∣◌}
use Rattle.std.proofs.Common.{◌≡◌, inl, inr, max, arith, rules, subst, sym, ◌∙◌, ◌≤◌, ◌*◌, ◌^◌}
use Rattle.std.proofs.lemmas.Bool.{cases_lt}
use Rattle.std.proofs.lemmas.Nat.Gcd.{dvd_refl, dvd_trans}
use Rattle.speed_certificates.specs.Speeds.{speed_of}
use Rattle.speed_partition.proofs.TickTimes.{divides_max, scale_from, scale_small, some_divisor}
use Rattle.speed_partition.proofs.ticks.ticks_in_unit.Goals as goal

pub loop-pe-init : goal.loop-pe-init
loop-pe-init c =
    let first : speed_of c.args.pes.now 0 ≡ c.speed-greatest.result = sym c.speed-greatest.ensures.value in
    record {
      some = c.speed-greatest.ensures.some;
      small = c.speed-greatest.ensures.small;
      above = λ p before.
          let e : 0 ≡ p = omega arith in
          subst (λ q. speed_of c.args.pes.now q ≤ c.speed-greatest.result) e (omega (arith, first));
      some_divisor = c.speed-greatest.ensures.some;
      divides = dvd_refl c.speed-greatest.result;
      each = λ p before.
          let e : 0 ≡ p = omega arith in
          subst (λ q. c.speed-greatest.result ∣ speed_of c.args.pes.now q) e (rw first (dvd_refl c.speed-greatest.result));
    }

pub loop-pe-preserved : goal.loop-pe-preserved
loop-pe-preserved c =
    let pes = c.args.pes.now in
    let k = c.loop-pe.pe in
    let before = c.loop-pe.invariant in
    let divisor = c.common_divisor-divisor.result in
    let greatest : c.max-greatest.result ≡ max c.loop-pe.greatest c.speed.result = search rules in
    let same : c.speed-in-loop-pe.result ≡ c.speed.result = c.speed-in-loop-pe.ensures.value ∙ sym c.speed.ensures.value in
    let is : IsGcd c.loop-pe.divisor c.speed-in-loop-pe.result divisor = c.common_divisor-divisor.ensures in
    let of_speed : divisor ∣ c.speed.result = subst (λ n. divisor ∣ n) same is.1 in
    record {
      some = omega (arith, greatest, before.some);
      small = omega (arith, greatest, before.small, c.speed.ensures.small);
      above = λ p inside. elim (cases_lt p k) [
        | inl earlier ↦ omega (arith, greatest, before.above p earlier)
        | inr latest ↦
            let e : k ≡ p = omega arith in
            subst (λ q. speed_of pes q ≤ c.max-greatest.result) e (omega (arith, greatest, c.speed.ensures.value))
      ];
      some_divisor = some_divisor divisor c.speed.result of_speed c.speed.ensures.some;
      divides = rw greatest (divides_max divisor c.loop-pe.greatest c.speed.result (dvd_trans divisor is.0 before.divides) of_speed);
      each = λ p inside. elim (cases_lt p k) [
        | inl earlier ↦ dvd_trans divisor is.0 (before.each p earlier)
        | inr latest ↦
            let e : k ≡ p = omega arith in
            subst (λ q. divisor ∣ speed_of pes q) e (subst (λ n. divisor ∣ n) c.speed.ensures.value of_speed)
      ];
    }

pub overflow_mul-result : goal.overflow_mul-result
overflow_mul-result c =
    let small : c.from.result * c.from-2.result ≤ 2 ^ 40 = rw (c.from.ensures, c.from-2.ensures)
    (scale_small c.loop-pe.greatest c.loop-pe.divisor c.loop-pe.invariant.small) in
    omega (arith, small)

pub returns : goal.returns
returns c =
    record {
      scale = rw (c.from.ensures, c.from-2.ensures) (scale_from c.args.pes.now c.loop-pe.greatest c.loop-pe.divisor c.len-count.ensures.pes
          c.loop-pe.invariant.some c.loop-pe.invariant.small (λ p inside. c.loop-pe.invariant.above p (omega arith)) c.loop-pe.invariant.divides
          (λ p inside. c.loop-pe.invariant.each p (omega arith)));
    }
