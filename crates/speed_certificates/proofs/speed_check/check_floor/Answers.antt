use Rattle.std.proofs.Common.{◌≡◌, ◌+◌, ◌<◌, length, slice_index, arith, ap, sym, ◌∙◌}
use Rattle.std.specs.List.Sorted.{IsNonDecreasing}
use Rattle.speed_certificates.specs.declared.division.TimeFloor.TheVariants.{Fence}
use Rattle.speed_certificates.specs.Speeds.{count}
use Rattle.speed_certificates.proofs.Flawless.{early_is_first}
use Rattle.speed_certificates.proofs.speed_check.check_floor.Goals as goal

pub returns-in-Some-clause-first_flaw : goal.returns-in-Some-clause-first_flaw
returns-in-Some-clause-first_flaw g c =
    let pes = c.args.pes.now in
    let stops = c.as_slice-stops.result.now in
    let same : c.args.division.now.floor ≡ Fence stops = c.in-Fence.is ∙ ap (λ s. Fence s) (sym c.as_slice-stops.ensures.value) in
    let counted : length stops ≡ count pes + 1 = omega arith in
    let starts : slice_index stops 0 ≡ 0 = c.if-stops-ne0.false in
    let ordered : IsNonDecreasing stops = c.if-not-rises.ensures in
    let ends : slice_index stops (count pes) < length c.args.loads.now = rw (← c.len-2.ensures.value) (omega (arith, c.if-stops-len.false)) in
    early_is_first c.args.loads.now pes c.args.division.now stops c.in-Some.i c.requires.some_speed c.requires.divides c.requires.none_late
    same counted starts ordered ends c.in-Some.ensures
