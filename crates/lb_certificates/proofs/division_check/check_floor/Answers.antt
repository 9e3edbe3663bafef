use Rattle.std.proofs.Common.{◌≡◌, ◌≢◌, ◌+◌, ◌<◌, ◌≤◌, length, slice_index, ap, sym, ◌∙◌}
use Rattle.std.specs.List.Sorted.{IsNonDecreasing}
use Rattle.lb_certificates.specs.declared.division.Floor.TheVariants.{Fence}
use Rattle.lb_certificates.specs.Flaws.{Falls}
use Rattle.lb_certificates.proofs.NoFlaws.{count_is_first, end_is_first, fence_holds, light_is_first, order_is_first, start_is_first, zero_is_first}
use Rattle.lb_certificates.proofs.division_check.check_floor.Goals as goal

pub returns-in_default-clause-first_flaw : goal.returns-in_default-clause-first_flaw
returns-in_default-clause-first_flaw g c =
    zero_is_first c.args.loads.now c.args.pes c.args.division.now c.requires.divides c.requires.within c.in_default.is c.if-division-eq0.false

pub returns-then-stops-from-clause-first_flaw : goal.returns-then-stops-from-clause-first_flaw
returns-then-stops-from-clause-first_flaw g c =
    let same : c.args.division.now.floor ≡ Fence c.as_slice-stops.result.now = c.in-Fence.is ∙ ap (λ stops. Fence stops) (sym c.as_slice-stops.ensures.value) in
    let wrong : length c.as_slice-stops.result.now ≢ c.args.pes + 1 = λ counted. c.if-stops-from.true (counted ∙ sym (ap (λ n. n + 1) c.from.ensures)) in
    count_is_first c.args.loads.now c.args.pes c.args.division.now c.as_slice-stops.result.now c.requires.divides c.requires.within same wrong

pub returns-then-stops-ne0-clause-first_flaw : goal.returns-then-stops-ne0-clause-first_flaw
returns-then-stops-ne0-clause-first_flaw g c =
    let same : c.args.division.now.floor ≡ Fence c.as_slice-stops.result.now = c.in-Fence.is ∙ ap (λ stops. Fence stops) (sym c.as_slice-stops.ensures.value) in
    let counted : length c.as_slice-stops.result.now ≡ c.args.pes + 1 = c.if-stops-from.false ∙ ap (λ n. n + 1) c.from.ensures in
    let wrong : slice_index c.as_slice-stops.result.now 0 ≢ 0 = c.if-stops-ne0.true in
    start_is_first c.args.loads.now c.args.pes c.args.division.now c.as_slice-stops.result.now c.requires.divides c.requires.within same counted wrong

pub returns-then-not-rises-clause-first_flaw : goal.returns-then-not-rises-clause-first_flaw
returns-then-not-rises-clause-first_flaw g c =
    let same : c.args.division.now.floor ≡ Fence c.as_slice-stops.result.now = c.in-Fence.is ∙ ap (λ stops. Fence stops) (sym c.as_slice-stops.ensures.value) in
    let counted : length c.as_slice-stops.result.now ≡ c.args.pes + 1 = c.if-stops-from.false ∙ ap (λ n. n + 1) c.from.ensures in
    let starts : slice_index c.as_slice-stops.result.now 0 ≡ 0 = c.if-stops-ne0.false in
    let wrong : Falls c.as_slice-stops.result.now = c.if-not-rises.ensures in
    order_is_first c.args.loads.now c.args.pes c.args.division.now c.as_slice-stops.result.now c.requires.divides c.requires.within same counted starts wrong

pub returns-then-stops-pes-clause-first_flaw : goal.returns-then-stops-pes-clause-first_flaw
returns-then-stops-pes-clause-first_flaw g c =
    let same : c.args.division.now.floor ≡ Fence c.as_slice-stops.result.now = c.in-Fence.is ∙ ap (λ stops. Fence stops) (sym c.as_slice-stops.ensures.value) in
    let counted : length c.as_slice-stops.result.now ≡ c.args.pes + 1 = c.if-stops-from.false ∙ ap (λ n. n + 1) c.from.ensures in
    let starts : slice_index c.as_slice-stops.result.now 0 ≡ 0 = c.if-stops-ne0.false in
    let ordered : IsNonDecreasing c.as_slice-stops.result.now = c.if-not-rises.ensures in
    let wrong : length c.args.loads.now ≤ slice_index c.as_slice-stops.result.now c.args.pes = c.if-stops-pes.true in
    end_is_first c.args.loads.now c.args.pes c.args.division.now c.as_slice-stops.result.now c.requires.divides c.requires.within same counted starts ordered wrong

pub returns-in-None-clause-holds : goal.returns-in-None-clause-holds
returns-in-None-clause-holds g c =
    let same : c.args.division.now.floor ≡ Fence c.as_slice-stops.result.now = c.in-Fence.is ∙ ap (λ stops. Fence stops) (sym c.as_slice-stops.ensures.value) in
    let counted : length c.as_slice-stops.result.now ≡ c.args.pes + 1 = c.if-stops-from.false ∙ ap (λ n. n + 1) c.from.ensures in
    let starts : slice_index c.as_slice-stops.result.now 0 ≡ 0 = c.if-stops-ne0.false in
    let ordered : IsNonDecreasing c.as_slice-stops.result.now = c.if-not-rises.ensures in
    let ends : slice_index c.as_slice-stops.result.now c.args.pes < length c.args.loads.now = c.if-stops-pes.false in
    fence_holds c.args.loads.now c.args.pes c.args.division.now.bottleneck c.args.division.now.floor c.as_slice-stops.result.now same counted starts ordered ends c.in-None.ensures

pub returns-in-Some-clause-first_flaw : goal.returns-in-Some-clause-first_flaw
returns-in-Some-clause-first_flaw g c =
    let same : c.args.division.now.floor ≡ Fence c.as_slice-stops.result.now = c.in-Fence.is ∙ ap (λ stops. Fence stops) (sym c.as_slice-stops.ensures.value) in
    let counted : length c.as_slice-stops.result.now ≡ c.args.pes + 1 = c.if-stops-from.false ∙ ap (λ n. n + 1) c.from.ensures in
    let starts : slice_index c.as_slice-stops.result.now 0 ≡ 0 = c.if-stops-ne0.false in
    let ordered : IsNonDecreasing c.as_slice-stops.result.now = c.if-not-rises.ensures in
    let ends : slice_index c.as_slice-stops.result.now c.args.pes < length c.args.loads.now = c.if-stops-pes.false in
    light_is_first c.args.loads.now c.args.pes c.args.division.now c.as_slice-stops.result.now c.in-Some.i c.requires.divides
    c.requires.within same counted starts ordered ends c.in-Some.ensures
