use Rattle.std.proofs.Common.{◌≡◌, ◌+◌, ◌≤◌, [], length, slice_index_or, arith, ap, subst, ◌∙◌}
use Rattle.std.proofs.lemmas.Bool.{OnTrue_from}
use Rattle.std.proofs.lemmas.Bool.Decides.{nat_tests}
use Rattle.chain_refinement.specs.Internal.{Claimed, IsLevelBehind}
use Rattle.chain_refinement.specs.Refinement.{height_at}
use Rattle.chain_refinement.proofs.Climbs.{level_behind}
use Rattle.chain_refinement.proofs.few_places.is_level_behind.Goals as goal

pub returns-then-x-claim : goal.returns-then-x-claim
returns-then-x-claim g c =
    let claim = c.args.claim.now in
    let b = c.args.b in
    let last : c.args.x ≡ length claim.loads = c.if-x-claim.true ∙ ap (λ (seen : Claimed). length seen.loads) c.claim.view_is in
    let level : IsLevelBehind claim b c.args.x = λ z onward within.
    let same : c.args.x ≡ z = omega (arith, last, onward, within) in
    subst (λ n. height_at claim.heights (b + 1) n ≤ height_at claim.heights (b + 1) c.args.x) same (omega arith)
    in
    record { level = level }

pub returns : goal.returns
returns g c =
    let claim = c.args.claim.now in
    let b = c.args.b in
    let steps = slice_index_or claim.heights (b + 1) [] in
    let counted : length c.steps_of.result.now ≡ length steps = ap length c.steps_of.ensures.value in
    record {
      level = OnTrue_from _ (IsLevelBehind claim b c.args.x) (λ same z onward within.
          let ended : length steps ≤ c.args.place.high.next = grind (arith, nat_tests, same, counted) in
          level_behind steps c.args.x c.args.place.high.next c.args.place.high.height z c.requires.here.high ended onward);
    }
