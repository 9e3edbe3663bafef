use Rattle.std.proofs.Common.{◌≡◌, arith, length, rules, subst}
use Rattle.lb_certificates.specs.Naming.{blocks_between, bytes_moved, IsLeastNaming, IsNamed}
use Rattle.lb_strategy.proofs.RightDecisions.{cheapest_from_right, least_from_right, place_from_right}
use Rattle.lb_strategy.specs.Decisions.{ArePricesBounded, IsRight}
use Rattle.lb_strategy.specs.Moves.{moves_below}
use Rattle.lb_strategy.specs.declared.decision.Decision.{Decision}
use Rattle.lb_strategy.proofs.planning.complete.Goals as goal

pub returns-clause-planned : goal.returns-clause-planned
returns-clause-planned g c =
    let loads = c.args.snapshot.now.loads in
    let sizes = c.args.snapshot.now.sizes in
    let d : Decision g.row.A.Denot = record {
      division = c.args.division;
      naming = c.in_ok-naming.naming;
      prices = c.in_ok-naming.prices;
      moved = c.in_ok-naming.moved;
      moves = c.in_ok-moves.moves;
    } in
    let named : IsNamed c.args.snapshot.now.sizes c.args.division.cuts c.in_ok-naming.naming c.in_ok-naming.prices.u
    c.in_ok-naming.prices.v = rw (← c.sizes-sizes.ensures.value) c.in_ok-naming.ensures.named in
    let moved : c.in_ok-naming.moved ≡ bytes_moved c.args.snapshot.now.sizes c.args.division.cuts c.in_ok-naming.naming = search (rules, c.in_ok-naming.ensures) in
    let moves : c.in_ok-moves.moves ≡ moves_below c.args.snapshot.now.sizes c.args.division.cuts c.in_ok-naming.naming
    (length c.args.snapshot.now.sizes) = first_of (cc (c.in_ok-moves.ensures.moves), search (rules, c.in_ok-moves.ensures.moves)) in
    let right : IsRight loads sizes c.args.pes d = record { division = c.requires.certified; named = named; moved = moved; moves = moves } in
    let least : IsLeastNaming c.args.snapshot.now.sizes c.args.division.cuts (blocks_between c.args.division.cuts)
    c.in_ok-naming.naming = rw (← c.sizes-sizes.ensures.value) c.in_ok-naming.ensures.least_naming in
    let counted : blocks_between c.args.division.cuts ≡ c.args.pes = omega (arith, c.requires.certified.divides.counted) in
    let bounded : ArePricesBounded c.args.snapshot.now.sizes c.args.division.cuts c.in_ok-naming.prices.u c.in_ok-naming.prices.v = rw
    (← c.sizes-sizes.ensures.value) c.in_ok-naming.ensures.bounded in
    record {
      right = right;
      chosen = c.requires.chosen;
      least = least_from_right loads sizes c.args.pes d right;
      cheapest = cheapest_from_right loads sizes c.args.pes d right;
      least_naming = subst (λ n. IsLeastNaming c.args.snapshot.now.sizes c.args.division.cuts n c.in_ok-naming.naming) counted least;
      places = place_from_right loads sizes c.args.pes d right;
      bounded = bounded;
    }
