use Rattle.std.proofs.Common.{◌≡◌, ◌∙◌, ◌<◌, ap, arith}
use Rattle.sync_board.proofs.Places.{decided_before}
use Rattle.sync_board.specs.Boards.{place_in}
use Rattle.lb_database.specs.Measuring.{elements}
use Rattle.barrier.proofs.Copies.{kept_places, same_place}
use Rattle.barrier.specs.Places.{ArePlaces, PlacesView, place_among, places_by}
use Rattle.barrier.proofs.run_board.RunBoard.copy_places.Goals as goal

pub copy-requires-clause-not_last : goal.copy-requires-clause-not_last
copy-requires-clause-not_last g c = decided_before c.self.inside.board c.args.round c.in-Some.decision.now c.in-Some.ensures.decided
    c.rounds-rounds.ensures.consistent c.len-len.ensures.within_limits

pub copy-requires-clause-for_pes : goal.copy-requires-clause-for_pes
copy-requires-clause-for_pes g c =
    let places : ArePlaces c.self.inside.board.pes c.in-Some.decision.now.division.cuts
    c.in-Some.decision.now.naming = kept_places c.self.inside.board c.args.round c.in-Some.decision.now c.in-Some.ensures.decided in
    let on_pes : c.self.inside.board.pes ≡ g.J.BoardSize.pes = c.self.invariant.1 in
    rw (c.as_slice.ensures.value, c.as_slice-2.ensures.value, ← on_pes) places

pub returns-clause-places : goal.returns-clause-places
returns-clause-places g c _ i inside =
    let known : i < elements c.self.inside.board.database = omega (arith, inside, c.self.invariant.0) in
    let copied : c.copy.new.self ≡ places_by c.args.round c.in-Some.decision.now = rw (← c.as_slice.ensures.value, ← c.as_slice-2.ensures.value) c.copy.ensures.copied in
    let same : place_among (places_by c.args.round c.in-Some.decision.now) i ≡ place_in c.self.inside.board c.args.round i = same_place
    c.self.inside.board c.args.round c.in-Some.decision.now c.in-Some.ensures.decided i known in
    ap (λ (places : PlacesView). place_among places i) copied ∙ rw (← c.self.view_is) same
