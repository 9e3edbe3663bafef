use Rattle.std.proofs.Common.{◌≡◌, ◌∙◌, ℕ, ◌+◌, ◌<◌, ◌∷◌, add-one, ap, arith, drop, get_or, length, subst, sym}
use Rattle.std.proofs.Math.Seq.{drop-cons}
use Rattle.std.specs.Prelude.{All}
use Rattle.rts_core.proofs.Openings.{KeysBelow, drop_next}
use Rattle.placed_runs.proofs.Placing.{placed_next}
use Rattle.placed_runs.proofs.opening.place_all.Goals as goal

pub place_told-requires-clause-opens : goal.place_told-requires-clause-opens
place_told-requires-clause-opens g c =
    let inv = c.loop-chare.invariant in
    let taken : c.loop-chare.left.items ≡ c.in-Some.chare ∷ c.take_next.new.left.items = c.in-Some.ensures.taken in
    let next = drop_next g.H.Openings.opened c.loop-chare.e c.in-Some.chare c.take_next.new.left.items (sym taken ∙ inv.what_is_left) in
    rw c.index_at-index.ensures.value next.1

pub place_told-requires-clause-inside : goal.place_told-requires-clause-inside
place_told-requires-clause-inside g c =
    let inv = c.loop-chare.invariant in
    let taken : c.loop-chare.left.items ≡ c.in-Some.chare ∷ c.take_next.new.left.items = c.in-Some.ensures.taken in
    let inside : c.loop-chare.e < length c.args.places.now = omega (arith, inv.counted, ap length taken) in
    omega (arith, c.requires.named c.loop-chare.e 0 inside, inv.same_pes)

pub place_told-requires-clause-before : goal.place_told-requires-clause-before
place_told-requires-clause-before g c = rw c.index_at-index.ensures.value c.loop-chare.invariant.before

pub loop-chare-preserved : goal.loop-chare-preserved
loop-chare-preserved g c =
    let inv = c.loop-chare.invariant in
    let taken : c.loop-chare.left.items ≡ c.in-Some.chare ∷ c.take_next.new.left.items = c.in-Some.ensures.taken in
    let next = drop_next g.H.Openings.opened c.loop-chare.e c.in-Some.chare c.take_next.new.left.items (sym taken ∙ inv.what_is_left) in
    let inside : c.loop-chare.e < length c.args.places.now = omega (arith, inv.counted, ap length taken) in
    let place = c.index-places-e.result in
    let split : drop c.loop-chare.e c.args.places.now ≡ get_or c.args.places.now c.loop-chare.e place ∷ drop (c.loop-chare.e + 1) c.args.places.now =
    rw (add-one, drop-cons c.args.places.now c.loop-chare.e place) in
    let told : drop c.loop-chare.e c.args.places.now ≡ place ∷ drop (c.loop-chare.e + 1) c.args.places.now =
    split ∙ ap (λ (v : ℕ). v ∷ drop (c.loop-chare.e + 1) c.args.places.now) (sym c.index-places-e.is) in
    record {
      same_placed = placed_next c.loop-chare.pes.items c.place_told.new.pes.items c.loop-chare.e c.index_at-index.result _ c.in-Some.chare
          c.loop-chare.left.items c.take_next.new.left.items (drop c.loop-chare.e c.args.places.now) (drop (c.loop-chare.e + 1) c.args.places.now) _
          c.index_at-index.ensures.value taken told c.in_ok-place_told.ensures.placed inv.same_placed;
      what_is_left = next.0;
      counted = omega (arith, inv.counted, ap length taken);
      same_pes = c.in_ok-place_told.ensures.counted ∙ inv.same_pes;
      before = subst (λ (k : ℕ). All (KeysBelow {C = g.row.C.Denot} (k + 1)) c.place_told.new.pes.items) c.index_at-index.ensures.value c.in_ok-place_told.ensures.before;
    }
