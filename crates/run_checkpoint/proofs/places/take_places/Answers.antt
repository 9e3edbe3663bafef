use Rattle.run_checkpoint.proofs.PlacesLine.{none_taken, one_taken, next_of, shorter, all_taken}
use Rattle.run_checkpoint.proofs.places.take_places.Goals as goal

pub loop-place-init : goal.loop-place-init
loop-place-init g c = none_taken c.args.bytes.now c.args.places.now.items c.requires.empty

pub loop-place-smaller : goal.loop-place-smaller
loop-place-smaller g c = shorter c.loop-place.rest.now c.in-Some.place c.in-Some.behind.now c.in-Some.ensures

pub loop-place-preserved : goal.loop-place-preserved
loop-place-preserved g c =
    one_taken c.args.bytes.now c.loop-place.past _ c.loop-place.places.items c.keep.new.places.items c.loop-place.rest.now c.in-Some.behind.now c.in-Some.place
    c.loop-place.invariant c.in-Some.ensures
    (next_of c.loop-place.past c.in_ok-kept.kept c.loop-place.places.items c.keep.new.places.items c.in-Some.place c.in_ok-kept.ensures)

pub returns : goal.returns
returns g c =
    all_taken c.args.bytes.now c.loop-place.past c.loop-place.places.items c.loop-place.rest.now c.loop-place.invariant c.in_default.ensures
