use Rattle.std.proofs.Common.{inr}
use Rattle.run_checkpoint.proofs.PlacesLine.{not_kept}
use Rattle.run_checkpoint.proofs.places.read_places.Goals as goal

pub returns-then-past : goal.returns-then-past
returns-then-past g c =
    inr (not_kept c.args.line c.args.bytes.now c.in-Some.rest.now c.take_places.new.places.items c.in-Ok.rest.now c.in-Some-behind.rest.now
    c.in-Some.ensures (rw c.if-past.true at c.in-Ok.ensures) c.in-Some-behind.ensures)
