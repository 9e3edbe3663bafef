use Rattle.std.proofs.Common.{refl, inl}
use Rattle.event_lists.proofs.Texts.{needs_memory}
use Rattle.event_lists.proofs.reader.read_onto.Goals as goal

pub returns-in_default : goal.returns-in_default
returns-in_default g c =
    let before = c.loop-rest.invariant in
    inl (refl, needs_memory c.loop-rest.events.items c.args.bytes.now c.loop-rest.rest.now c.in-Ok.event c.in-Ok.behind.now before.1 before.0 c.in-Ok.ensures.0 c.in-Ok.ensures.1)
