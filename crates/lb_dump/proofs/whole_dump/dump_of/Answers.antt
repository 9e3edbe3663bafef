use Rattle.std.proofs.Common.{◌≡◌, refl, subst}
use Rattle.dump_format.specs.Text.{IsText}
use Rattle.lb_dump.specs.declared.head.Head.{Head}
use Rattle.lb_dump.specs.Held.{text_of}
use Rattle.lb_dump.specs.Made.{recorded_with, taken_of}
use Rattle.lb_dump.proofs.WholeDumps.{text_made, value_of}
use Rattle.lb_dump.proofs.whole_dump.dump_of.Goals as goal

pub unwrap-requires : goal.unwrap-requires
unwrap-requires g c =
    let held = c.args.held in
    let made = text_made held.head held.loads.items held.sizes.items held.plan held.moves.items held.begun.items c.requires.held c.requires.whole in
    rw made.1 refl

pub returns : goal.returns
returns g c =
    let held = c.args.held in
    let made = text_made held.head held.loads.items held.sizes.items held.plan held.moves.items held.begun.items c.requires.held c.requires.whole in
    let same : made.0 ≡ c.unwrap.result = cc (made.1, c.unwrap.ensures) in
    let value = value_of c.new.result _ _ c.unwrap-2.result c.new.ensures.made c.unwrap-2.ensures in
    rw (value, c.snapshot_of-snapshot.ensures, c.recorded_of.ensures)
    (subst (λ (h : Head). IsText (record {
      snapshot = taken_of h held.loads.items held.sizes.items;
      recorded = recorded_with held.plan held.moves.items;
    }) (text_of held)) same made.4)
