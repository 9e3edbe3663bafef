use Rattle.std.proofs.Common.{◌+◌, refl, ◌∙◌, ap, arith}
use Rattle.block_assignment.specs.Table.{Table}
use Rattle.block_assignment.proofs.cheapest_names.name_all.Goals as goal

pub loop-init : goal.loop-init
loop-init g c =
    record { sized = c.requires.sized; matched = c.requires.matched; small = c.requires.small; table = refl; named = c.requires.none_named }

pub loop-preserved : goal.loop-preserved
loop-preserved g c =
    let next = c.name_next.ensures in
    record {
      sized = next.sized;
      matched = next.matched;
      small = next.small;
      table = next.table ∙ c.loop.invariant.table;
      named = next.named ∙ ap (λ n. n + 1) c.loop.invariant.named;
    }

pub name_next-requires-clause-room : goal.name_next-requires-clause-room
name_next-requires-clause-room g c =
    omega (arith, c.loop.auto.to_scan, c.requires.room, c.requires.blocks, ap (λ (t : Table). t.blocks) c.loop.invariant.table)
