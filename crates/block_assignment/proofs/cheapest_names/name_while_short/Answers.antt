use Rattle.std.proofs.Common.{refl, ap, arith}
use Rattle.block_assignment.specs.Table.{Table}
use Rattle.block_assignment.proofs.cheapest_names.name_while_short.Goals as goal

pub loop-b-init : goal.loop-b-init
loop-b-init g c =
    record { sized = c.requires.sized; matched = c.requires.matched; small = c.requires.small; table = refl; named = c.requires.none_named; scanned = omega arith }

pub name_next-requires-clause-room : goal.name_next-requires-clause-room
name_next-requires-clause-room g c =
    omega (arith, c.loop-b.auto.to_scan, c.requires.room, c.requires.blocks, ap (λ (t : Table). t.blocks) c.loop-b.invariant.table)

pub returns-then-is_long-clause-sized : goal.returns-then-is_long-clause-sized
returns-then-is_long-clause-sized g c = c.loop-b.invariant.sized

pub returns-then-is_long-clause-matched : goal.returns-then-is_long-clause-matched
returns-then-is_long-clause-matched g c = c.loop-b.invariant.matched

pub returns-then-is_long-clause-small : goal.returns-then-is_long-clause-small
returns-then-is_long-clause-small g c = c.loop-b.invariant.small

pub returns-then-is_long-clause-table : goal.returns-then-is_long-clause-table
returns-then-is_long-clause-table g c = c.loop-b.invariant.table
