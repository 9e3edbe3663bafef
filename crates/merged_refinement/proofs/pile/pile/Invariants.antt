use Rattle.std.proofs.Common.{◌≡◌, ◌+◌, ◌-◌, length, vec_capacity, vec_len}
use Rattle.merged_refinement.specs.Rows.{ArePiledUp, AreSmall}
use Rattle.merged_refinement.proofs.pile.pile.Given as goal

abbrev pub invariant-loop-b : goal.invariant-loop-b
invariant-loop-b g l =
    record {
      room : vec_capacity l.rows ≡ length l.table.near.now - 1;
      filled : vec_len l.rows ≡ l.b + 1;
      piled : ArePiledUp l.bytes l.table (l.b + 1) l.rows.items;
      small : AreSmall l.bytes l.table l.b l.rows.items;
    }
