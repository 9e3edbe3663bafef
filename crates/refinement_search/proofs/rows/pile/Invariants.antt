use Rattle.std.proofs.Common.{◌≡◌, ◌+◌, length, slice_index, vec_capacity, vec_len}
use Rattle.chain_refinement.specs.Refinement.{height_at}
use Rattle.refinement_search.specs.Chains.{ArePiledOn}
use Rattle.refinement_search.specs.Rows.{AreTopped}
use Rattle.refinement_search.proofs.rows.pile.Given as goal

abbrev pub invariant-loop-b : goal.invariant-loop-b
invariant-loop-b g l =
    record {
      counted : length l.row ≡ length l.chain.starts.now;
      room : vec_capacity l.rows ≡ length l.chain.names.now;
      filled : vec_len l.rows ≡ l.b + 1;
      topped : AreTopped (slice_index l.chain.near.now l.b) (slice_index l.chain.far.now l.b) l.b l.rows.items l.row;
      piled : ArePiledOn l.chain (l.b + 1) (height_at l.rows.items);
    }
