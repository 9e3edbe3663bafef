use Rattle.std.proofs.Common.{rules, arith}
use Rattle.dump_format.proofs.dump.is_recorded.Goals as goal

pub returns-then-have_lengths : goal.returns-then-have_lengths
returns-then-have_lengths g c =
    let moves = rw c.as_slice.ensures.value at c.are_moves.ensures in
    let lists = c.if-have_lengths.ensures.0 (search rules) in (
      λ are_moves. record {
        some_target = omega arith;
        few_targets = omega arith;
        cuts = lists.0;
        stops = lists.1;
        names = lists.2;
        block_prices = lists.3;
        pe_prices = lists.4;
        few_moves = (moves.0 are_moves).0;
        moved_elements = (moves.0 are_moves).1;
      },
      λ is. moves.1 (is.few_moves, is.moved_elements),
    )
