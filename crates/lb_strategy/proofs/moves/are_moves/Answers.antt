use Rattle.std.proofs.Common.{◌≡◌, length, take, slice_index, slice_index_or, ◌∷◌, [], arith, ap, ◌∙◌}
use Rattle.std.specs.List.{filter}
use Rattle.std.specs.Option.{option_to_list}
use Rattle.std.proofs.lemmas.List.{get_or_default}
use Rattle.lb_strategy.specs.Moves.{is_move, move_of, moves_below}
use Rattle.lb_strategy.proofs.MoveLists.{not_the_moves, all_taken}
use Rattle.lb_strategy.proofs.moves.are_moves.Goals as goal

pub returns-in_default : goal.returns-in_default
returns-in_default c =
    let read = get_or_default c.args.sizes.now c.loop-i.i c.index-sizes-i.result (0, 0) c.loop-i-test.true in
    let step : option_to_list c.move_of.result ≡ filter is_move (move_of c.args.sizes.now c.args.cuts.now c.args.names.now c.loop-i.i ∷ []) =
    c.move_of.ensures ∙ ap (λ s. filter is_move ((c.loop-i.i, s.1, slice_index c.args.names.now c.block_from-b.result) ∷ [])) read
    ∙ ap (λ b. filter is_move ((
      c.loop-i.i,
      (slice_index_or c.args.sizes.now c.loop-i.i (0, 0)).1,
      slice_index c.args.names.now b,
    ) ∷ [])) c.block_from-b.ensures.block in
    not_the_moves c.args.sizes.now c.args.cuts.now c.args.names.now (length c.args.sizes.now) c.loop-i.i c.args.moves.now
    (take c.loop-i.next c.args.moves.now) (option_to_list c.move_of.result) c.loop-i-test.true c.loop-i.invariant.so_far step c.in_default.ensures

pub returns : goal.returns
returns c =
    let all : c.loop-i.i ≡ length c.args.sizes.now = omega arith in
    all_taken c.args.moves.now (moves_below c.args.sizes.now c.args.cuts.now c.args.names.now (length c.args.sizes.now)) c.loop-i.next
    (c.loop-i.invariant.so_far ∙ ap (moves_below c.args.sizes.now c.args.cuts.now c.args.names.now) all) c.loop-i.invariant.inside
