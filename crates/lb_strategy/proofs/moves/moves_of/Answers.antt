use Rattle.std.proofs.Common.{◌≡◌, ◌≤◌, ◌<◌, ◌+◌, ◌++◌, length, slice_index, slice_index_or, ◌∷◌, [], arith, ap, sym, ◌∙◌}
use Rattle.std.specs.List.{filter}
use Rattle.std.specs.Option.{option_to_list}
use Rattle.std.proofs.lemmas.List.{get_or_default}
use Rattle.lb_certificates.specs.Naming.{block_of, blocks_between}
use Rattle.lb_certificates.proofs.BlockSums.{block_of_is}
use Rattle.lb_strategy.specs.Moves.{is_move, move_of, moves_below}
use Rattle.lb_strategy.proofs.MoveLists.{moves_more}
use Rattle.lb_strategy.proofs.moves.moves_of.Goals as goal

pub loop-i-preserved : goal.loop-i-preserved
loop-i-preserved g c =
    let sizes = c.args.sizes.now in
    let cuts = c.args.cuts.now in
    let names = c.args.names.now in
    let b = c.loop-b.b in
    let i = c.loop-i.i in
    let divides = c.requires.blocks.divides in
    let below : slice_index cuts (b + 1) ≤ slice_index cuts (blocks_between cuts) = divides.ordered (b + 1) (blocks_between cuts) 0
    (omega arith) (omega (arith, divides.counted)) in
    let inside : i < length sizes = omega (arith, below, divides.ends) in
    let block : block_of cuts i ≡ b = block_of_is (length sizes) (blocks_between cuts) cuts b i divides (omega arith) (omega arith) (omega arith) in
    let read = get_or_default sizes i c.index-sizes-i.result (0, 0) inside in
    let step : option_to_list c.move_of.result ≡ filter is_move (move_of sizes cuts names i ∷ []) =
    c.move_of.ensures ∙ ap (λ s. filter is_move ((i, s.1, slice_index names b) ∷ [])) read
    ∙ ap (λ k. filter is_move ((i, (slice_index_or sizes i (0, 0)).1, slice_index names k) ∷ [])) (sym block) in
    c.in_ok-push_move.ensures ∙ ap (λ xs. xs ++ option_to_list c.move_of.result) c.loop-i.invariant
    ∙ ap (λ s. moves_below sizes cuts names i ++ s) step ∙ sym (moves_more sizes cuts names i)
