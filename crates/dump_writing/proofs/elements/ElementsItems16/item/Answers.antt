use Rattle.std.proofs.Common.{◌<◌, ◌++◌, ℕ, ap, ◌∙◌, length, arith}
use Rattle.std.specs.Prelude.{slice_index, slice_index_or}
use Rattle.std.proofs.lemmas.List.{get_or_default}
use Rattle.dump_format.specs.Text.{word, long}
use Rattle.dump_writing.proofs.elements.ElementsItems16.item.Goals as goal

pub returns : goal.returns
returns c =
    let it = c.args.self.now in
    let load = long (slice_index it.loads.now c.args.i) in
    let inside : c.args.i < length it.sizes.now = omega (arith, it.paired) in
    let size = slice_index_or it.sizes.now c.args.i (0, 0) in
    c.long_and_words.ensures
    ∙ ap (λ (pair : ℕ × ℕ). load ++ (word pair.0 ++ word c.get.result)) (get_or_default it.sizes.now c.args.i c.index-self-i.result (0, 0) inside)
    ∙ ap (λ (place : ℕ). load ++ (word size.0 ++ word place))
    (c.get.ensures.value ∙ ap (λ (pair : ℕ × ℕ). pair.1) (get_or_default it.sizes.now c.args.i c.index-self-i-2.result (0, 0) inside))
