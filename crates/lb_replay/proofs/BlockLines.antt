-- The lines of the blocks, one after another.
use Rattle.std.proofs.Common.{◌≡◌, ℕ, ◌+◌, List, [], ◌∷◌, ◌++◌, slice_index, arith, ap, sym, ◌∙◌, subst, append_assoc}
use Rattle.std.specs.List.{flat_map, range_with_len}
use Rattle.std.proofs.lemmas.Grind.{flat_map-append}
use Rattle.std.proofs.lemmas.List.{append-nil, map-id}
use Rattle.std.proofs.lemmas.List.FromFn.{map-range_with_len_more}
use Rattle.lb_certificates.specs.Chain.{block_load}
use Rattle.lb_replay.specs.Text.{block_line, block_lines, line_of}

-- one more piece of text, each made of a number
pieces_more : (piece : ℕ → List ℕ) (b : ℕ) → flat_map piece (range_with_len 0 (b + 1)) ≡ flat_map piece (range_with_len 0 b) ++ piece b
pieces_more piece b =
    let more : range_with_len 0 (b + 1) ≡ range_with_len 0 b ++ b ∷ [] = sym (map-id (range_with_len 0 (b + 1)))
    ∙ map-range_with_len_more (λ k. k) 0 b b (omega arith) ∙ ap (λ l. l ++ b ∷ []) (map-id (range_with_len 0 b)) in
    ap (flat_map piece) more ∙ flat_map-append piece (range_with_len 0 b) (b ∷ []) ∙ ap (λ l. flat_map piece (range_with_len 0 b) ++ l) (append-nil (piece b))

-- a text that was written behind another
behind : (before lines line start text : List ℕ) → start ≡ before ++ lines → text ≡ start ++ line → text ≡ before ++ (lines ++ line)
behind before lines line start text held written =
    written ∙ ap (λ s. s ++ line) held ∙ append_assoc before lines line

-- one more line was written
pub line_written : (loads cuts names : List ℕ) (b weight : ℕ) (before start text : List ℕ) → weight ≡ block_load loads cuts b
    → start ≡ before ++ block_lines loads cuts names b
    → text ≡ start ++ block_line b (slice_index cuts b) (slice_index cuts (b + 1)) weight (slice_index names b)
    → text ≡ before ++ block_lines loads cuts names (b + 1)
line_written loads cuts names b weight before start text is held written =
    let line : text ≡ start ++ line_of loads cuts names b = subst
    (λ w. text ≡ start ++ block_line b (slice_index cuts b) (slice_index cuts (b + 1)) w (slice_index names b)) is written in
    subst (λ lines. text ≡ before ++ lines) (sym (pieces_more (line_of loads cuts names) b))
    (behind before (block_lines loads cuts names b) (line_of loads cuts names b) start text held line)
