use Rattle.std.proofs.Common.{◌≡◌, ◌+◌, ◌-◌, ◌*◌, ◌<◌, ℕ, List, [], length, take, drop, slice_index_or, arith, ap, sym, ◌∙◌}
use Rattle.block_assignment.proofs.WordRows.{row_counted, row_inside, row_is, rows_counted}
use Rattle.block_assignment.proofs.block_set.BlockSets.of.Goals as goal

pub slice_bounds-result-end : goal.slice_bounds-result-end
slice_bounds-result-end c =
    let inside : c.args.p < c.self.inside.count = omega (
      arith,
      c.requires.inside,
      ap (λ (sets : List (List ℕ)). length sets) c.self.view_is,
      rows_counted c.self.inside.width c.self.inside.count c.self.inside.words.now,
    ) in
    omega (arith, row_inside c.self.inside.width c.self.inside.count c.args.p inside, c.self.invariant.counted)

pub returns-clause-value : goal.returns-clause-value
returns-clause-value c =
    let width : ℕ = c.self.inside.width in
    let words : List ℕ = c.self.inside.words.now in
    let start : ℕ = c.args.p * width in
    let inside : c.args.p < c.self.inside.count = omega
    (arith, c.requires.inside, ap (λ (sets : List (List ℕ)). length sets) c.self.view_is, rows_counted width c.self.inside.count words) in
    let short : start + width - start ≡ width = omega arith in
    ap (λ n. take n (drop start words)) short ∙ sym (row_is width c.self.inside.count words c.args.p inside)
    ∙ ap (λ (sets : List (List ℕ)). slice_index_or sets c.args.p []) c.self.view_is

pub returns-clause-wide : goal.returns-clause-wide
returns-clause-wide c =
    let width : ℕ = c.self.inside.width in
    let words : List ℕ = c.self.inside.words.now in
    let count : ℕ = c.self.inside.count in
    let inside : c.args.p < count = omega (arith, c.requires.inside, ap (λ (sets : List (List ℕ)). length sets) c.self.view_is, rows_counted width count words) in
    omega (
      arith,
      ap (λ (sets : List (List ℕ)). length sets) c.self.view_is,
      rows_counted width count words,
      c.self.invariant.wide,
      ap (λ (xs : List ℕ). length xs) (returns-clause-value c),
      ap (λ (sets : List (List ℕ)). length (slice_index_or sets c.args.p [])) c.self.view_is,
      row_counted width count words c.args.p c.self.invariant inside,
    )
