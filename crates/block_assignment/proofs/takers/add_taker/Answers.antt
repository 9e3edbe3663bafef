use Rattle.std.proofs.Common.{◌≡◌, ◌+◌, ◌<◌, List, ℕ, length, slice_index, arith, ap, ◌∙◌}
use Rattle.block_assignment.specs.Least.{may_have, rows, AreRows}
use Rattle.block_assignment.proofs.Steps.{put_here, put_others, put_apart, known_more}
use Rattle.block_assignment.proofs.WordRows.{IsJoined, joined, rows_counted}
use Rattle.block_assignment.proofs.takers.add_taker.Goals as goal
use Rattle.block_assignment.proofs.takers.add_taker.Goals.{then-price-row, else-price-row}

pub loop-p-preserved : goal.loop-p-preserved
loop-p-preserved c =
    let width : ℕ = c.args.width in
    let count : ℕ = length c.args.row.now in
    let takers : List (List ℕ) = rows width count c.loop-p.words in
    let next : List (List ℕ) = rows width count c.if-price-row.words in
    let i : ℕ = c.loop-p.p in
    let b : ℕ = c.args.b in
    let known = c.loop-p.invariant in
    let flat : AreRows width count c.loop-p.words = record {
      counted = omega (arith, c.loop-p.auto.words, c.requires.rows.counted);
      wide = c.requires.rows.wide;
      few = c.requires.rows.few;
      narrow = c.requires.rows.narrow;
    } in
    elim c.if-price-row.branch [
      | then-price-row w ↦
          let more : IsJoined takers i b next = joined width count c.loop-p.words c.if-price-row.words i b flat c.loop-p-test.true c.requires.inside w.words-is in
          let inside : i < length takers = omega (arith, c.loop-p-test.true, rows_counted width count c.loop-p.words) in
          record {
            done = known_more takers next b i (λ p. c.args.price ≡ slice_index c.args.row.now p + slice_index c.args.discount.now p)
                known.done (put_others takers next more.now i more.put b)
                (λ _. w.if-price-row.true, λ _. put_here takers next more.now i inside more.put b ∙ more.here);
            to_do = λ p past pe. put_others takers next more.now i more.put b p (omega (arith, past)) ∙ known.to_do p (omega (arith, past)) pe;
            others = λ k p other. put_apart takers next more.now i b inside more.put more.others k p other ∙ known.others k p other;
          }
      | else-price-row w ↦
          let same : next ≡ takers = ap (rows width count) w.words-is in
          let none = ap (λ (t : List (List ℕ)). may_have t b i) same ∙ known.to_do i (omega arith) c.loop-p-test.true in
          record {
            done = known_more takers next b i (λ p. c.args.price ≡ slice_index c.args.row.now p + slice_index c.args.discount.now p)
                known.done (λ p _. ap (λ (t : List (List ℕ)). may_have t b p) same)
                (λ one. absurd (omega (arith, one, none)), λ u_is. absurd (w.if-price-row.false u_is));
            to_do = λ p past pe. ap (λ (t : List (List ℕ)). may_have t b p) same ∙ known.to_do p (omega (arith, past)) pe;
            others = λ k p other. ap (λ (t : List (List ℕ)). may_have t k p) same ∙ known.others k p other;
          }
    ]
