use Rattle.std.proofs.Common.{◌≡◌, ◌≢◌, ◌+◌, ◌<◌, ◌↔◌, List, ℕ, length, slice_index, arith, sym, ◌∙◌, subst}
use Rattle.block_assignment.specs.Least.{may_have, rows, AreRows}
use Rattle.block_assignment.specs.Table.{cost_at}
use Rattle.block_assignment.proofs.Steps.{all_known_more}
use Rattle.block_assignment.proofs.takers.write_takers.Goals as goal

pub loop-b-init : goal.loop-b-init
loop-b-init c = record { done = λ k p before. absurd (omega (arith, before)); to_do = λ k p _. c.requires.none k p }

pub loop-b-preserved : goal.loop-b-preserved
loop-b-preserved c =
    let b : ℕ = c.loop-b.b in
    let width : ℕ = c.args.width in
    let blocks : ℕ = c.args.table.now.blocks in
    let old : List ℕ = c.loop-b.words in
    let new : List ℕ = c.add_taker.new.words in
    let counted : length c.row.result.now ≡ blocks = c.row.ensures.counted in
    let others : (k p : ℕ) → k ≢ b → may_have (rows width blocks new) k p ≡ may_have (rows width blocks old) k p =
    subst (λ n. (k p : ℕ) → k ≢ b → may_have (rows width n new) k p ≡ may_have (rows width n old) k p) counted c.add_taker.ensures.others in
    let exact : (p : ℕ) → p < blocks → (may_have (rows width blocks new) b p ≡ 1) ↔
    (slice_index c.args.price.now b ≡ slice_index c.row.result.now p + slice_index c.args.discount.now p) =
    subst (λ n. (p : ℕ) → p < n → (may_have (rows width n new) b p ≡ 1) ↔
    (slice_index c.args.price.now b ≡ slice_index c.row.result.now p + slice_index c.args.discount.now p)) counted c.add_taker.ensures.exact in
    let here : (p : ℕ) → p < blocks → (may_have (rows width blocks new) b p ≡ 1) ↔
    (slice_index c.args.price.now b ≡ cost_at c.args.table.now b p + slice_index c.args.discount.now p) = λ p inside.
    subst (λ cost. (may_have (rows width blocks new) b p ≡ 1) ↔ (slice_index c.args.price.now b ≡ cost + slice_index c.args.discount.now p))
    (c.row.ensures.costs p inside) (exact p inside) in
    record {
      done = all_known_more (rows width blocks old) (rows width blocks new) b blocks
          (λ k p. slice_index c.args.price.now k ≡ cost_at c.args.table.now k p + slice_index c.args.discount.now p) c.loop-b.invariant.done others here;
      to_do = λ k p past inside. others k p (omega (arith, past)) ∙ c.loop-b.invariant.to_do k p (omega (arith, past)) inside;
    }

pub add_taker-requires-clause-discounts : goal.add_taker-requires-clause-discounts
add_taker-requires-clause-discounts c = c.requires.discounts ∙ sym c.row.ensures.counted

pub add_taker-requires-clause-rows : goal.add_taker-requires-clause-rows
add_taker-requires-clause-rows c =
    subst (λ n. AreRows c.args.width n c.loop-b.words) (sym c.row.ensures.counted) (record {
      counted = omega (arith, c.loop-b.auto.words, c.requires.rows.counted);
      wide = c.requires.rows.wide;
      few = c.requires.rows.few;
      narrow = c.requires.rows.narrow;
    })

pub add_taker-requires-clause-none : goal.add_taker-requires-clause-none
add_taker-requires-clause-none c =
    subst (λ n. (p : ℕ) → p < n → may_have (rows c.args.width n c.loop-b.words) c.loop-b.b p ≡ 0) (sym c.row.ensures.counted)
    (λ p inside. c.loop-b.invariant.to_do c.loop-b.b p (omega arith) inside)
