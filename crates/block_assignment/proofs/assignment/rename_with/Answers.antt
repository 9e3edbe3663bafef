use Rattle.std.proofs.Common.{◌≡◌, ◌+◌, ◌*◌, ℕ, List, length, slice_index, arith, ap, sym, ◌∙◌, subst}
use Rattle.std.proofs.lemmas.List.{get_or-take}
use Rattle.lb_certificates.specs.Naming.{IsNaming}
use Rattle.block_assignment.specs.Least.{rows}
use Rattle.block_assignment.specs.Search.{IsTight}
use Rattle.block_assignment.specs.Table.{cost_at}
use Rattle.block_assignment.proofs.Tight.{IsExact, allowed_if_tight, tight_if_allowed, first_from_least}
use Rattle.block_assignment.proofs.WordRows.{none_in_rows, rows_counted}
use Rattle.block_assignment.proofs.assignment.rename_with.Goals as goal

pub make_least-requires-clause-allowed : goal.make_least-requires-clause-allowed
make_least-requires-clause-allowed c =
    let blocks : ℕ = c.args.table.now.blocks in
    let cost : ℕ → ℕ → ℕ = cost_at c.args.table.now in
    let width : ℕ = c.args.width in
    let takers : List (List ℕ) = c.new-takers.result in
    let same : takers ≡ rows width blocks c.write_takers.new.words = c.new-takers.ensures.value ∙ ap (λ n. rows width n c.write_takers.new.words) c.blocks-blocks.ensures.value in
    let counted : length takers ≡ blocks = ap (λ (xs : List (List ℕ)). length xs) same ∙ rows_counted width blocks c.write_takers.new.words in
    let exact : IsExact blocks cost c.args.price.now c.args.discount.now takers = subst
    (λ t. IsExact blocks cost c.args.price.now c.args.discount.now t) (sym same) c.write_takers.ensures.exact in
    allowed_if_tight blocks cost c.args.price.now c.args.discount.now c.args.names.now takers counted exact c.requires.tight

pub returns-clause-tight : goal.returns-clause-tight
returns-clause-tight c =
    let blocks : ℕ = c.args.table.now.blocks in
    let cost : ℕ → ℕ → ℕ = cost_at c.args.table.now in
    let width : ℕ = c.args.width in
    let takers : List (List ℕ) = c.new-takers.result in
    let same : takers ≡ rows width blocks c.write_takers.new.words = c.new-takers.ensures.value ∙ ap (λ n. rows width n c.write_takers.new.words) c.blocks-blocks.ensures.value in
    let counted : length takers ≡ blocks = ap (λ (xs : List (List ℕ)). length xs) same ∙ rows_counted width blocks c.write_takers.new.words in
    let exact : IsExact blocks cost c.args.price.now c.args.discount.now takers = subst
    (λ t. IsExact blocks cost c.args.price.now c.args.discount.now t) (sym same) c.write_takers.ensures.exact in
    let naming : IsNaming blocks c.make_least.new.names = subst (λ n. IsNaming n c.make_least.new.names) counted c.make_least.ensures.naming in
    tight_if_allowed blocks cost c.args.price.now c.args.discount.now c.args.names.now c.make_least.new.names takers counted exact
    c.requires.tight naming c.make_least.ensures.allowed

pub returns-clause-least_naming : goal.returns-clause-least_naming
returns-clause-least_naming c =
    let blocks : ℕ = c.args.table.now.blocks in
    let cost : ℕ → ℕ → ℕ = cost_at c.args.table.now in
    let width : ℕ = c.args.width in
    let takers : List (List ℕ) = c.new-takers.result in
    let same : takers ≡ rows width blocks c.write_takers.new.words = c.new-takers.ensures.value ∙ ap (λ n. rows width n c.write_takers.new.words) c.blocks-blocks.ensures.value in
    let counted : length takers ≡ blocks = ap (λ (xs : List (List ℕ)). length xs) same ∙ rows_counted width blocks c.write_takers.new.words in
    let exact : IsExact blocks cost c.args.price.now c.args.discount.now takers = subst
    (λ t. IsExact blocks cost c.args.price.now c.args.discount.now t) (sym same) c.write_takers.ensures.exact in
    let naming : IsNaming blocks c.make_least.new.names = subst (λ n. IsNaming n c.make_least.new.names) counted c.make_least.ensures.naming in
    let tight : IsTight blocks cost c.args.price.now c.args.discount.now c.make_least.new.names = tight_if_allowed blocks cost
    c.args.price.now c.args.discount.now c.args.names.now c.make_least.new.names takers counted exact c.requires.tight naming
    c.make_least.ensures.allowed in
    first_from_least blocks cost c.args.price.now c.args.discount.now c.make_least.new.names takers counted exact tight c.make_least.ensures.least

pub make_least-requires-clause-left : goal.make_least-requires-clause-left
make_least-requires-clause-left c =
    let blocks : ℕ = c.args.table.now.blocks in
    let cost : ℕ → ℕ → ℕ = cost_at c.args.table.now in
    let width : ℕ = c.args.width in
    let takers : List (List ℕ) = c.new-takers.result in
    let same : takers ≡ rows width blocks c.write_takers.new.words = c.new-takers.ensures.value ∙ ap (λ n. rows width n c.write_takers.new.words) c.blocks-blocks.ensures.value in
    let counted : length takers ≡ blocks = ap (λ (xs : List (List ℕ)). length xs) same ∙ rows_counted width blocks c.write_takers.new.words in
    record {
      wide = omega (arith, counted, c.requires.wide, c.split_at_mut-left.ensures.front_len);
      narrow = omega (arith, c.requires.narrow, c.split_at_mut-left.ensures.front_len);
    }

pub make_least-requires-clause-waiting : goal.make_least-requires-clause-waiting
make_least-requires-clause-waiting c =
    let blocks : ℕ = c.args.table.now.blocks in
    let cost : ℕ → ℕ → ℕ = cost_at c.args.table.now in
    let width : ℕ = c.args.width in
    let takers : List (List ℕ) = c.new-takers.result in
    let same : takers ≡ rows width blocks c.write_takers.new.words = c.new-takers.ensures.value ∙ ap (λ n. rows width n c.write_takers.new.words) c.blocks-blocks.ensures.value in
    let counted : length takers ≡ blocks = ap (λ (xs : List (List ℕ)). length xs) same ∙ rows_counted width blocks c.write_takers.new.words in
    let product : c.blocks-blocks.result * width ≡ blocks * width = ap (λ n. n * width) c.blocks-blocks.ensures.value in
    let spread : (blocks + 2) * width ≡ blocks * width + 2 * width = omega arith in
    let rest : length c.split_at_mut-left.result.1.now ≡ width = omega
    (arith, product, spread, c.requires.sets, c.split_at_mut-words.ensures.back_len, c.split_at_mut-left.ensures.back_len) in
    record { wide = omega (arith, counted, c.requires.wide, rest); narrow = omega (arith, c.requires.narrow, rest) }

pub make_least-requires-clause-next : goal.make_least-requires-clause-next
make_least-requires-clause-next c =
    let blocks : ℕ = c.args.table.now.blocks in
    let cost : ℕ → ℕ → ℕ = cost_at c.args.table.now in
    let width : ℕ = c.args.width in
    let takers : List (List ℕ) = c.new-takers.result in
    let same : takers ≡ rows width blocks c.write_takers.new.words = c.new-takers.ensures.value ∙ ap (λ n. rows width n c.write_takers.new.words) c.blocks-blocks.ensures.value in
    let counted : length takers ≡ blocks = ap (λ (xs : List (List ℕ)). length xs) same ∙ rows_counted width blocks c.write_takers.new.words in
    omega (arith, counted, c.requires.next)

pub make_least-requires-clause-naming : goal.make_least-requires-clause-naming
make_least-requires-clause-naming c =
    let blocks : ℕ = c.args.table.now.blocks in
    let cost : ℕ → ℕ → ℕ = cost_at c.args.table.now in
    let width : ℕ = c.args.width in
    let takers : List (List ℕ) = c.new-takers.result in
    let same : takers ≡ rows width blocks c.write_takers.new.words = c.new-takers.ensures.value ∙ ap (λ n. rows width n c.write_takers.new.words) c.blocks-blocks.ensures.value in
    let counted : length takers ≡ blocks = ap (λ (xs : List (List ℕ)). length xs) same ∙ rows_counted width blocks c.write_takers.new.words in
    subst (λ n. IsNaming n c.args.names.now) (sym counted) c.requires.tight.naming

pub write_takers-requires-clause-none : goal.write_takers-requires-clause-none
write_takers-requires-clause-none c = λ b p inside.
    none_in_rows c.args.width c.args.table.now.blocks c.split_at_mut-words.result.0.now b p
    (λ w within. ap (λ (xs : List ℕ). slice_index xs w) c.split_at_mut-words.ensures.front
    ∙ get_or-take _ c.args.sets.now w 0 (omega (arith, within, c.split_at_mut-words.ensures.front_len))
    ∙ c.requires.none w (omega (arith, within, c.split_at_mut-words.ensures.front_len, c.split_at_mut-words.ensures.back_len))) inside
