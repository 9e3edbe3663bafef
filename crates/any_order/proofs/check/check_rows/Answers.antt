use Rattle.std.proofs.Common.{◌≡◌, ◌≢◌, ◌⊎◌, inl, inr, ◌+◌, length, ap, sym, ◌∙◌}
use Rattle.any_order.specs.AnyOrder.{bound_at}
use Rattle.any_order.proofs.FirstFlaws.{row_count_is_first, start_is_first}
use Rattle.any_order.proofs.check.check_rows.Goals.{then-any-pes-via-then-any-pes, then-any-pes-via-else-any-pes+then-free-pes, then-bound_of-ne0-via-then-bound_of-ne0, then-bound_of-ne0-via-else-bound_of-ne0+then-bound_of-ne0-2}
use Rattle.any_order.proofs.check.check_rows.Goals as goal

pub returns-then-any-pes-clause-first_flaw : goal.returns-then-any-pes-clause-first_flaw
returns-then-any-pes-clause-first_flaw g c =
    let r = c.args.reordered.now in
    let wrong : (length r.any ≢ c.args.pes + 1) ⊎ (length r.free ≢ c.args.pes + 1) = elim c.then-any-pes.branch [
      | then-any-pes-via-then-any-pes w ↦ inl (λ counted. w.if-any-pes.true (ap length c.as_slice-any.ensures.value ∙ counted))
      | then-any-pes-via-else-any-pes+then-free-pes w ↦ inr (λ counted. w.if-free-pes.true (ap length c.as_slice-free.ensures.value ∙ counted))
    ] in
    row_count_is_first c.args.snapshot.now.loads c.args.snapshot.now.sizes c.args.pes r c.requires.certified c.requires.ordered c.requires.plan wrong

pub returns-then-bound_of-ne0-clause-first_flaw : goal.returns-then-bound_of-ne0-clause-first_flaw
returns-then-bound_of-ne0-clause-first_flaw g c =
    let r = c.args.reordered.now in
    let any_is : c.bound_of.result ≡ bound_at r.any 0 0 = c.bound_of.ensures.value ∙ ap (λ rows. bound_at rows 0 0) c.as_slice-any.ensures.value in
    let wrong : (bound_at r.any 0 0 ≢ 0) ⊎ (bound_at r.free 0 0 ≢ 0) = elim c.then-bound_of-ne0.branch [
      | then-bound_of-ne0-via-then-bound_of-ne0 w ↦ inl (λ start. w.if-bound_of-ne0.true (any_is ∙ start))
      | then-bound_of-ne0-via-else-bound_of-ne0+then-bound_of-ne0-2 w ↦ inr
          (λ start. w.if-bound_of-ne0-2.true (w.bound_of-else-bound_of-ne0.ensures.value
          ∙ ap (λ rows. bound_at rows 0 0) c.as_slice-free.ensures.value ∙ start))
    ] in
    start_is_first c.args.snapshot.now.loads c.args.snapshot.now.sizes c.args.pes r c.requires.certified c.requires.ordered c.requires.plan
    (record { any = sym (ap length c.as_slice-any.ensures.value) ∙ c.if-any-pes.false; free = sym (ap length c.as_slice-free.ensures.value) ∙ c.if-free-pes.false })
    wrong
