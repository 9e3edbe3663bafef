use Rattle.std.proofs.Common.{◌≡◌, ◌*◌, ◌∙◌, ap, length, length-append, arith}
use Rattle.lb_dump.specs.Heads.{element_len}
use Rattle.lb_dump.specs.Held.{front_text}
use Rattle.lb_dump.proofs.Lengths.{front_length, none_length}
use Rattle.lb_dump.proofs.whole_dump.text_len.Goals as goal

pub returns-in_default-clause-value : goal.returns-in_default-clause-value
returns-in_default-clause-value g c =
    let held = c.args.held.now in
    omega (arith, none_length g.row.A.Denot held.head held.loads.items held.sizes.items held.plan held.moves.items held.begun.items c.requires.held c.in_default.is)

pub returns-clause-value : goal.returns-clause-value
returns-clause-value g c =
    let held = c.args.held.now in
    let many : c.len-2.result ≡ length held.loads.items = omega arith in
    let product : c.element_len.result * c.len-2.result ≡ element_len c.in-Some.head.format * length held.loads.items = ap
    (λ n. n * c.len-2.result) c.element_len.ensures.value ∙ ap (λ n. element_len c.in-Some.head.format * n) many in
    omega (
      arith,
      product,
      c.plan_size.ensures,
      front_length g.row.A.Denot held.head held.loads.items held.sizes.items held.plan
          held.moves.items held.begun.items c.in-Some.head c.requires.held c.in-Some.is,
      length-append (front_text held.head held.loads.items held.sizes.items held.plan held.moves.items) held.begun.items,
    )
