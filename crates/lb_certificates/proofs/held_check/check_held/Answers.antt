use Rattle.lb_certificates.proofs.HeldFlaws.{blocks_of_answer, cheapest_of_answer, moved_of_answer}
use Rattle.lb_certificates.proofs.held_check.check_held.Goals as goal

pub returns-clause-of_blocks : goal.returns-clause-of_blocks
returns-clause-of_blocks g c sizes cuts table =
    let a = c.args in
    let named = rw (c.as_slice.ensures.value, c.as_slice-2.ensures.value, c.as_slice-3.ensures.value) at c.check_table.ensures.named in
    let first = rw (c.as_slice.ensures.value, c.as_slice-2.ensures.value, c.as_slice-3.ensures.value) at c.check_table.ensures.first_flaw in
    blocks_of_answer a.blocks sizes cuts a.held.now a.naming.now a.prices.now.u a.prices.now.v c.check_table.result c.requires.table table named first

pub returns-clause-moved_of_blocks : goal.returns-clause-moved_of_blocks
returns-clause-moved_of_blocks g c sizes cuts table =
    let a = c.args in
    let named = rw (c.as_slice.ensures.value, c.as_slice-2.ensures.value, c.as_slice-3.ensures.value) at c.check_table.ensures.named in
    let moved = rw c.as_slice.ensures.value at c.check_table.ensures.moved in
    moved_of_answer a.blocks sizes cuts a.held.now a.naming.now a.prices.now.u a.prices.now.v c.check_table.result c.requires.table table named moved

pub returns-clause-cheapest : goal.returns-clause-cheapest
returns-clause-cheapest g c sizes cuts table =
    let a = c.args in
    let named = rw (c.as_slice.ensures.value, c.as_slice-2.ensures.value, c.as_slice-3.ensures.value) at c.check_table.ensures.named in
    cheapest_of_answer a.blocks sizes cuts a.held.now a.naming.now a.prices.now.u a.prices.now.v c.check_table.result c.requires.table table named
