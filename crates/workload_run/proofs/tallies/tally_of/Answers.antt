use Rattle.std.proofs.Common.{◌≡◌, List, ℕ, map, slice_index, ap, refl, ◌∙◌}
use Rattle.std.specs.Prelude.{Vec}
use Rattle.workload_run.proofs.Collecting.{collected_rows, row_inside}
use Rattle.workload_run.proofs.tallies.tally_of.Goals as goal

pub collect-requires : goal.collect-requires
collect-requires g c =
    let rows = c.workload.inside.amounts.items in
    let is : map (λ (row : Vec ℕ g.row.A.Denot). row.items) rows ≡ c.args.workload.now.amounts = ap (λ w. w.amounts) c.workload.view_is in
    record { inside = rw c.deref.ensures.value (row_inside rows c.args.workload.now.chares c.args.i (rw is c.requires.within.each_chare) c.requires.chare) }

pub returns-in-Ok : goal.returns-in-Ok
returns-in-Ok g c =
    let rows = c.workload.inside.amounts.items in
    let is : map (λ (row : Vec ℕ g.row.A.Denot). row.items) rows ≡ c.args.workload.now.amounts = ap (λ w. w.amounts) c.workload.view_is in
    let pads : c.workload.inside.pad ≡ c.args.workload.now.pad = ap (λ w. w.pad) c.workload.view_is in
    let found = collected_rows rows c.args.i c.collect.new.amounts.items (rw c.deref.ensures.value at c.in_ok-collect.ensures.collected) in
    let amounts : c.deref-2.result.now ≡ map (λ (row : List ℕ). slice_index row c.args.i)
    c.args.workload.now.amounts = c.deref-2.ensures.value ∙ found ∙ ap (map (λ (row : List ℕ). slice_index row c.args.i)) is in
    record { value = c.in-Ok.ensures.value ∙ (rw (amounts, pads) refl) }
