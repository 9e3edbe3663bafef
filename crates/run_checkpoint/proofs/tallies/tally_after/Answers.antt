use Rattle.std.proofs.Common.{◌≡◌, ◌<◌, List, ℕ, map, replicate, slice_index, take, ap, ◌∙◌, arith, length}
use Rattle.std.specs.Prelude.{Vec, sum}
use Rattle.run_checkpoint.specs.Tallies.{amounts_of, sender}
use Rattle.std.proofs.lemmas.List.Elements.{All-take}
use Rattle.run_checkpoint.proofs.Collecting.{collected_rows, row_inside, same_tally, summed, tally_within}
use Rattle.run_checkpoint.proofs.tallies.tally_after.Goals as goal

pub collect-requires : goal.collect-requires
collect-requires g c =
    let rows = c.workload.inside.amounts.items in
    let is : map (λ (row : Vec ℕ g.row.A.Denot). row.items) rows ≡ c.args.workload.now.amounts = ap (λ w. w.amounts) c.workload.view_is in
    record { inside = rw c.deref.ensures.value (row_inside rows c.args.workload.now.chares c.args.i (rw is c.requires.within.each_chare) c.requires.chare) }

pub sum_of-sum-requires-clause-inside : goal.sum_of-sum-requires-clause-inside
sum_of-sum-requires-clause-inside g c =
    let rows = c.workload.inside.amounts.items in
    let is : map (λ (row : Vec ℕ g.row.A.Denot). row.items) rows ≡ c.args.workload.now.amounts = ap (λ w. w.amounts) c.workload.view_is in
    let chares : c.workload.inside.chares ≡ c.args.workload.now.chares = ap (λ w. w.chares) c.workload.view_is in
    let below : c.sender-from.result < c.args.workload.now.chares = omega (arith, c.sender-from.ensures.inside, chares) in
    rw c.deref-2.ensures.value
    (All-take (λ (row : Vec ℕ g.row.A.Denot). c.sender-from.result < length row.items) c.args.rounds rows
    (row_inside rows c.args.workload.now.chares c.sender-from.result (rw is c.requires.within.each_chare) below))

pub returns : goal.returns
returns g c =
    let w = c.args.workload.now in
    let rows = c.workload.inside.amounts.items in
    let is : map (λ (row : Vec ℕ g.row.A.Denot). row.items) rows ≡ w.amounts = ap (λ v. v.amounts) c.workload.view_is in
    let pads : c.workload.inside.pad ≡ w.pad = ap (λ v. v.pad) c.workload.view_is in
    let chares : c.workload.inside.chares ≡ w.chares = ap (λ v. v.chares) c.workload.view_is in
    let from : c.sender-from.result ≡ sender w.chares c.args.i = c.sender-from.ensures.value ∙ ap (λ n. sender n c.args.i) chares in
    let total : c.sum_of-sum.result ≡ sum (take c.args.rounds (amounts_of w (sender w.chares c.args.i))) =
    summed rows w.amounts c.args.rounds c.sender-from.result (sender w.chares c.args.i) c.sum_of-sum.result (rw c.deref-2.ensures.value at c.sum_of-sum.ensures) is from in
    let found = collected_rows rows c.args.i c.collect.new.amounts.items (rw c.deref.ensures.value at c.in_ok-collect.ensures.collected) in
    let amounts : c.new.result ≡ amounts_of w c.args.i = c.new.ensures.value ∙ found ∙ ap (map (λ (row : List ℕ). slice_index row c.args.i)) is in
    let pad : c.in_ok-pad.pad ≡ replicate w.pad 0 = c.in_ok-pad.ensures.value ∙ ap (λ n. replicate n 0) pads in
    record {
      value = c.made.ensures.value
          ∙ same_tally c.args.rounds c.sum_of-sum.result (sum (take c.args.rounds (amounts_of w (sender w.chares c.args.i)))) c.new.result (amounts_of w c.args.i) c.in_ok-pad.pad
          (replicate w.pad 0) total amounts pad;
    }

pub made-requires : goal.made-requires
made-requires g c =
    let w = c.args.workload.now in
    let rows = c.workload.inside.amounts.items in
    let is : map (λ (row : Vec ℕ g.row.A.Denot). row.items) rows ≡ w.amounts = ap (λ v. v.amounts) c.workload.view_is in
    let pads : c.workload.inside.pad ≡ w.pad = ap (λ v. v.pad) c.workload.view_is in
    let found = collected_rows rows c.args.i c.collect.new.amounts.items (rw c.deref.ensures.value at c.in_ok-collect.ensures.collected) in
    let amounts : c.new.result ≡ amounts_of w c.args.i = c.new.ensures.value ∙ found ∙ ap (map (λ (row : List ℕ). slice_index row c.args.i)) is in
    let pad : c.in_ok-pad.pad ≡ replicate w.pad 0 = c.in_ok-pad.ensures.value ∙ ap (λ n. replicate n 0) pads in
    record { within = rw (amounts, pad) (tally_within w c.args.rounds c.args.i c.sum_of-sum.result c.requires.within c.requires.rounds) }
