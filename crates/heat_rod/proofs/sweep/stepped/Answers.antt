use Rattle.std.proofs.Common.{◌≡◌, ◌+◌, ◌<◌, get_or, length, map, refl, ap, ◌∙◌, arith}
use Rattle.std.proofs.lemmas.Grind.{common_steps}
use Rattle.std.proofs.lemmas.Option.{unwrap_or-slice_get}
use Rattle.std.specs.Float.{nan}
use Rattle.std.specs.List.{fold, range_with_len}
use Rattle.reductions.specs.Combining.{greatest_f64}
use Rattle.heat_rod.specs.declared.sweep.TheConstants.{STILL}
use Rattle.heat_rod.specs.Sweeps.{change_at, next_at}
use Rattle.heat_rod.proofs.Steps.{at_place, beside_next, change_is, change_more, next_more}
use Rattle.heat_rod.proofs.sweep.stepped.Goals as goal

pub loop-i-preserved : goal.loop-i-preserved
loop-i-preserved g c =
    let i = c.loop-i.i in
    let cells = c.args.cells.now in
    let left = c.args.left in
    let right = c.args.right in
    let lt : i < length cells = omega arith in
    let after : c.unwrap_or-after.result ≡ get_or cells (i + 1) right = grind (arith, common_steps, unwrap_or-slice_get) in
    let heat : c.next_cell-heat.result ≡ next_at left cells right i = at_place left cells right i c.loop-i.before (get_or cells i nan)
    c.unwrap_or-after.result c.next_cell-heat.result nan lt c.loop-i.invariant.beside refl after c.next_cell-heat.ensures.value in
    let change : c.abs.result ≡ change_at left cells right i = change_is left cells right i c.next_cell-heat.result c.abs.result nan lt c.abs.ensures.value heat in
    record {
      beside = beside_next left cells i nan lt;
      cells = next_more left cells right i c.next_cell-heat.result c.loop-i.next.items c.push.new.self.items c.loop-i.invariant.cells c.in_ok-push.ensures.items heat;
      change = change_more STILL left cells right i c.abs.result c.loop-i.most c.greatest-most.result c.loop-i.invariant.change c.greatest-most.ensures.value change;
    }

pub returns-clause-next : goal.returns-clause-next
returns-clause-next g c =
    let all : c.loop-i.i ≡ length c.args.cells.now = omega arith in
    c.new.ensures.value ∙ c.loop-i.invariant.cells ∙ ap (λ n. map (next_at c.args.left c.args.cells.now c.args.right) (range_with_len 0 n)) all

pub returns-clause-change : goal.returns-clause-change
returns-clause-change g c =
    let all : c.loop-i.i ≡ length c.args.cells.now = omega arith in
    c.loop-i.invariant.change ∙ ap (λ n. fold greatest_f64 STILL (map (change_at c.args.left c.args.cells.now c.args.right) (range_with_len 0 n))) all
