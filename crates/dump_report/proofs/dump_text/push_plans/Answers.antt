use Rattle.std.proofs.Common.{◌++◌, take, slice_index, ap, subst, sym, ◌∙◌, append_assoc}
use Rattle.std.proofs.lemmas.List.{take_more}
use Rattle.dump_report.specs.Reports.{ArePlans}
use Rattle.dump_report.proofs.Plans.{plans_more}
use Rattle.dump_report.proofs.dump_text.push_plans.Goals as goal

pub loop-pes-preserved : goal.loop-pes-preserved
loop-pes-preserved g c =
    let A = g.row.A.Denot in
    let style = c.args.style in
    let s = c.args.snapshot.now in
    let name = c.args.name.now in
    let procs = c.args.procs.now in
    let i = c.loop-pes.pes-index in
    let so_far = c.loop-pes.invariant in
    let tolerance = c.args.tolerance in
    let said = rw c.of.ensures.value at c.in_ok-push_decided.ensures.decided in
    let are = plans_more A style name s tolerance (take i procs) (slice_index procs i) so_far.0 said.0 so_far.1 said.1 in (
      so_far.0 ++ said.0,
      subst (λ numbers. ArePlans A style name s tolerance numbers (so_far.0 ++ said.0)) (sym (take_more procs i 0 c.loop-pes-test.true)) are,
      said.2 ∙ ap (λ t. t ++ said.0) so_far.2 ∙ append_assoc c.args.text.now.items so_far.0 said.0,
    )
