use Rattle.std.proofs.Common.{◌≡◌, ◌++◌, ◌∙◌, subst, OnOk}
use Rattle.load_report.specs.Figures.{present_places, spread_of}
use Rattle.load_report.specs.Text.{line, unchanged}
use Rattle.load_report.specs.declared.cell.Cell.TheVariants.{Present}
use Rattle.load_report.proofs.SameColumns.{same_columns}
use Rattle.load_report.proofs.text.push_present_line.Goals as goal

pub returns : goal.returns
returns g c =
    let s = c.args.snapshot.now in
    subst (λ columns. OnOk c.push_line.result (c.push_line.new.text.items ≡ c.args.text.now.items ++ line c.args.csv c.args.name.now columns))
    (c.placement_columns-columns.ensures
    ∙ same_columns Present c.step.result s.step c.in_ok-spread.spread (spread_of s.loads (present_places s.sizes) s.procs) c.none.result
    unchanged c.step.ensures.value c.in_ok-spread.ensures c.none.ensures)
    c.push_line.ensures
