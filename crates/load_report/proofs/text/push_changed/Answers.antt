use Rattle.std.proofs.Common.{◌≡◌, ◌++◌, ◌∙◌, ap, refl, subst, OnOk}
use Rattle.load_report.specs.Figures.{spread_of, traffic_of}
use Rattle.load_report.specs.Text.{changes_of, line}
use Rattle.load_report.specs.declared.figures.Spread.{Spread}
use Rattle.load_report.proofs.SameColumns.{same_changes, same_columns}
use Rattle.load_report.proofs.text.push_changed.Goals as goal

pub returns : goal.returns
returns g c =
    let s = c.args.snapshot.now in
    let places = c.args.places.now in
    let pes = c.args.pes in
    let spread : Spread = spread_of s.loads places pes in
    let counted : c.of-spread.result ≡ spread = c.of-spread.ensures.value ∙ ap (λ loads. spread_of loads places pes) c.loads.ensures.value in
    let changes : c.of-changes.result ≡ changes_of spread c.args.change (traffic_of s places pes) = c.of-changes.ensures
    ∙ same_changes c.of-spread.result spread c.args.change c.args.change c.in_ok-traffic.traffic (traffic_of s places pes) counted refl c.in_ok-traffic.ensures.value in
    subst (λ columns. OnOk c.push_line.result (c.push_line.new.text.items ≡ c.args.text.now.items ++ line c.args.csv c.args.name.now columns))
    (c.placement_columns.ensures
    ∙ same_columns c.args.word c.step.result s.step c.of-spread.result spread c.of-changes.result
    (changes_of spread c.args.change (traffic_of s places pes)) c.step.ensures.value counted changes)
    c.push_line.ensures
