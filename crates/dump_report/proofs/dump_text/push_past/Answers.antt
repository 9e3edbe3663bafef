use Rattle.std.proofs.Common.{◌≡◌, ℕ, List, ◌++◌, subst, OnOk, Some}
use Rattle.dump_report.specs.Reports.{IsPast}
use Rattle.dump_report.proofs.dump_text.push_past.Goals as goal

pub returns : goal.returns
returns g c =
    let style = c.args.style in
    let name = c.args.name.now in
    let old = c.args.text.now.items in
    let new = c.push_recorded.new.text.items in
    subst (λ r. OnOk c.push_recorded.result ((past : List ℕ) × IsPast style name c.args.dump.now.snapshot r past × (new ≡ old ++ past))) c.in-Some.ensures.value
    (subst (λ s. OnOk c.push_recorded.result ((past : List ℕ) × IsPast style name s (Some c.in-Some.recorded.now) past
    × (new ≡ old ++ past))) c.snapshot.ensures.value c.push_recorded.ensures.text)
