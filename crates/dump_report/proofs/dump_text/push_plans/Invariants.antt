use Rattle.std.proofs.Common.{◌≡◌, ℕ, List, ◌++◌, take}
use Rattle.dump_report.specs.Reports.{ArePlans}
use Rattle.dump_report.proofs.dump_text.push_plans.Given as goal

abbrev pub invariant-loop-pes : goal.invariant-loop-pes
invariant-loop-pes g l =
    (made : List ℕ) × ArePlans g.row.A.Denot l.style l.name l.snapshot l.tolerance (take l.pes-index l.procs) made × (l.text.items ≡ l.initial.text.items ++ made)
