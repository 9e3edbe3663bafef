-- The files that are written beside the text of a run.
use Rattle.std.specs.Prelude.{ℕ, List, codes, ◌++◌}
use Rattle.workload_run.specs.Lines.{newline}
use Rattle.workload_run.specs.declared.beside.Beside.{Beside}
use Rattle.workload_run.specs.declared.beside.Beside.TheVariants.{Events, Trace}

-- the line where one was not written
abbrev pub lost_line : Beside → List ℕ
lost_line Events = codes "events: write failed" ++ newline
lost_line Trace = codes "trace: write failed" ++ newline
