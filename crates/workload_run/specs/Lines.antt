-- The one line that is written where there is no outcome.
use Rattle.std.specs.Prelude.{ℕ, List, [], ◌∷◌, ◌++◌, codes}
use Rattle.std.specs.Fmt.{decimal}
use Rattle.workload.specs.declared.error.WorkError.{WorkError}
use Rattle.workload.specs.declared.error.WorkError.TheVariants.{Form, Limit, Long, Read, OutOfMemory}

abbrev pub newline : List ℕ
newline = 10 ∷ []

-- the line where memory was refused
abbrev pub memory_line : List ℕ
memory_line = codes "out of memory" ++ newline

-- the line of a fault of a workload
abbrev pub fault_line : WorkError → List ℕ
fault_line (Form k) = codes "workload: line " ++ decimal k ++ newline
fault_line (Limit k) = codes "workload: limit in line " ++ decimal k ++ newline
fault_line Long = codes "workload: too long" ++ newline
fault_line Read = codes "workload: read failed" ++ newline
fault_line OutOfMemory = memory_line
