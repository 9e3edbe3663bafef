-- When a line may be written.
use Rattle.std.specs.Prelude.{ℕ, ◌+◌, ◌-◌, ◌^◌, min}
use Rattle.progress_line.specs.declared.teller.TheConstants.{GAP}

-- the time from which the next line may be written, where one is written now
abbrev pub next_turn : ℕ → ℕ
next_turn now = min (now + GAP) (2 ^ 64 - 1)
