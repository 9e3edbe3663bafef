use Rattle.std.proofs.Common.{◌≡◌, ℕ, ◌≤◌, List, length}
use Rattle.std.specs.Io.KnownBytes.{Consumes}
use Rattle.workload.specs.declared.form.TheConstants.{TEXT_BYTES}
use Rattle.workload.specs.declared.reading.TheConstants.{PIECE_LEN}
use Rattle.workload.specs.Machine.{IsJudged}
use Rattle.workload.proofs.reading.feed_from.Given as goal

abbrev pub invariant-loop-call : goal.invariant-loop-call
invariant-loop-call g l =
    (text : List ℕ) × Consumes (g.R.Read.remaining l.fn.reader) (g.R.Read.remaining l.reader) text × IsJudged text l.judge l.judged ×
    (length text ≡ l.taken) × (l.taken ≤ TEXT_BYTES) × (length l.piece ≡ PIECE_LEN) × (l._call ≤ l.log.reads)
