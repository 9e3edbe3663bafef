use Rattle.std.proofs.Common.{◌≡◌, ◌≤◌, ℕ, List, length, Ok}
use Rattle.std.specs.Io.KnownBytes.{Consumes}
use Rattle.dump_format.specs.Faults.{IsGood}
use Rattle.lb_dump.specs.declared.decoding.TheConstants.{PIECE_LEN}
use Rattle.lb_dump.proofs.decoding.feed_from.Given as goal

abbrev pub invariant-loop-call : goal.invariant-loop-call
invariant-loop-call g l =
    (text : List ℕ) × (l.dump ≡ Ok text) × Consumes (g.R.Read.remaining l.fn.reader) (g.R.Read.remaining l.reader) text × IsGood text × (length l.piece ≡ PIECE_LEN) × (l._call ≤ l.log.reads)
