use Rattle.std.proofs.Common.{◌≡◌, ◌≤◌, length}
use Rattle.std.specs.Io.KnownBytes.{Consumes}
use Rattle.schedule_run.specs.declared.lists.TheConstants.{PIECE_LEN}
use Rattle.schedule_run.proofs.lists.read_onto.Given as goal

abbrev pub invariant-loop-call : goal.invariant-loop-call
invariant-loop-call g l = record {
  gone : Consumes (g.R.Read.remaining l.fn.reader) (g.R.Read.remaining l.reader) l.bytes.items;
  room : length l.piece ≡ PIECE_LEN;
  called : l._call ≤ l.log.reads;
}
