use Rattle.std.proofs.Common.{◌≡◌, ◌≤◌, length}
use Rattle.std.specs.Io.KnownBytes.{Consumes}
use Rattle.run_checkpoint.specs.declared.form.TheConstants.{TEXT_BYTES}
use Rattle.run_checkpoint.specs.declared.whole.TheConstants.{PIECE_LEN}
use Rattle.run_checkpoint.proofs.whole.read_onto.Given as goal

abbrev pub invariant-loop-call : goal.invariant-loop-call
invariant-loop-call g l = record {
  read : Consumes (g.R.Read.remaining l.fn.reader) (g.R.Read.remaining l.reader) l.bytes.items;
  few : length l.bytes.items ≤ TEXT_BYTES;
  room : length l.piece ≡ PIECE_LEN;
  called : l._call ≤ l.log.reads;
}
