use Rattle.std.proofs.Common.{ℕ, subst}
use Rattle.std.specs.Prelude.{Vec}
use Rattle.std.specs.List.{flat_map}
use Rattle.std.specs.Io.KnownBytes.{Appends}
use Rattle.std.proofs.lemmas.List.{take_all}
use Rattle.std.proofs.KnownBytes.{Appends-nil}
use Rattle.workload.specs.Text.{amounts_text}
use Rattle.run_checkpoint.proofs.WrittenParts.{piece_put, piece_fails}
use Rattle.run_checkpoint.proofs.writing.put_amounts.Goals as goal

pub loop-row-init : goal.loop-row-init
loop-row-init g c = Appends-nil (g.W.Write.contents c.args.writer.now)

pub loop-row-preserved : goal.loop-row-preserved
loop-row-preserved g c =
    piece_put (λ (row : Vec ℕ g.row.A.Denot). amounts_text row.items) c.args.rows.now c.loop-row.row-index c.row-item.result c.loop-row-test.true c.row-item.is
    (g.W.Write.contents c.args.writer.now) (g.W.Write.contents c.loop-row.writer) (g.W.Write.contents c.put_line.new.writer) c.loop-row.invariant
    (rw c.deref.ensures.value at c.in_ok-put_line.ensures)

pub returns-in_err-put_line : goal.returns-in_err-put_line
returns-in_err-put_line g c =
    piece_fails (λ (row : Vec ℕ g.row.A.Denot). amounts_text row.items) c.args.rows.now c.loop-row.row-index c.row-item.result c.loop-row-test.true c.row-item.is _
    (g.W.Write.contents c.args.writer.now) (g.W.Write.contents c.loop-row.writer) (g.W.Write.contents c.put_line.new.writer) c.in_err-put_line.field-0.0 c.from_residual.result
    c.loop-row.invariant (rw c.deref.ensures.value at c.in_err-put_line.ensures) c.from_residual.ensures.1

pub returns : goal.returns
returns g c =
    subst (λ rows. Appends (g.W.Write.contents c.args.writer.now) (g.W.Write.contents c.loop-row.writer) (flat_map (λ (row : Vec ℕ g.row.A.Denot). amounts_text row.items) rows))
    (take_all c.loop-row.row-index c.args.rows.now c.loop-row-test.false) c.loop-row.invariant
