use Rattle.std.proofs.Common.{◌+◌, ◌-◌, ◌*◌, ◌≤◌, take, ap, ◌∙◌, Err, subst, sym, arith}
use Rattle.std.proofs.lemmas.Result.{err_from_is_err_and}
use Rattle.dump_writing.specs.Writing.{Puts}
use Rattle.dump_writing.proofs.Sending.{none_gone, block_gone, block_stopped}
use Rattle.dump_writing.proofs.putting.put_items.Goals as goal

pub loop-first-init : goal.loop-first-init
loop-first-init g c = record {
  inside = omega arith;
  gone = none_gone (g.L.Items.item c.args.list.now) (g.W.Write.contents c.args.writer.now);
}

pub returns-in_err-put-clause-written : goal.returns-in_err-put-clause-written
returns-in_err-put-clause-written g c =
    let p = err_from_is_err_and c.from_residual.result c.from_residual.ensures.1 in
    let ordered : c.loop-first.first ≤ c.loop-first.first + c.min.result = omega arith in
    let inside : c.loop-first.first + c.min.result ≤ g.L.Items.count c.args.list.now = omega arith in
    let block = take (g.row.N * (c.loop-first.first + c.min.result - c.loop-first.first)) c.fill.new.block in
    subst (Puts (g.W.Write.contents c.args.writer.now) (g.W.Write.contents c.put.new.writer) (g.L.Items.text c.args.list.now)) (sym (p.1 ∙ ap Err p.2))
    (block_stopped (g.L.Items.item c.args.list.now) c.loop-first.first (c.loop-first.first + c.min.result) (g.L.Items.count c.args.list.now) block (g.L.Items.text c.args.list.now)
    (g.W.Write.contents c.args.writer.now) (g.W.Write.contents c.loop-first.writer) (g.W.Write.contents c.put.new.writer)
    c.in_err-put.field-0.0 ordered inside (g.met.L.Items.is_joined c.args.list.now) c.fill.ensures c.loop-first.invariant.gone c.in_err-put.ensures.written)

pub loop-first-preserved : goal.loop-first-preserved
loop-first-preserved g c =
    let ordered : c.loop-first.first ≤ c.loop-first.first + c.min.result = omega arith in
    let inside : c.loop-first.first + c.min.result ≤ g.L.Items.count c.args.list.now = omega arith in
    let block = take (g.row.N * (c.loop-first.first + c.min.result - c.loop-first.first)) c.fill.new.block in record {
      inside = inside;
      gone = block_gone (g.L.Items.item c.args.list.now) c.loop-first.first (c.loop-first.first + c.min.result) block
          (g.W.Write.contents c.args.writer.now) (g.W.Write.contents c.loop-first.writer) (g.W.Write.contents c.put.new.writer) ordered
          c.fill.ensures c.loop-first.invariant.gone c.in_ok-put.ensures.written;
    }
