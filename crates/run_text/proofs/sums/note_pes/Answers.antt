use Rattle.run_text.specs.Sums.{sums_at}
use Rattle.run_account.proofs.Noting.{noted_more}
use Rattle.run_text.proofs.sums.note_pes.Goals as goal

pub loop-end-preserved : goal.loop-end-preserved
loop-end-preserved g c =
    let at = c.loop-end in
    noted_more sums_at c.args.ends.now at.end-index c.end-item.result c.args.sums.now at.sums _ c.loop-end-test.true c.end-item.is at.invariant c.note_pe.ensures
