use Rattle.run_text.specs.Sums.{sums_in}
use Rattle.run_account.proofs.Noting.{noted_more}
use Rattle.run_text.proofs.sums.note_items.Goals as goal

pub loop-item-preserved : goal.loop-item-preserved
loop-item-preserved g c =
    let at = c.loop-item in
    let read = c.item-item in
    noted_more (λ x. sums_in x.parcel) c.args.items.now at.item-index read.result c.args.sums.now at.sums _ c.loop-item-test.true read.is at.invariant c.note_parcel.ensures
