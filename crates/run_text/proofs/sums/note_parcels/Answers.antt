use Rattle.run_text.specs.Sums.{sums_in}
use Rattle.run_account.proofs.Noting.{noted_more}
use Rattle.run_text.proofs.sums.note_parcels.Goals as goal

pub loop-parcel-preserved : goal.loop-parcel-preserved
loop-parcel-preserved g c =
    let at = c.loop-parcel in
    let read = c.parcel-item in
    noted_more sums_in c.args.parcels.now at.parcel-index read.result c.args.sums.now at.sums _ c.loop-parcel-test.true read.is at.invariant c.note_parcel.ensures
