use Rattle.std.proofs.Common.{length-append, arith, ◌+◌, ◌∙◌}
use Rattle.schedule_run.proofs.Verdicts.{verdicts_more}
use Rattle.schedule_run.proofs.seeds.try_seeds.Goals as goal

pub loop-before-preserved : goal.loop-before-preserved
loop-before-preserved g c =
    let before = c.loop-before in
    rw c.in_ok-push.ensures.items (record {
      verdicts =
          verdicts_more g.row.A.Denot g.C.Chare.step g.C.Pup.fits g.C.Pup.pack g.C.Chare.refuses g.C.Pup.unpack (g.K.Cast.chares c.args.cast.now) c.args.schedule.now
          1 before.verdicts.items c.in_ok-verdict_of.field-0 (c.from-seed.result + 1)
          (omega (arith, c.from-seed.ensures, before.invariant.each)) before.invariant.verdicts
          c.in_ok-verdict_of.ensures.verdict;
      each = length-append before.verdicts.items _ ∙ omega (arith, before.invariant.each);
    })
