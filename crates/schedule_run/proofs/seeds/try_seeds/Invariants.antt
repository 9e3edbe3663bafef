use Rattle.std.proofs.Common.{◌≡◌, length}
use Rattle.schedule_run.specs.Seeds.{AreVerdicts}
use Rattle.schedule_run.proofs.seeds.try_seeds.Given as goal

abbrev pub invariant-loop-before : goal.invariant-loop-before
invariant-loop-before g l = record {
  verdicts : AreVerdicts g.row.A.Denot g.C.Chare.step g.C.Pup.fits g.C.Pup.pack g.C.Chare.refuses g.C.Pup.unpack (g.K.Cast.chares l.cast) l.schedule
      1 l.verdicts.items;
  each : length l.verdicts.items ≡ l.before;
}
