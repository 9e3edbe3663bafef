use Rattle.std.proofs.Common.{◌≡◌, ◌≤◌, length, true}
use Rattle.schedules.specs.Shrinking.{IsWhole}
use Rattle.schedules.proofs.shrinking.shrink.Given as goal

abbrev pub invariant-loop-size : goal.invariant-loop-size
invariant-loop-size g l = record {
  bad : g.S.Suspect.is_bad l.suspect l.best ≡ true;
  whole : IsWhole g.C.Chare.step g.C.Pup.fits g.C.Pup.pack g.C.Chare.refuses g.C.Pup.unpack (g.K.Cast.chares l.cast) l.schedule.pes l.schedule.strategy l.best;
  few : length l.best.steps ≤ length l.events;
}

abbrev pub decreases-loop-size : goal.decreases-loop-size
decreases-loop-size g l = l.size

abbrev pub invariant-loop-pass : goal.invariant-loop-pass
invariant-loop-pass g l = record {
  bad : g.S.Suspect.is_bad l.suspect l.best ≡ true;
  whole : IsWhole g.C.Chare.step g.C.Pup.fits g.C.Pup.pack g.C.Chare.refuses g.C.Pup.unpack (g.K.Cast.chares l.cast) l.schedule.pes l.schedule.strategy l.best;
  few : length l.best.steps ≤ length l.events;
}
