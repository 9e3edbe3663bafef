use Rattle.std.proofs.Common.{◌≡◌, ◌≤◌, length, true}
use Rattle.schedules.specs.Shrinking.{IsWhole}
use Rattle.schedules.proofs.shrinking.without_chunks.Given as goal

abbrev pub invariant-loop-turn : goal.invariant-loop-turn
invariant-loop-turn g l = record {
  bad : g.S.Suspect.is_bad l.suspect l.best ≡ true;
  whole : IsWhole g.C.Chare.step g.C.Pup.fits g.C.Pup.pack g.C.Chare.refuses g.C.Pup.unpack (g.K.Cast.chares l.cast) l.schedule.pes l.schedule.strategy l.best;
  few : length l.best.steps ≤ length l.fn.bad.steps;
}
