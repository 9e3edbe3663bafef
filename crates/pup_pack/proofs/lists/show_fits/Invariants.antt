use Rattle.std.proofs.Common.{All, take}
use Rattle.pup_pack.proofs.lists.show_fits.Given as goal

abbrev pub invariant-loop-item : goal.invariant-loop-item
invariant-loop-item g l = All g.T.Pup.fits (take l.item-index l.items)
