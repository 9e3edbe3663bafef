use Rattle.rts_core.proofs.Worlds.{lent_at}
use Rattle.rts_core.proofs.world.World.pe.Goals as goal

pub returns : goal.returns
returns g c =
    record {
      value = rw (← c.self.view_is, ← c.get.ensures.value, ← c.deref.ensures.value) (lent_at c.deref.result.now c.get.result c.get-2.result c.get-2.ensures.lookup);
    }
