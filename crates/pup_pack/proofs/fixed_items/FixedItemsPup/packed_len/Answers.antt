use Rattle.std.proofs.Common.{length, ap}
use Rattle.pup_pack.proofs.Products.{list_told}
use Rattle.pup_pack.proofs.fixed_items.FixedItemsPup.packed_len.Goals as goal

pub returns-clause-len : goal.returns-clause-len
returns-clause-len g c =
    rw (← c.self.view_is) (list_told g.T.Pup.fits g.T.Pup.pack g.T.FixedLen.each g.met.T.FixedLen.is_fixed c.self.inside.all.items c.self.invariant
    (length c.as_slice.result.now) c.fixed_len.result c.all_len.result c.both_len.result (ap length c.as_slice.ensures.value)
    (record { few = c.fixed_len.ensures.len; many = c.fixed_len.ensures.over })
    (record { few = c.all_len.ensures.len; many = c.all_len.ensures.over }) (record { few = c.both_len.ensures.len; many = c.both_len.ensures.over })).few

pub returns-clause-over : goal.returns-clause-over
returns-clause-over g c =
    rw (← c.self.view_is) (list_told g.T.Pup.fits g.T.Pup.pack g.T.FixedLen.each g.met.T.FixedLen.is_fixed c.self.inside.all.items c.self.invariant
    (length c.as_slice.result.now) c.fixed_len.result c.all_len.result c.both_len.result (ap length c.as_slice.ensures.value)
    (record { few = c.fixed_len.ensures.len; many = c.fixed_len.ensures.over })
    (record { few = c.all_len.ensures.len; many = c.all_len.ensures.over }) (record { few = c.both_len.ensures.len; many = c.both_len.ensures.over })).many
