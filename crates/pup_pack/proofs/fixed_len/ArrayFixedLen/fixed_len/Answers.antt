use Rattle.pup_pack.proofs.Products.{product_told}
use Rattle.pup_pack.proofs.fixed_len.ArrayFixedLen.fixed_len.Goals as goal

pub returns-clause-len : goal.returns-clause-len
returns-clause-len g c =
    (product_told g.row.N g.T.FixedLen.each c.fixed_len.result c.all_len.result
    (record { few = c.fixed_len.ensures.len; many = c.fixed_len.ensures.over }) (record { few = c.all_len.ensures.len; many = c.all_len.ensures.over })).few

pub returns-clause-over : goal.returns-clause-over
returns-clause-over g c =
    (product_told g.row.N g.T.FixedLen.each c.fixed_len.result c.all_len.result
    (record { few = c.fixed_len.ensures.len; many = c.fixed_len.ensures.over }) (record { few = c.all_len.ensures.len; many = c.all_len.ensures.over })).many
