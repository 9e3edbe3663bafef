use Rattle.std.proofs.Common.{sym, subst}
use Rattle.any_order.specs.Internal.{IsMost}
use Rattle.any_order.proofs.Mosts.{more_on_other}
use Rattle.any_order.proofs.most.raised.Goals as goal

pub returns : goal.returns
returns c = λ held next own before foreign here same more.
    subst (λ others. IsMost next own (record { pe = c.args.most.pe; bytes = c.args.most.bytes; others = others })) (sym c.max.ensures)
    (more_on_other held next own c.args.pe c.args.bytes c.args.most before foreign here same more c.if-pe-most.false c.if-bytes-most.false)
