use Rattle.std.proofs.Common.{refl}
use Rattle.any_order.proofs.Mosts.{joins_own, joins_other}
use Rattle.any_order.proofs.most.joined.Goals as goal

pub returns-then-pe-own-clause-most : goal.returns-then-pe-own-clause-most
returns-then-pe-own-clause-most c = λ held next before here more. joins_own held next c.args.own c.args.element c.args.most before more c.if-pe-own.true

pub returns-clause-most : goal.returns-clause-most
returns-clause-most c = λ held next before here more.
    joins_other held next c.args.own c.args.element c.args.most c.raised.result (c.args.element.1) (c.from.result) c.args.kept.now
    c.raised.ensures c.if-pe-own.false refl c.from.ensures before here more
